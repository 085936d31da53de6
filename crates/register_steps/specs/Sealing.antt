-- What a signature makes of a message.
use Rattle.std.specs.Prelude.{◌≡◌, ℕ, Bool, true, false, List, Some, None}
use Rattle.asn1_core.specs.Bits.{bits}
use Rattle.der_tree.specs.Form.{IsDerOf}
use Rattle.der_tree.specs.Grammar.{any}
use Rattle.pkix_cert.specs.Algorithms.{algorithm_identifier}
use Rattle.pkix_cert.specs.Views.{CertificateParts, certificate_parts}
use Rattle.pkix_cert.specs.declared.algorithm.AlgorithmIdentifier.{AlgorithmIdentifier}
use Rattle.rcgen_certificate.specs.Signed.{signed, signed_value}
use Rattle.signature_verifier.specs.Accepted.{accepts}
use Rattle.signature_verifier.specs.declared.verifier.SignatureVerifier.{SignatureVerifier}
use Rattle.register_steps.specs.Messages.{algorithm_in}
use Rattle.register_steps.specs.declared.sealing.SealError.{SealError}
use Rattle.register_steps.specs.declared.sealing.SealError.TheVariants as seal

-- who takes no signature with SHA-1
abbrev pub verifier : SignatureVerifier
verifier = record { takes_sha1 = false }

-- the verdict on a signature over the message under the key of the issuer's certificate, by the algorithm that the message names
pub record HasVerdict (issuer message signature : List ℕ) (algorithm : AlgorithmIdentifier) (verdict : Bool) : Type 0 where
  pub parts : CertificateParts
  pub issuer_is : certificate_parts issuer ≡ Some parts
  pub algorithm_is : algorithm_in message ≡ Some algorithm
  pub algorithm_octets : List ℕ
  pub algorithm_form : IsDerOf algorithm_identifier algorithm algorithm_octets
  pub verdict_is : accepts verifier message parts.key_info algorithm_octets signature ≡ verdict

-- der is the message as it is, the algorithm that it names, and a signature that the issuer's key made of it (RFC 5280, 4.1.1, 5.1.1; RFC 5755, 4.1)
pub record IsSealed (issuer message signature der : List ℕ) : Type 0 where
  pub algorithm : AlgorithmIdentifier
  pub accepted : HasVerdict issuer message signature algorithm true
  pub form : IsDerOf (signed any) (signed_value message algorithm (bits 0 signature)) der

-- why nothing is sealed: the issuer's octets begin with no certificate, the message is none of the three, or its signature is another one
abbrev pub ExplainsSeal : List ℕ → List ℕ → List ℕ → SealError → Type 0
ExplainsSeal issuer message signature seal.NoIssuer = certificate_parts issuer ≡ None
ExplainsSeal issuer message signature seal.NotMessage = algorithm_in message ≡ None
ExplainsSeal issuer message signature seal.WrongSignature = (algorithm : AlgorithmIdentifier) × HasVerdict issuer message signature algorithm false
ExplainsSeal issuer message signature seal.OtherIssuer = ⊥
ExplainsSeal issuer message signature seal.OutOfMemory = Unit {0}

-- some signature makes these octets of the message
abbrev pub IsOpened : List ℕ → List ℕ → List ℕ → Type 0
IsOpened issuer octets message = (signature : List ℕ) × IsSealed issuer message signature octets

-- nothing makes these octets, or memory ran out
abbrev pub ExplainsOpen : List ℕ → List ℕ → SealError → Type 0
ExplainsOpen issuer octets seal.OutOfMemory = Unit {0}
ExplainsOpen issuer octets _ = (message : List ℕ) → IsOpened issuer octets message → ⊥
