-- What is signed, the algorithm and the signature: SIGNED (RFC 5912, 14; RFC 5280, 4.1.1).
use Rattle.std.specs.Prelude.{◌≡◌, ℕ, List, refl}
use Rattle.asn1_core.specs.Bits.{Bits, bits}
use Rattle.der_tree.specs.Codec.{Codec, Struct}
use Rattle.der_tree.specs.Form.{IsDerOf}
use Rattle.der_tree.specs.Grammar.{any, as_struct, required, sequence, ◌&◌, ◌⊗◌}
use Rattle.der_tree.specs.PrimitiveTypes.{bit_string}
use Rattle.der_tree.specs.Tags.{universal}
use Rattle.pkix_cert.specs.Algorithms.{algorithm_identifier}
use Rattle.pkix_cert.specs.declared.algorithm.AlgorithmIdentifier.{AlgorithmIdentifier}
use Rattle.rcgen_sign.specs.declared.sign_algo.SignatureAlgorithm.{SignatureAlgorithm}
use Rattle.rcgen_certificate.specs.KeyValues.{signature_identifier}

-- a value, how its signature's algorithm is named, and the signature
pub record SignedValue (A : Type 0) : Type 0 where
  pub to_be_signed : A
  pub algorithm : AlgorithmIdentifier
  pub signature : Bits

abbrev pub signed_value : {A : Type 0} → A → AlgorithmIdentifier → Bits → SignedValue A
signed_value v a s = record { to_be_signed = v; algorithm = a; signature = s }

unfoldable pub signed_fields : {A : Type 0} → Codec A → Struct (SignedValue A)
signed_fields {A} c = as_struct (
    required c
    & required algorithm_identifier
    & required bit_string
    ) refl
    (λ (v : SignedValue A). v.to_be_signed ⊗ v.algorithm ⊗ v.signature)
    (λ to_be_signed algorithm signature. record { to_be_signed = to_be_signed; algorithm = algorithm; signature = signature }) (λ v. refl) (λ f. refl)

abbrev pub signed : {A : Type 0} → Codec A → Codec (SignedValue A)
signed c = sequence (universal 16) (signed_fields c)

-- der is the octets of what was signed, as they are, with the algorithm and the signature
abbrev pub IsAssembled : List ℕ → SignatureAlgorithm → List ℕ → List ℕ → Type 0
IsAssembled message algorithm signature der =
    IsDerOf (signed any) (signed_value message (signature_identifier algorithm) (bits 0 signature)) der

-- der is the form of the value with the algorithm and the signature, which fits the form of the value
pub record IsSignedBy {A : Type 0} (c : Codec A) (value : A) (algorithm : SignatureAlgorithm) (signature : List ℕ)
    (fits : List ℕ → List ℕ → Type 0) (der : List ℕ) : Type 0 where
  pub message : List ℕ
  pub message_form : IsDerOf c value message
  pub fit : fits message signature
  pub form : IsDerOf (signed c) (signed_value value (signature_identifier algorithm) (bits 0 signature)) der

-- there is such a signature
abbrev pub IsSigned : {A : Type 0} → Codec A → A → SignatureAlgorithm → (List ℕ → List ℕ → Type 0) → List ℕ → Type 0
IsSigned c value algorithm fits der = (signature : List ℕ) × IsSignedBy c value algorithm signature fits der

-- the key may refuse the form of the value
pub record MayRefuse {A : Type 0} (c : Codec A) (value : A) (may_refuse : List ℕ → Type 0) : Type 0 where
  pub message : List ℕ
  pub message_form : IsDerOf c value message
  pub refused : may_refuse message

-- a whole and the part of it that is signed have forms
pub record HaveForms {A B : Type 0} (c : Codec A) (whole : A) (d : Codec B) (part : B) : Type 0 where
  pub der : List ℕ
  pub form : IsDerOf c whole der
  pub message : List ℕ
  pub message_form : IsDerOf d part message

-- one signature alone fits each message
abbrev pub FitsOnce : (List ℕ → List ℕ → Type 0) → Type 0
FitsOnce fits = (message s t : List ℕ) → fits message s → fits message t → s ≡ t
