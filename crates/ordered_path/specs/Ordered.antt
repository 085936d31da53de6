-- A certificate that an order asks for, sealed: what the laws of sealed_path and issued_path ask for.
use Rattle.std.specs.Prelude.{List, None, Ok, Some, true, ℕ, ◌≡◌}
use Rattle.issuer_check.specs.Judged.{authority_checked}
use Rattle.pkix_cert.specs.declared.certificate.Certificate.{Certificate}
use Rattle.rcgen_sign.specs.KeyIds.{Method}
use Rattle.rcgen_text.specs.declared.key_usage.KeyUsagePurpose.{KeyUsagePurpose}
use Rattle.shelf_fault.specs.declared.fault.Place.TheVariants as place
use Rattle.shelf_input.specs.declared.blocks.Blocks.{Blocks}
use Rattle.shelf_job.specs.Asked.{CertificateAsked}
use Rattle.shelf_job.specs.Issuers.{is_authority, signs_certificates}
use Rattle.shelf_job.specs.Jobs.{IsSealedWith, job_of, own_named}
use Rattle.shelf_job.specs.declared.job.Job.TheVariants as job
use Rattle.shelf_keys.specs.Signatures.{is_verified, verifier}
use Rattle.shelf_profile.specs.declared.order.Order.{Order}
use Rattle.shelf_profile.specs.declared.signing.Signing.{Signing}
use Rattle.signature_verifier.specs.Accepted.{accepts}
use Rattle.issued_path.specs.Ends.{IsIssuedUnder}
use Rattle.sealed_path.specs.Sealed.{IsSealedUnder}

-- the certificate that an order comes to with these blocks, sealed over the message with the signature, by an algorithm whose signatures are verified
pub record IsSealedOrder (order : Order) (blocks : Blocks) (a : CertificateAsked) (message signature der : List ℕ) : Type 0 where
  pub asked : job_of order blocks ≡ Ok (job.Certificate a)
  pub verified : is_verified a.key.algorithm ≡ true
  pub sealed : IsSealedWith (job.Certificate a) message signature der

-- it was sealed under the issuer's certificate, which is an authority's that may sign certificates and under which what is issued may be valid
pub record IsSealedByAuthority (a : CertificateAsked) (issuer message signature der : List ℕ) : Type 0 where
  pub certificate : Certificate
  pub signing : Signing
  pub method : Method
  pub usages : List KeyUsagePurpose
  pub sealed : IsSealedUnder certificate issuer place.Issuer signing a.key method usages a.params a.subject a.name message signature der
  pub authority : is_authority certificate ≡ true
  pub checked : authority_checked issuer ≡ Ok tt
  pub signs : signs_certificates usages ≡ true

-- an order with its issuer's certificate
abbrev pub OrderedIsSealed : Type 0
OrderedIsSealed =
    (order : Order) (blocks : Blocks) (a : CertificateAsked) (message signature der : List ℕ) → IsSealedOrder order blocks a message signature der
    → (issuer : List ℕ) → blocks.certificate ≡ Some issuer → IsSealedByAuthority a issuer message signature der

-- an order without one: the subject is its own issuer
abbrev pub OwnIsIssued : Type 0
OwnIsIssued =
    (order : Order) (blocks : Blocks) (a : CertificateAsked) (message signature der : List ℕ) → IsSealedOrder order blocks a message signature der
    → blocks.certificate ≡ None → IsIssuedUnder a.params a.subject a.name (own_named a.name a.params a.key) (accepts verifier) message der
