-- What `seal` comes to on a record.
use Rattle.std.specs.Prelude.{◌≡◌, ℕ, Bool, true, false, codes, List, Option, Some, None}
use Rattle.pem.specs.Text.{pem_text}
use Rattle.register_record.specs.Records.{State}
use Rattle.register_record.specs.declared.event.Event.{Event}
use Rattle.register_record.specs.declared.state.Content.{Content}
use Rattle.register_record.specs.declared.state.Content.TheVariants.{Pending, Sealed}
use Rattle.register_record.specs.declared.event.Kind.{Kind}
use Rattle.register_record.specs.declared.event.Kind.TheVariants as kind
use Rattle.register_steps.specs.Sealing.{IsSealed}

-- the label of what is sealed
abbrev pub label : Kind → List ℕ
label kind.Certificate = codes "CERTIFICATE"
label kind.AttributeCertificate = codes "ATTRIBUTE CERTIFICATE"

-- the label of a list
abbrev pub list_label : List ℕ
list_label = codes "X509 CRL"

-- the octets as DER or as PEM
abbrev pub text_of : Bool → List ℕ → List ℕ → List ℕ
text_of true label octets = octets
text_of false label octets = pem_text label octets

-- the issuer's key made the signature of the message, and the octets are what it makes
pub record IsSealedBy (s : State) (message octets : List ℕ) : Type 0 where
  pub issuer : List ℕ
  pub has_issuer : s.issuer ≡ Some issuer
  pub signature : List ℕ
  pub sealed : IsSealed issuer message signature octets

-- what was sealed before is given again, and nothing is recorded; what is pending is sealed, and these octets are recorded
abbrev pub Seals : State → Content → List ℕ → Event → Option Event → Type 0
Seals s (Sealed before) octets e recorded = (octets ≡ before) × (recorded ≡ None)
Seals s (Pending message) octets e recorded = IsSealedBy s message octets × (recorded ≡ Some e)

-- the text is that of the octets
pub record SealsAs (s : State) (is_der : Bool) (label : List ℕ) (content : Content) (e : List ℕ → Event) (recorded : Option Event) (text : List ℕ) : Type 0 where
  pub octets : List ℕ
  pub seals : Seals s content octets (e octets) recorded
  pub text_is : text ≡ text_of is_der label octets
