-- Certification paths, and what an input contains (RFC 5280, 6.1).
use Rattle.std.specs.Prelude.{Bool, List, length, ℕ, [], ◌++◌, ◌+◌, ◌∷◌, ◌≡◌}
use Rattle.jiff.specs.Types.{DateTime}
use Rattle.der_tree.specs.Form.{IsDerOf}
use Rattle.pkix_cert.specs.Certificates.{certificate}
use Rattle.pkix_cert.specs.declared.certificate.Certificate.{Certificate}

-- what is asked about (RFC 5280, 6.1.1)
pub record Inputs : Type 0 where
  -- certificates one after the other, that of the leaf first
  pub chain : List ℕ
  -- one certificate, of which the subject and the key are trusted
  pub anchor : List ℕ
  -- a time in UTC
  pub at : DateTime
  -- which signatures are accepted: of what is signed, the DER of the info of a public key, the DER of the signature's algorithm, and the signature
  pub accepts : List ℕ → List ℕ → List ℕ → List ℕ → Bool

abbrev pub inputs : List ℕ → List ℕ → DateTime → (List ℕ → List ℕ → List ℕ → List ℕ → Bool) → Inputs
inputs chain anchor at accepts = record { chain = chain; anchor = anchor; at = at; accepts = accepts }

-- the octets begin with the form of the certificate, and this follows it
pub record BeginsWith (c : Certificate) (octets after : List ℕ) : Type 0 where
  pub form : List ℕ
  pub is_form : IsDerOf certificate c form
  pub parts : octets ≡ form ++ after

-- the octets begin with the forms of the certificates, one after the other, and this follows them
abbrev pub BeginsWithAll : List Certificate → List ℕ → List ℕ → Type 0
BeginsWithAll [] octets rest = octets ≡ rest
BeginsWithAll (c ∷ cs) octets rest = (after : List ℕ) × BeginsWith c octets after × BeginsWithAll cs after rest

-- the octets begin with some certificate's form
abbrev pub BeginsWithCertificate : List ℕ → Type 0
BeginsWithCertificate octets = (c : Certificate) × (after : List ℕ) × BeginsWith c octets after

-- the octets are some certificate's form
abbrev pub IsCertificate : List ℕ → Type 0
IsCertificate octets = (c : Certificate) × IsDerOf certificate c octets

-- c(1) to c(n) are the chain, and c(n+1) is the anchor
pub record IsPath (x : Inputs) (chain : List Certificate) (anchor : Certificate) : Type 0 where
  pub is_chain : BeginsWithAll chain x.chain []
  pub is_anchor : IsDerOf certificate anchor x.anchor

-- c(1) to c(i-1), c(i), and c(i+1), which is to be the certificate of the issuer of c(i)
pub record Place : Type 0 where
  pub before : List Certificate
  pub this : Certificate
  pub issuer : Certificate

-- these are at the place i of c(1) to c(n+1)
pub record StandsAt (path : List Certificate) (i : ℕ) (p : Place) : Type 0 where
  pub after : List Certificate
  pub parts : path ≡ p.before ++ (p.this ∷ p.issuer ∷ after)
  pub place : i ≡ length p.before + 1
