-- What a public key is.
use Rattle.std.specs.Prelude.{ℕ, List}
use Rattle.signature_verifier.specs.declared.key_kind.KeyKind.{KeyKind}

-- what it is of, and the octets that the subjectPublicKey holds (RFC 5280, 4.1.2.7)
pub record Key : Type 0 where
  pub kind : KeyKind
  pub octets : List ℕ

abbrev pub key : KeyKind → List ℕ → Key
key kind octets = record { kind = kind; octets = octets }
