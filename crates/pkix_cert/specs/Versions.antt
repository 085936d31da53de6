-- Versions (RFC 5280, 4.1.2.1).
use Rattle.std.specs.Prelude.{◌≡◌, ℕ, ◌+◌, ◌-◌, ◌^◌, min, Bool, true, nat_eq, List, decimal, refl, ◌↔◌}
use Rattle.std.proofs.Common.{ap, eq-eqb}
use Rattle.std.proofs.lemmas.Bool.{eqb-true}
use Rattle.der_tree.specs.Codec.{Codec}
use Rattle.der_tree.specs.Grammar.{as_type}
use Rattle.der_tree.specs.PrimitiveTypes.{unsigned_64}
use Rattle.pkix_cert.specs.declared.certificate.Version.{Version}

abbrev pub raw_value : Version → ℕ
raw_value v = v.0

abbrev pub version_of : ℕ → Version
version_of n = record { 0 = n }

abbrev pub v1 : Version
v1 = version_of 0

abbrev pub v3 : Version
v3 = version_of 2

-- the version's name in decimal, and of the last number that number itself
abbrev pub printed_version : Version → List ℕ
printed_version v = decimal (min (raw_value v + 1) (2 ^ 64 - 1))

-- as Rust's `==`
abbrev pub same_version : Version → Version → Bool
same_version a b = nat_eq a.0 b.0

pub same_version_exact : (a b : Version) → (same_version a b ≡ true) ↔ (a ≡ b)
same_version_exact a b = (λ e. ap version_of (eqb-true a.0 b.0 e), λ e. eq-eqb a.0 b.0 (ap raw_value e))

abbrev pub version : Codec Version
version = as_type unsigned_64 raw_value version_of (λ v. refl) (λ n. refl)
