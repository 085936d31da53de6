-- Versions of trust anchors (RFC 5914, 2.1).
use Rattle.std.specs.Prelude.{◌≡◌, ℕ, Bool, true, nat_eq, List, decimal, refl, ◌↔◌}
use Rattle.std.proofs.Common.{ap, eq-eqb}
use Rattle.std.proofs.lemmas.Bool.{eqb-true}
use Rattle.der_tree.specs.Codec.{Codec}
use Rattle.der_tree.specs.Grammar.{as_type}
use Rattle.der_tree.specs.PrimitiveTypes.{unsigned_64}
use Rattle.pkix_trust.specs.declared.anchor.TrustAnchorInfoVersion.{TrustAnchorInfoVersion}

abbrev pub raw_value : TrustAnchorInfoVersion → ℕ
raw_value v = v.0

abbrev pub anchor_version_of : ℕ → TrustAnchorInfoVersion
anchor_version_of n = record { 0 = n }

abbrev pub anchor_v1 : TrustAnchorInfoVersion
anchor_v1 = anchor_version_of 1

-- the number in decimal
abbrev pub printed_anchor_version : TrustAnchorInfoVersion → List ℕ
printed_anchor_version v = decimal (raw_value v)

-- as Rust's `==`
abbrev pub same_anchor_version : TrustAnchorInfoVersion → TrustAnchorInfoVersion → Bool
same_anchor_version a b = nat_eq a.0 b.0

pub same_anchor_version_exact : (a b : TrustAnchorInfoVersion) → (same_anchor_version a b ≡ true) ↔ (a ≡ b)
same_anchor_version_exact a b = (λ e. ap anchor_version_of (eqb-true a.0 b.0 e), λ e. eq-eqb a.0 b.0 (ap raw_value e))

abbrev pub anchor_version : Codec TrustAnchorInfoVersion
anchor_version = as_type unsigned_64 raw_value anchor_version_of (λ v. refl) (λ n. refl)
