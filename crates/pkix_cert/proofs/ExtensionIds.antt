-- The identifiers under id-ce, in DER.
use Rattle.std.proofs.Common.{◌≡◌, ◌<◌, ◌^◌, ◌∷◌, [], ℕ, refl, true, arith}
use Rattle.std.proofs.Math.Nat.{div-eq_of_lt, mod-eq_of_lt}
use Rattle.std.proofs.lemmas.Bool.{lt-ltb}
use Rattle.std.specs.Prelude.{nat_lt}
use Rattle.asn1_core.specs.Base128.{base128, digits, digits_zero}
use Rattle.asn1_core.specs.ObjectIdentifiers.{object_identifier_contents}
use Rattle.der_tree.specs.Element.{element_octets, identifier_octets, length_octets}
use Rattle.der_tree.specs.Form.{IsDerOf}
use Rattle.der_tree.specs.PrimitiveTypes.{object_identifier}
use Rattle.pkix_cert.specs.ExtensionIds.{id_ce, id_ce_der}

one_octet : (n : ℕ) → n < 128 → base128 n ≡ n ∷ []
one_octet n h = rw (div-eq_of_lt h, mod-eq_of_lt h, digits_zero 128 128 9) refl

is_arc : (n : ℕ) → n < 128 → nat_lt n (2 ^ 32) ≡ true
is_arc n h = lt-ltb n (2 ^ 32) (omega (arith, h))

pub is_encoded : (n : ℕ) → n < 128 → IsDerOf object_identifier (id_ce n) (id_ce_der n)
unfolding object_identifier_contents element_octets identifier_octets length_octets digits
is_encoded n h = rw (one_octet n h, is_arc n h) (_, _, refl, refl, refl)
