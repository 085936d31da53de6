-- Which values of the primitive types have contents octets, and octets that some value has.
use Rattle.std.specs.Prelude.{Bool, List, None, Some, cond, false, is_some, nat_le, nat_lt, refl, true, ℕ, [], ◌&&◌, ◌*◌, ◌++◌, ◌+◌, ◌^◌, ◌∷◌, ◌≡◌}
use Rattle.std.specs.Int.Digits.{digits_of}
use Rattle.std.specs.List.{flat_map}
use Rattle.std.proofs.Common.{arith}
use Rattle.std.proofs.lemmas.Bool.{le-leb}
use Rattle.asn1_core.specs.Arcs.{is_oid}
use Rattle.asn1_core.specs.Base128.{base128, base128_at, digits_at}
use Rattle.asn1_core.specs.Binds.{◌>>=◌}
use Rattle.asn1_core.specs.Bits.{Bits, are_bits, bit_string_contents}
use Rattle.asn1_core.specs.Civil.{civil, ten_at}
use Rattle.asn1_core.specs.GeneralizedTime.{generalized_time_contents, nanoseconds_of}
use Rattle.asn1_core.specs.Narrowed.{unsigned_contents}
use Rattle.asn1_core.specs.ObjectIdentifiers.{object_identifier_contents, subidentifiers, subidentifiers_in}
use Rattle.asn1_core.specs.Octets.{boolean_contents, null_contents, octet_contents}
use Rattle.asn1_core.specs.StringTypes.{StringType}
use Rattle.asn1_core.specs.Texts.{text_contents}
use Rattle.asn1_core.specs.TwoDigits.{two_at}
use Rattle.asn1_core.specs.Twos.{integer_contents, is_shortest, unsigned}
use Rattle.asn1_core.specs.Unsigned.{unsigned_64_contents, unsigned_64_to}
use Rattle.asn1_core.specs.UtcTime.{twelve_digits, utc_time_contents}
use Rattle.asn1_core.specs.declared.time.generalized_time.GeneralizedTime.{GeneralizedTime}
use Rattle.asn1_core.specs.declared.time.utc_time.UtcTime.{UtcTime}
use Rattle.der_tree.specs.Primitive.{is_generalized_time, is_number_to, is_text, is_utc_time}
use Rattle.der_tree.specs.laws.Results.{is_some_chosen}

pub a_boolean : is_some (boolean_contents.of (0 ∷ [])) ≡ true
unfolding boolean_contents
a_boolean = refl

pub boolean_has : (v : Bool) → true ≡ is_some (boolean_contents.to v)
unfolding boolean_contents
boolean_has v = refl

pub an_integer : is_some (integer_contents.of (0 ∷ [])) ≡ true
unfolding integer_contents
an_integer = refl

pub integer_has : (v : List ℕ) → is_shortest v ≡ is_some (integer_contents.to v)
unfolding integer_contents
integer_has v = is_some_chosen (is_shortest v) v

pub a_number : is_some (unsigned_64_contents.of (0 ∷ [])) ≡ true
unfolding unsigned_64_contents
a_number = refl

pub unsigned_64_has : (n : ℕ) → nat_lt n (2 ^ 64) ≡ is_some (unsigned_64_contents.to n)
unfolding unsigned_64_contents
unsigned_64_has n = is_some_chosen (nat_lt n (2 ^ 64)) (unsigned (digits_of 256 n))

pub a_small_number : (max : ℕ) → is_some ((unsigned_contents max).of (0 ∷ [])) ≡ true
unfolding unsigned_contents unsigned_64_contents
a_small_number max = rw (le-leb 0 max (omega arith)) refl

small_has : (b : Bool) (n : ℕ) → (b && nat_lt n (2 ^ 64)) ≡ is_some (cond b (Some n) None >>= unsigned_64_to)
small_has true n = is_some_chosen (nat_lt n (2 ^ 64)) (unsigned (digits_of 256 n))
small_has false n = refl

pub unsigned_to_has : (max n : ℕ) → is_number_to max n ≡ is_some ((unsigned_contents max).to n)
unfolding unsigned_contents unsigned_64_contents
unsigned_to_has max n = small_has (nat_le n max) n

pub a_null : is_some (null_contents.of []) ≡ true
unfolding null_contents
a_null = refl

pub null_has : (v : Unit {0}) → true ≡ is_some (null_contents.to v)
unfolding null_contents
null_has v = refl

pub no_bits : is_some (bit_string_contents.of (0 ∷ [])) ≡ true
unfolding bit_string_contents
no_bits = refl

pub bit_string_has : (v : Bits) → are_bits v ≡ is_some (bit_string_contents.to v)
unfolding bit_string_contents
bit_string_has v = is_some_chosen (are_bits v) (v.unused ∷ v.bytes)

pub no_octets : is_some (octet_contents.of []) ≡ true
unfolding octet_contents
no_octets = refl

pub octet_string_has : (v : List ℕ) → true ≡ is_some (octet_contents.to v)
unfolding octet_contents
octet_string_has v = refl

pub an_identifier : is_some (object_identifier_contents.of (0 ∷ [])) ≡ true
unfolding object_identifier_contents base128_at digits_at subidentifiers subidentifiers_in
an_identifier = refl

pub object_identifier_has : (v : List ℕ) → is_oid v ≡ is_some (object_identifier_contents.to v)
unfolding object_identifier_contents
object_identifier_has [] = refl
object_identifier_has (a ∷ []) = refl
object_identifier_has (a ∷ b ∷ rest) = is_some_chosen (is_oid (a ∷ b ∷ rest)) (base128 (40 * a + b) ++ flat_map base128 rest)

-- the first second of January 1, 2000: 000101000000Z
abbrev pub utc_time_octets : List ℕ
utc_time_octets = 48 ∷ 48 ∷ 48 ∷ 49 ∷ 48 ∷ 49 ∷ 48 ∷ 48 ∷ 48 ∷ 48 ∷ 48 ∷ 48 ∷ 90 ∷ []

pub a_utc_time : is_some (utc_time_contents.of utc_time_octets) ≡ true
unfolding utc_time_contents two_at ten_at civil
a_utc_time = refl

pub utc_time_has : (t : UtcTime) → is_utc_time t ≡ is_some (utc_time_contents.to t)
unfolding utc_time_contents
utc_time_has t = is_some_chosen (is_utc_time t) (twelve_digits t.at ++ 90 ∷ [])

-- the same with all digits of the year
abbrev pub generalized_time_octets : List ℕ
generalized_time_octets = 50 ∷ 48 ∷ utc_time_octets

pub a_generalized_time : is_some (generalized_time_contents.of generalized_time_octets) ≡ true
unfolding generalized_time_contents two_at ten_at civil nanoseconds_of
a_generalized_time = refl

pub generalized_time_has : (t : GeneralizedTime) → is_generalized_time t ≡ is_some (generalized_time_contents.to t)
unfolding generalized_time_contents
generalized_time_has t = is_some_chosen (is_generalized_time t) _

pub text_has : (s : StringType) (octets : List ℕ) → is_text s octets ≡ is_some ((text_contents s).to octets)
unfolding text_contents
text_has s octets = is_some_chosen (is_text s octets) octets
