-- The types whose values are primitive elements (X.690, 8.2 to 8.8, 8.19 and 8.25).
use Rattle.std.specs.Prelude.{Bool, List, Some, is_some, nat_lt, true, ℕ, [], ◌^◌, ◌∷◌, ◌≡◌}
use Rattle.asn1_core.specs.Arcs.{is_oid}
use Rattle.asn1_core.specs.Bits.{Bits, are_bits, bit_string_contents}
use Rattle.asn1_core.specs.Contents.{Contents}
use Rattle.asn1_core.specs.GeneralizedTime.{generalized_time_contents}
use Rattle.asn1_core.specs.Narrowed.{unsigned_contents}
use Rattle.asn1_core.specs.ObjectIdentifiers.{object_identifier_contents}
use Rattle.asn1_core.specs.Octets.{boolean_contents, null_contents, octet_contents}
use Rattle.asn1_core.specs.Tags.{universal}
use Rattle.asn1_core.specs.Twos.{integer_contents, is_shortest}
use Rattle.asn1_core.specs.Unsigned.{unsigned_64_contents}
use Rattle.asn1_core.specs.UtcTime.{utc_time_contents}
use Rattle.asn1_core.specs.declared.tag.Tag.{Tag}
use Rattle.asn1_core.specs.declared.time.generalized_time.GeneralizedTime.{GeneralizedTime}
use Rattle.asn1_core.specs.declared.time.utc_time.UtcTime.{UtcTime}
use Rattle.der_tree.specs.declared.error.EncodeError.{EncodeError}
use Rattle.der_tree.specs.declared.error.EncodeError.TheVariants.{SizeOutOfRange, TimeNotCarried}
use Rattle.der_tree.specs.Codec.{Codec}
use Rattle.der_tree.specs.Primitive.{is_generalized_time, is_number_to, is_utc_time, leaf_read_of, leaf_tree_of}
use Rattle.der_tree.specs.Tags.{these}
use Rattle.der_tree.specs.laws.Codec.{one_tag_begins, one_tag_reaches}
use Rattle.der_tree.specs.laws.Primitive.{leaf_again, leaf_has, leaf_sample, leaf_sound, leaf_tagged, leaf_takes}
use Rattle.der_tree.specs.laws.PrimitiveTypes.{a_boolean, a_generalized_time, a_null, a_number, a_small_number, a_utc_time, an_identifier, an_integer}
use Rattle.der_tree.specs.laws.PrimitiveTypes.{bit_string_has, boolean_has, generalized_time_has, generalized_time_octets, integer_has, no_bits, no_octets}
use Rattle.der_tree.specs.laws.PrimitiveTypes.{null_has, object_identifier_has, octet_string_has, unsigned_64_has, unsigned_to_has, utc_time_has}
use Rattle.der_tree.specs.laws.PrimitiveTypes.{utc_time_octets}

-- the leaf of this tag with these contents; which values have some; some value has the octets that are given
abbrev pub primitive : {A : Type 0} → Tag → EncodeError → (c : Contents A) (has : A → Bool) → ((v : A) → has v ≡ is_some (c.to v)) → (b : List ℕ)
    → is_some (c.of b) ≡ true → Codec A
primitive g d c has is b h = record {
  tree_of = leaf_tree_of g d c;
  read_of = leaf_read_of g d c;
  starts = these (g ∷ []);
  tag = Some g;
  takes = leaf_takes g d c;
  again = leaf_again g d c;
  begins = one_tag_begins (leaf_tree_of g d c) g (leaf_tagged g d c);
  reaches = one_tag_reaches (leaf_tree_of g d c) g (leaf_tagged g d c) (leaf_sample g d c b h);
  sample = leaf_sample g d c b h;
  tagged = leaf_tagged g d c;
  sound = leaf_sound g d c;
  has_tree = has;
  has_tree_is = leaf_has g d c has is;
}

abbrev pub boolean : Codec Bool
boolean = primitive (universal 1) SizeOutOfRange boolean_contents (λ v. true) boolean_has (0 ∷ []) a_boolean

abbrev pub integer : Codec (List ℕ)
integer = primitive (universal 2) SizeOutOfRange integer_contents is_shortest integer_has (0 ∷ []) an_integer

-- a number from 0 to 2 ^ 64 - 1
abbrev pub unsigned_64 : Codec ℕ
unsigned_64 = primitive (universal 2) SizeOutOfRange unsigned_64_contents (λ n. nat_lt n (2 ^ 64)) unsigned_64_has (0 ∷ []) a_number

-- a number from 0 to max
abbrev pub unsigned_to : ℕ → Codec ℕ
unsigned_to max = primitive (universal 2) SizeOutOfRange (unsigned_contents max) (is_number_to max) (unsigned_to_has max) (0 ∷ []) (a_small_number max)

abbrev pub null : Codec (Unit {0})
null = primitive (universal 5) SizeOutOfRange null_contents (λ v. true) null_has [] a_null

abbrev pub bit_string : Codec Bits
bit_string = primitive (universal 3) SizeOutOfRange bit_string_contents are_bits bit_string_has (0 ∷ []) no_bits

abbrev pub octet_string : Codec (List ℕ)
octet_string = primitive (universal 4) SizeOutOfRange octet_contents (λ v. true) octet_string_has [] no_octets

abbrev pub object_identifier : Codec (List ℕ)
object_identifier = primitive (universal 6) SizeOutOfRange object_identifier_contents is_oid object_identifier_has (0 ∷ []) an_identifier

abbrev pub utc_time : Codec UtcTime
utc_time = primitive (universal 23) TimeNotCarried utc_time_contents is_utc_time utc_time_has utc_time_octets a_utc_time

abbrev pub generalized_time : Codec GeneralizedTime
generalized_time =
    primitive (universal 24) TimeNotCarried generalized_time_contents is_generalized_time generalized_time_has generalized_time_octets a_generalized_time

-- a number from 0 to 2 ^ 64 - 1 as an ENUMERATED
abbrev pub enumerated_number : Codec ℕ
enumerated_number = primitive (universal 10) SizeOutOfRange unsigned_64_contents (λ n. nat_lt n (2 ^ 64)) unsigned_64_has (0 ∷ []) a_number
