-- A type whose values are primitive elements: one leaf, whose contents octets are the value.
use Rattle.std.specs.Prelude.{Bool, Err, List, None, Ok, Option, Result, Some, cond, is_none, nat_le, nat_lt, not, ℕ, ◌&&◌, ◌==◌, ◌^◌}
use Rattle.asn1_core.specs.Binds.{◌>>=◌}
use Rattle.asn1_core.specs.Contents.{Contents}
use Rattle.asn1_core.specs.GeneralizedTime.{is_four_digit_year}
use Rattle.asn1_core.specs.StringTypes.{StringType}
use Rattle.asn1_core.specs.Texts.{fault_of}
use Rattle.asn1_core.specs.UtcTime.{is_utc_time_year}
use Rattle.asn1_core.specs.declared.tag.Tag.{Tag}
use Rattle.asn1_core.specs.declared.time.generalized_time.GeneralizedTime.{GeneralizedTime}
use Rattle.asn1_core.specs.declared.time.utc_time.UtcTime.{UtcTime}
use Rattle.der_tree.specs.declared.error.EncodeError.{EncodeError}
use Rattle.der_tree.specs.Element.{Element}
use Rattle.der_tree.specs.Results.{ok_then}
use Rattle.der_tree.specs.Tags.{same_tag}
use Rattle.der_tree.specs.Tree.{PlainTree, leaf}

-- the fault of what has no contents octets
abbrev pub or_fault : {A : Type 0} → EncodeError → Option A → Result A EncodeError
or_fault d (Some x) = Ok x
or_fault d None = Err d

-- the contents of a leaf of the tag
abbrev pub contents_at : Tag → Element → Option (List ℕ)
contents_at g s = cond (same_tag s.tag g && not s.constructed) (Some s.content) None

module _ {A : Type 0} (g : Tag) (d : EncodeError) (c : Contents A) where
  -- the leaf of the tag with the value's contents octets
  abbrev pub leaf_tree_of : A → Result PlainTree EncodeError
  leaf_tree_of v = ok_then (or_fault d (c.to v)) (λ b. Ok (leaf g b))

  -- the value whose contents octets they are
  abbrev pub leaf_read_of : Element → Option A
  leaf_read_of s = contents_at g s >>= c.of

-- which values have contents octets
abbrev pub is_number_to : ℕ → ℕ → Bool
is_number_to max n = nat_le n max && nat_lt n (2 ^ 64)

abbrev pub is_utc_time : UtcTime → Bool
is_utc_time t = is_utc_time_year t.at && (t.at.time.subsec_nanosecond == 0)

abbrev pub is_generalized_time : GeneralizedTime → Bool
is_generalized_time t = is_four_digit_year t.at

-- octets are a text of the type
abbrev pub is_text : StringType → List ℕ → Bool
is_text s octets = is_none (fault_of s octets)
