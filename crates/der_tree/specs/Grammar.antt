-- What the specification of a type is written in: each combinator with its line of ASN.1.
use Rattle.std.specs.Prelude.{Bool, List, None, Option, Some, false, is_ok, nat_lt, refl, true, ℕ, [], ◌&&◌, ◌^◌, ◌||◌, ◌↔◌, ◌∷◌, ◌≡◌, ◌⊎◌}
use Rattle.asn1_core.specs.StringTypes.{StringType}
use Rattle.asn1_core.specs.Tags.{universal}
use Rattle.asn1_core.specs.declared.tag.Tag.{Tag}
use Rattle.der_tree.specs.AnyElement.{any_read_of, any_tree_of, is_one}
use Rattle.der_tree.specs.Assignment.{type_read_of, type_tree_of}
use Rattle.der_tree.specs.CharacterStrings.{is_sized_text, sized_read_of, sized_tree_of}
use Rattle.der_tree.specs.Choice.{either_has_tree, either_read_of, either_tree_of}
use Rattle.der_tree.specs.Codec.{Codec, FieldsOf, Struct, struct_of, with_fields}
pub use Rattle.der_tree.specs.Default.{beq}
use Rattle.der_tree.specs.Default.{default_get, default_put, default_then, empty_get, empty_put, empty_then, if_not_empty, next_defaulted, unless_default}
use Rattle.der_tree.specs.Default.{unless_empty}
pub use Rattle.der_tree.specs.Enumerated.{value_numbered}
use Rattle.der_tree.specs.Enumerated.{enumerated_has_tree, enumerated_read_of, enumerated_tree_of}
use Rattle.der_tree.specs.Fields.{as_get, as_put, next_required, required_get, required_put, then_blocks, then_fine, then_first, then_get, then_put}
use Rattle.der_tree.specs.Optional.{if_there, next_optional, optional_get, optional_put}
use Rattle.der_tree.specs.PrimitiveTypes.{enumerated_number}
use Rattle.der_tree.specs.Sequence.{node_read_of, node_tree_of}
use Rattle.der_tree.specs.SequenceOf.{is_within, list_get, list_has_trees, list_put, next_list}
use Rattle.der_tree.specs.SetOf.{next_set, set_get, set_has_trees, set_put}
use Rattle.der_tree.specs.Tagging.{is_tagged, tagged_read_of, tagged_tree_of}
use Rattle.der_tree.specs.Tags.{disjoint, every, join, these}
use Rattle.der_tree.specs.laws.AnyElement.{any_again, any_has, any_reaches, any_sample, any_sound, any_takes}
use Rattle.der_tree.specs.laws.Assignment.{type_again, type_reaches, type_sample, type_tagged, type_takes}
use Rattle.der_tree.specs.laws.CharacterStrings.{sized_again, sized_has, sized_sample, sized_sound, sized_tagged, sized_takes}
use Rattle.der_tree.specs.laws.Choice.{either_again, either_begins, either_has, either_reaches, either_sample, either_sound, either_takes}
use Rattle.der_tree.specs.laws.Codec.{one_tag_begins, one_tag_reaches}
pub use Rattle.der_tree.specs.laws.Default.{beq_exact}
use Rattle.der_tree.specs.laws.Default.{default_again, default_has, default_reads, default_sample, default_takes, defaulted_reads, empty_again, empty_has}
use Rattle.der_tree.specs.laws.Default.{empty_reads, empty_sample, empty_takes}
use Rattle.der_tree.specs.laws.Enumerated.{enumerated_again, enumerated_sample, enumerated_tagged, enumerated_takes}
use Rattle.der_tree.specs.laws.Fields.{as_again, as_heads, as_reads, as_sample, as_sound, as_takes, required_again, required_has, required_heads}
use Rattle.der_tree.specs.laws.Fields.{required_reads, required_sample, required_sound, required_takes, then_again, then_has_trees, then_heads, then_reads}
use Rattle.der_tree.specs.laws.Fields.{then_sample, then_sound, then_takes}
use Rattle.der_tree.specs.laws.Optional.{optional_again, optional_has, optional_heads, optional_reads, optional_sample, optional_sound, optional_takes}
use Rattle.der_tree.specs.laws.Sequence.{node_again, node_has, node_sample, node_sound, node_tagged, node_takes}
use Rattle.der_tree.specs.laws.SequenceOf.{list_again, list_has, list_heads, list_reads, list_sample, list_sound, list_takes}
use Rattle.der_tree.specs.laws.SetOf.{set_again, set_has, set_heads, set_reads, set_sample, set_sound, set_takes}
use Rattle.der_tree.specs.laws.Tagging.{tagged_again, tagged_has, tagged_sample, tagged_sound, tagged_tagged, tagged_takes}

-- `name Type`
abbrev pub required : {A : Type 0} → Codec A → FieldsOf A
required {A} c = record {
  put = required_put c;
  get = required_get c;
  read = λ ss k. with_fields k (next_required c.read_of ss);
  reads = required_reads c;
  first = c.starts;
  may_be_none = false;
  blocks = these [];
  takes = required_takes c;
  fine = true;
  again = λ ok. required_again c;
  heads = required_heads c;
  sound = required_sound c;
  sample = required_sample c;
  has_trees = c.has_tree;
  has_trees_is = required_has c;
  Makes = λ B. A → B;
  make = λ k v. k v;
}

-- `name Type OPTIONAL`
abbrev pub optional : {A : Type 0} → Codec A → FieldsOf (Option A)
optional {A} c = record {
  put = optional_put c;
  get = optional_get c;
  read = λ ss k. with_fields k (next_optional c.starts c.read_of ss);
  reads = optional_reads c;
  first = c.starts;
  may_be_none = true;
  blocks = c.starts;
  takes = optional_takes c;
  fine = true;
  again = λ ok. optional_again c;
  heads = optional_heads c;
  sound = optional_sound c;
  sample = optional_sample c;
  has_trees = if_there c;
  has_trees_is = optional_has c;
  Makes = λ B. Option A → B;
  make = λ k v. k v;
}

-- `name Type DEFAULT d`, read by `or_default` from what `explicit` or `implicit` found
abbrev pub with_default : {A : Type 0} → Codec A → (eq : A → A → Bool) → ((a b : A) → (eq a b ≡ true) ↔ (a ≡ b)) → A → FieldsOf A
with_default {A} c eq exact d = record {
  put = default_put (optional c) eq d;
  get = default_get (optional c) eq d;
  read = λ ss k. with_fields (default_then eq d k) (next_optional c.starts c.read_of ss);
  reads = default_reads (optional c) eq d;
  first = c.starts;
  may_be_none = true;
  blocks = c.starts;
  takes = default_takes (optional c) eq exact d;
  fine = true;
  again = default_again (optional c) eq exact d;
  heads = λ v. optional_heads c (unless_default eq d v);
  sound = λ v. optional_sound c (unless_default eq d v);
  sample = default_sample (optional c) eq exact d refl;
  has_trees = λ v. c.has_tree v || eq v d;
  has_trees_is = default_has c eq d;
  Makes = λ B. A → B;
  make = λ k v. k v;
}

-- `name Type DEFAULT d`, read by `defaulted`
abbrev pub defaulted : {A : Type 0} → Codec A → (eq : A → A → Bool) → ((a b : A) → (eq a b ≡ true) ↔ (a ≡ b)) → A → FieldsOf A
defaulted c eq exact d = record (with_default c eq exact d) {
  read = λ ss k. with_fields k (next_defaulted c eq d ss);
  reads = defaulted_reads c eq d;
}

-- `name Type, name Type`
infixr 5 ◌&◌
abbrev pub ◌&◌ : {A B : Type 0} → FieldsOf A → FieldsOf B → FieldsOf (A × B)
f & g = record {
  put = then_put f g;
  get = then_get f g;
  read = λ ss k. f.read ss (λ a mid. g.read mid (λ b rest. k (a, b) rest));
  reads = then_reads f g;
  first = then_first f g;
  may_be_none = f.may_be_none && g.may_be_none;
  blocks = then_blocks f g;
  takes = then_takes f g;
  fine = then_fine f g;
  again = then_again f g;
  heads = then_heads f g;
  sound = then_sound f g;
  sample = then_sample f g;
  has_trees = λ v. f.has_trees v.0 && g.has_trees v.1;
  has_trees_is = then_has_trees f g;
  Makes = λ C. f.Makes (g.Makes C);
  make = λ k v. g.make (f.make k v.0) v.1;
}

-- the values of fields one after another
infixr 5 ◌⊗◌
abbrev pub ◌⊗◌ : {A B : Type 0} → A → B → A × B
a ⊗ b = (a, b)

-- the components of `{ .. }` as a struct: its fields' values one after another, and the struct of these values
abbrev pub as_struct : {A B : Type 0} (f : FieldsOf A) → f.fine ≡ true → (to : B → A) (from : f.Makes B) → ((b : B) → f.make from (to b) ≡ b)
    → ((a : A) → to (f.make from a) ≡ a) → Struct B
as_struct {A} {B} f ok to from p q = struct_of (record {
  put = as_put f to (f.make from) p q;
  get = as_get f to (f.make from) p q;
  read = λ ss k. f.read ss (λ a rest. k (f.make from a) rest);
  reads = as_reads f to (f.make from) p q;
  first = f.first;
  may_be_none = f.may_be_none;
  blocks = f.blocks;
  takes = as_takes f to (f.make from) p q;
  fine = f.fine;
  again = as_again f to (f.make from) p q;
  heads = as_heads f to (f.make from) p q;
  sound = as_sound f to (f.make from) p q;
  sample = as_sample f to (f.make from) p q;
  has_trees = λ b. f.has_trees (to b);
  has_trees_is = λ b. f.has_trees_is (to b);
  Makes = λ C. B → C;
  make = λ k v. k v;
}) ok

-- `name SEQUENCE OF Type OPTIONAL`, or `name SET OF Type OPTIONAL`, where an absent list is the empty one, which isn't written
abbrev pub unwritten_if_empty : {A : Type 0} → Codec (List A) → FieldsOf (List A)
unwritten_if_empty {A} c = record {
  put = empty_put (optional c);
  get = empty_get (optional c);
  read = λ ss k. with_fields (empty_then k) (next_optional c.starts c.read_of ss);
  reads = empty_reads (optional c);
  first = c.starts;
  may_be_none = true;
  blocks = c.starts;
  takes = empty_takes (optional c);
  fine = true;
  again = empty_again (optional c);
  heads = λ v. optional_heads c (unless_empty v);
  sound = λ v. optional_sound c (unless_empty v);
  sample = empty_sample (optional c) refl;
  has_trees = if_not_empty c;
  has_trees_is = empty_has c;
  Makes = λ B. List A → B;
  make = λ k v. k v;
}

-- `SEQUENCE { .. }`, of the tag
abbrev pub sequence : {A : Type 0} → Tag → Struct A → Codec A
sequence g x = record {
  tree_of = node_tree_of g x.fields;
  read_of = node_read_of g x.fields;
  starts = these (g ∷ []);
  tag = Some g;
  takes = node_takes g x.fields;
  again = node_again g x.fields x.fine;
  begins = one_tag_begins (node_tree_of g x.fields) g (node_tagged g x.fields);
  reaches = one_tag_reaches (node_tree_of g x.fields) g (node_tagged g x.fields) (node_sample g x.fields);
  sample = node_sample g x.fields;
  tagged = node_tagged g x.fields;
  sound = node_sound g x.fields;
  has_tree = x.fields.has_trees;
  has_tree_is = node_has g x.fields;
}

-- `[n] EXPLICIT Type`
abbrev pub explicitly : {A : Type 0} → Tag → Codec A → Codec A
explicitly g c = sequence g (struct_of (required c) refl)

-- `[n] IMPLICIT Type`
abbrev pub implicitly : {A : Type 0} (g : Tag) (c : Codec A) → is_tagged c ≡ true → Codec A
implicitly g c may = record {
  tree_of = tagged_tree_of g c;
  read_of = tagged_read_of g c;
  starts = these (g ∷ []);
  tag = Some g;
  takes = tagged_takes g c may;
  again = tagged_again g c may;
  begins = one_tag_begins (tagged_tree_of g c) g (tagged_tagged g c may);
  reaches = one_tag_reaches (tagged_tree_of g c) g (tagged_tagged g c may) (tagged_sample g c may);
  sample = tagged_sample g c may;
  tagged = tagged_tagged g c may;
  sound = tagged_sound g c may;
  has_tree = c.has_tree;
  has_tree_is = tagged_has g c may;
}

-- one element of any type (an open type, X.690, 8.15)
abbrev pub any : Codec (List ℕ)
any = record {
  tree_of = any_tree_of;
  read_of = any_read_of;
  starts = every;
  tag = None;
  takes = any_takes;
  again = any_again;
  begins = λ v t g e b. refl;
  reaches = any_reaches;
  sample = any_sample;
  tagged = tt;
  sound = any_sound;
  has_tree = is_one;
  has_tree_is = any_has;
}

-- `ENUMERATED { name (number), .. }`: each value is listed, and one is given whose number isn't too large
abbrev pub enumerated : {A : Type 0} (number : A → ℕ) (values : List A) → ((v : A) → value_numbered number values (number v) ≡ Some v) → (v : A)
    → nat_lt (number v) (2 ^ 64) ≡ true → Codec A
enumerated number values there v h = record {
  tree_of = enumerated_tree_of number values;
  read_of = enumerated_read_of number values;
  starts = these (universal 10 ∷ []);
  tag = Some (universal 10);
  takes = enumerated_takes number values;
  again = enumerated_again number values there;
  begins = one_tag_begins (enumerated_tree_of number values) (universal 10) (enumerated_tagged number values);
  reaches = one_tag_reaches (enumerated_tree_of number values) (universal 10) (enumerated_tagged number values) (enumerated_sample number values v h);
  sample = enumerated_sample number values v h;
  tagged = enumerated_tagged number values;
  sound = λ v t e. enumerated_number.sound (number v) t e;
  has_tree = enumerated_has_tree number values;
  has_tree_is = λ v. enumerated_number.has_tree_is (number v);
}

-- `.. OF Type` within a SEQUENCE OF, where the bounds leave room
abbrev pub list_of : {A : Type 0} → Codec A → (low : ℕ) (high : Option ℕ) → is_within low high low ≡ true → FieldsOf (List A)
list_of {A} c low high room = record {
  put = list_put c low high;
  get = list_get c low high;
  read = λ ss k. with_fields k (next_list c low high ss);
  reads = list_reads c low high;
  first = c.starts;
  may_be_none = true;
  blocks = every;
  takes = list_takes c low high;
  fine = true;
  again = λ ok. list_again c low high;
  heads = list_heads c low high;
  sound = list_sound c low high;
  sample = list_sample c low high room;
  has_trees = list_has_trees c low high;
  has_trees_is = list_has c low high;
  Makes = λ B. List A → B;
  make = λ k v. k v;
}

-- `.. OF Type` within a SET OF, where there is such a set
abbrev pub set_fields : {A : Type 0} (c : Codec A) (low : ℕ) (high : Option ℕ) (vs : List A) → is_ok (set_put c low high vs) ≡ true → FieldsOf (List A)
set_fields {A} c low high vs there = record {
  put = set_put c low high;
  get = set_get c low high;
  read = λ ss k. with_fields k (next_set c low high ss);
  reads = set_reads c low high;
  first = c.starts;
  may_be_none = true;
  blocks = every;
  takes = set_takes c low high;
  fine = true;
  again = λ ok. set_again c low high;
  heads = set_heads c low high;
  sound = set_sound c low high;
  sample = set_sample c low high vs there;
  has_trees = set_has_trees c low high;
  has_trees_is = set_has c low high;
  Makes = λ B. List A → B;
  make = λ k v. k v;
}

-- `SEQUENCE SIZE (low..high) OF Type`, where the bounds leave room
abbrev pub sequence_of : {A : Type 0} → Codec A → (low : ℕ) (high : Option ℕ) → is_within low high low ≡ true → Codec (List A)
sequence_of c low high room = sequence (universal 16) (struct_of (list_of c low high room) refl)

-- `SET SIZE (low..high) OF Type`, where one set is given that has a tree
abbrev pub set_of : {A : Type 0} (c : Codec A) (low : ℕ) (high : Option ℕ) (vs : List A) → is_ok (set_put c low high vs) ≡ true → Codec (List A)
set_of c low high vs there = sequence (universal 17) (struct_of (set_fields c low high vs there) refl)

-- `PrintableString (SIZE (low..high))`, where the bounds leave room
abbrev pub sized : (s : StringType) (low : ℕ) (high : Option ℕ) → is_within low high low ≡ true → Codec (List ℕ)
sized s low high room = record {
  tree_of = sized_tree_of s low high;
  read_of = sized_read_of s low high;
  starts = these (universal s.number ∷ []);
  tag = Some (universal s.number);
  takes = sized_takes s low high;
  again = sized_again s low high;
  begins = one_tag_begins (sized_tree_of s low high) (universal s.number) (sized_tagged s low high);
  reaches = one_tag_reaches (sized_tree_of s low high) (universal s.number) (sized_tagged s low high) (sized_sample s low high room);
  sample = sized_sample s low high room;
  tagged = sized_tagged s low high;
  sound = sized_sound s low high;
  has_tree = is_sized_text s low high;
  has_tree_is = sized_has s low high;
}

-- `CHOICE { name Type, name Type }`: the tags tell them apart
abbrev pub either : {A B : Type 0} (c : Codec A) (d : Codec B) → disjoint c.starts d.starts ≡ true → Codec (A ⊎ B)
either c d apart = record {
  tree_of = either_tree_of c d;
  read_of = either_read_of c d;
  starts = join c.starts d.starts;
  tag = None;
  takes = either_takes c d;
  again = either_again c d apart;
  begins = either_begins c d;
  reaches = either_reaches c d;
  sample = either_sample c d;
  tagged = tt;
  sound = either_sound c d;
  has_tree = either_has_tree c d;
  has_tree_is = either_has c d;
}

-- `Name ::= Type`: the values of a type as those of another, with its tag
abbrev pub as_type : {A B : Type 0} → Codec A → (to : B → A) (from : A → B) → ((b : B) → from (to b) ≡ b) → ((a : A) → to (from a) ≡ a) → Codec B
as_type c to from p q = record {
  tree_of = type_tree_of c to from p q;
  read_of = type_read_of c to from p q;
  starts = c.starts;
  tag = c.tag;
  takes = type_takes c to from p q;
  again = type_again c to from p q;
  begins = λ v. c.begins (to v);
  reaches = type_reaches c to from p q;
  sample = type_sample c to from p q;
  tagged = type_tagged c to;
  sound = λ v t e. c.sound (to v) t e;
  has_tree = λ v. c.has_tree (to v);
  has_tree_is = λ v. c.has_tree_is (to v);
}

-- `Name ::= CHOICE { .. }`: the same, with no tag of its own
abbrev pub as_choice : {A B : Type 0} → Codec A → (to : B → A) (from : A → B) → ((b : B) → from (to b) ≡ b) → ((a : A) → to (from a) ≡ a) → Codec B
as_choice c to from p q = record (as_type c to from p q) {
  tag = None;
  tagged = tt;
}
