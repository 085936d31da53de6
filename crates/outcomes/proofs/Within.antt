-- How many octets the trees of values have at most.
use Rattle.std.specs.Prelude.{◌≡◌, ℕ, ◌+◌, ◌*◌, ◌/◌, ◌%◌, ◌≤◌, Bool, true, false, cond, List, [], ◌∷◌, ◌++◌, length, Option, Some, None, Ok, refl}
use Rattle.std.specs.List.{AllZip, flat_map, sum_by}
use Rattle.std.specs.Option.{IfSome}
use Rattle.std.proofs.Common.{arith, subst, sym, ◌∙◌}
use Rattle.std.proofs.lemmas.List.{length-append}
use Rattle.std.proofs.lemmas.List.Sums.{sum_by-cons}
use Rattle.asn1_core.specs.Arcs.{is_oid}
use Rattle.asn1_core.specs.Base128.{base128, digits}
use Rattle.asn1_core.specs.Binds.{chosen, some_is}
use Rattle.asn1_core.specs.Bits.{Bits, are_bits, bit_string_contents}
use Rattle.asn1_core.specs.Contents.{Contents}
use Rattle.asn1_core.specs.ObjectIdentifiers.{object_identifier_contents}
use Rattle.asn1_core.specs.Octets.{boolean_contents, octet_contents}
use Rattle.asn1_core.specs.Twos.{integer_contents, is_shortest}
use Rattle.asn1_core.specs.declared.tag.Tag.{Tag}
use Rattle.der_tree.specs.AnyElement.{is_one}
use Rattle.der_tree.specs.Codec.{Codec, FieldsOf, Struct, struct_of}
use Rattle.der_tree.specs.Default.{unless_default, unless_empty}
use Rattle.der_tree.specs.Grammar.{any, explicitly, implicitly, list_of, optional, required, sequence, sequence_of, unwritten_if_empty, ◌&◌}
use Rattle.der_tree.specs.Primitive.{leaf_tree_of, or_fault}
use Rattle.der_tree.specs.PrimitiveTypes.{bit_string, boolean, integer, object_identifier, octet_string}
use Rattle.der_tree.specs.Sequence.{node_of}
use Rattle.der_tree.specs.SequenceOf.{each_put, is_within}
use Rattle.der_tree.specs.Tagging.{is_tagged}
use Rattle.der_tree.specs.Tags.{universal}
use Rattle.der_tree.specs.Results.{ok_then}
use Rattle.der_tree.specs.Tree.{PlainTree, leaf, node, raw, retagged, row}
use Rattle.der_tree.specs.TreeBytes.{bytes, made, row_bytes}
use Rattle.der_tree.specs.declared.error.EncodeError.{EncodeError}
use Rattle.der_tree.specs.declared.error.EncodeError.TheVariants.{NotOneElement, SizeOutOfRange}
use Rattle.der_tree.specs.laws.Results.{ok_chosen, ok_is, ok_kept, ok_then_ok}
use Rattle.der_tree.proofs.ShortTrees.{contents_within}
use Rattle.der_tree.proofs.Writing.{digits_count}
use Rattle.rcgen_sign.proofs.ElementCounts.{element_octets_count}

-- each tree of the value has at most n bytes
abbrev pub Within : {A : Type 0} → Codec A → A → ℕ → Type 0
Within c v n = (t : PlainTree) → c.tree_of v ≡ Ok t → length (bytes t) ≤ n

-- the trees of the fields have together
abbrev pub FieldsWithin : {A : Type 0} → FieldsOf A → A → ℕ → Type 0
FieldsWithin f v n = (ts : List PlainTree) → f.put v ≡ Ok ts → length (row_bytes (row ts)) ≤ n

tree_is : (t u : PlainTree) (n : ℕ) → t ≡ u → length (bytes t) ≤ n → length (bytes u) ≤ n
tree_is t u n e h = subst (λ (x : PlainTree). length (bytes x) ≤ n) e h

trees_are : (ts us : List PlainTree) (n : ℕ) → ts ≡ us → length (row_bytes (row ts)) ≤ n → length (row_bytes (row us)) ≤ n
trees_are ts us n e h = subst (λ (x : List PlainTree). length (row_bytes (row x)) ≤ n) e h

pub widened : {A : Type 0} (c : Codec A) (v : A) (m n : ℕ) → m ≤ n → Within c v m → Within c v n
widened c v m n l h t e = let k = h t e in omega arith

-- a tree that is known
pub computed : {A : Type 0} (c : Codec A) (v : A) (u : PlainTree) (n : ℕ) → c.tree_of v ≡ Ok u → length (bytes u) ≤ n → Within c v n
computed c v u n e h t f = tree_is u t n (ok_is u t (sym e ∙ f)) h

-- ---- nodes

pub row_joined : (ts us : List PlainTree) → length (row_bytes (row (ts ++ us))) ≡ length (row_bytes (row ts)) + length (row_bytes (row us))
row_joined [] us = omega arith
row_joined (t ∷ ts) us =
    omega (arith, row_joined ts us, length-append (bytes t) (row_bytes (row (ts ++ us))), length-append (bytes t) (row_bytes (row ts)))

pub row_of_one : (t : PlainTree) → length (row_bytes (row (t ∷ []))) ≡ length (bytes t)
row_of_one t = omega (arith, length-append (bytes t) [])

-- a node has up to 20 octets more than its children
pub in_node : {A : Type 0} (g : Tag) (f : FieldsOf A) (v : A) (n : ℕ) → FieldsWithin f v n → (t : PlainTree) → node_of g (f.put v) ≡ Ok t
    → length (bytes t) ≤ 20 + n
in_node g f v n h t e =
    let x = ok_then_ok (f.put v) (λ ts. Ok (node g (row ts))) t e in
    let inside = h x.0 x.1 in
    tree_is (node g (row x.0)) t (20 + n) (ok_is (node g (row x.0)) t x.2) (omega (arith, element_octets_count (made g true (row_bytes (row x.0)))))

pub in_sequence : {A : Type 0} (g : Tag) (s : Struct A) (v : A) (n : ℕ) → FieldsWithin s.fields v n → Within (sequence g s) v (20 + n)
in_sequence g s v n h t e = in_node g s.fields v n h t e

-- ---- fields

pub fields_both : {A B : Type 0} (f : FieldsOf A) (g : FieldsOf B) (a : A) (b : B) (m n : ℕ) → FieldsWithin f a m → FieldsWithin g b n
    → FieldsWithin (f & g) (a, b) (m + n)
fields_both f g a b m n h k ts e =
    let x = ok_then_ok (f.put a) (λ x. ok_then (g.put b) (λ y. Ok (x ++ y))) ts e in
    let y = ok_then_ok (g.put b) (λ y. Ok (x.0 ++ y)) ts x.2 in
    let first = h x.0 x.1 in
    let rest = k y.0 y.1 in
    trees_are (x.0 ++ y.0) ts (m + n) (ok_is (x.0 ++ y.0) ts y.2) (omega (arith, row_joined x.0 y.0))

pub field : {A : Type 0} (c : Codec A) (v : A) (n : ℕ) → Within c v n → FieldsWithin (required c) v n
field c v n h ts e =
    let x = ok_then_ok (c.tree_of v) (λ t. Ok (t ∷ [])) ts e in
    let one = h x.0 x.1 in
    trees_are (x.0 ∷ []) ts n (ok_is (x.0 ∷ []) ts x.2) (omega (arith, row_of_one x.0))

pub field_if : {A : Type 0} (c : Codec A) (o : Option A) (n : ℕ) → IfSome o (λ v. Within c v n) → FieldsWithin (optional c) o n
field_if c None n h ts e = trees_are [] ts n (ok_is [] ts e) (omega arith)
field_if c (Some v) n h ts e = field c v n h ts e

pub field_by_default : {A : Type 0} (c : Codec A) (eq : A → A → Bool) (d v : A) (n : ℕ) → Within c v n → FieldsWithin (optional c) (unless_default eq d v) n
unfolding unless_default
field_by_default {A} c eq d v n h =
    field_if c (cond (eq v d) None (Some v)) n
    (elim (eq v d) as (λ b. let o : Option A = cond b None (Some v) in IfSome o (λ v. Within c v n)) [ true ↦ tt | false ↦ h ])

pub field_unless_empty : {A : Type 0} (c : Codec (List A)) (vs : List A) (n : ℕ) → Within c vs n → FieldsWithin (unwritten_if_empty c) vs n
unfolding unless_empty
field_unless_empty c [] n h ts e = field_if c None n tt ts e
field_unless_empty c (v ∷ vs) n h ts e = field c (v ∷ vs) n h ts e

-- ---- tags

pub in_explicit : {A : Type 0} (g : Tag) (c : Codec A) (v : A) (n : ℕ) → Within c v n → Within (explicitly g c) v (20 + n)
in_explicit g c v n h = in_sequence g (struct_of (required c) refl) v n (field c v n h)

retagged_within : (g : Tag) (t : PlainTree) (n : ℕ) → length (bytes t) ≤ n → length (bytes (retagged g t)) ≤ 20 + n
retagged_within g (leaf f b) n h = omega (arith, contents_within (made f false b), element_octets_count (made g false b))
retagged_within g (node f k) n h = omega (arith, contents_within (made f true (row_bytes k)), element_octets_count (made g true (row_bytes k)))
retagged_within g (raw b) n h = omega arith

pub in_implicit : {A : Type 0} (g : Tag) (c : Codec A) (may : is_tagged c ≡ true) (v : A) (n : ℕ) → Within c v n → Within (implicitly g c may) v (20 + n)
in_implicit g c may v n h t e =
    let x = ok_then_ok (c.tree_of v) (λ t. Ok (retagged g t)) t e in
    tree_is (retagged g x.0) t (20 + n) (ok_is (retagged g x.0) t x.2) (retagged_within g x.0 n (h x.0 x.1))

-- ---- lists

pub each_within : {X A : Type 0} (c : Codec A) (P : X → A → Type 0) (size : X → ℕ) → ((x : X) (v : A) → P x v → Within c v (size x))
    → (xs : List X) (vs : List A) → AllZip P xs vs → (ts : List PlainTree) → each_put c vs ≡ Ok ts → length (row_bytes (row ts)) ≤ sum_by size xs
each_within c P size one [] [] h ts e = trees_are [] ts 0 (ok_is [] ts e) (omega arith)
each_within c P size one [] (v ∷ vs) h ts e = absurd h
each_within c P size one (x ∷ xs) [] h ts e = absurd h
each_within c P size one (x ∷ xs) (v ∷ vs) h ts e =
    let y = ok_then_ok (c.tree_of v) (λ t. ok_then (each_put c vs) (λ r. Ok (t ∷ r))) ts e in
    let z = ok_then_ok (each_put c vs) (λ r. Ok (y.0 ∷ r)) ts y.2 in
    let first = one x v h.0 y.0 y.1 in
    let rest = each_within c P size one xs vs h.1 z.0 z.1 in
    trees_are (y.0 ∷ z.0) ts (sum_by size (x ∷ xs)) (ok_is (y.0 ∷ z.0) ts z.2)
    (omega (arith, sum_by-cons size x xs, length-append (bytes y.0) (row_bytes (row z.0))))

pub in_list : {X A : Type 0} (c : Codec A) (low : ℕ) (high : Option ℕ) (room : is_within low high low ≡ true) (P : X → A → Type 0) (size : X → ℕ)
    → ((x : X) (v : A) → P x v → Within c v (size x)) → (xs : List X) (vs : List A) → AllZip P xs vs
    → Within (sequence_of c low high room) vs (20 + sum_by size xs)
in_list c low high room P size one xs vs h =
    in_sequence (universal 16) (struct_of (list_of c low high room) refl) vs (sum_by size xs)
    (λ ts e. each_within c P size one xs vs h ts (ok_kept (is_within low high (length vs)) (each_put c vs) ts SizeOutOfRange e).1)

-- ---- leaves

unfaulted : (d : EncodeError) (o : Option (List ℕ)) (b : List ℕ) → or_fault d o ≡ Ok b → o ≡ Some b
unfaulted d (Some x) b e = cc
unfaulted d None b e = absurd cc

pub in_leaf : {A : Type 0} (g : Tag) (d : EncodeError) (c : Contents A) (v : A) (n : ℕ) → ((b : List ℕ) → c.to v ≡ Some b → length b ≤ n)
    → (t : PlainTree) → leaf_tree_of g d c v ≡ Ok t → length (bytes t) ≤ 20 + n
in_leaf g d c v n h t e =
    let x = ok_then_ok (or_fault d (c.to v)) (λ b. Ok (leaf g b)) t e in
    let inside = h x.0 (unfaulted d (c.to v) x.0 x.1) in
    tree_is (leaf g x.0) t (20 + n) (ok_is (leaf g x.0) t x.2) (omega (arith, element_octets_count (made g false x.0)))

-- the contents are these
pub as_they_are : (a b : List ℕ) → a ≡ b → length b ≤ length a
as_they_are a b e = subst (λ (x : List ℕ). length x ≤ length a) e (omega arith)

pub integer_within : (v : List ℕ) → Within integer v (20 + length v)
unfolding integer_contents
integer_within v = in_leaf (universal 2) SizeOutOfRange integer_contents v (length v) (λ b e. as_they_are v b (chosen (is_shortest v) v b e).1)

pub octets_within : (v : List ℕ) → Within octet_string v (20 + length v)
unfolding octet_contents
octets_within v = in_leaf (universal 4) SizeOutOfRange octet_contents v (length v) (λ b e. as_they_are v b (some_is v b e))

pub bits_within : (v : Bits) → Within bit_string v (21 + length v.bytes)
unfolding bit_string_contents
bits_within v t e =
    let k = in_leaf (universal 3) SizeOutOfRange bit_string_contents v (1 + length v.bytes)
    (λ b f. let l = as_they_are (v.unused ∷ v.bytes) b (chosen (are_bits v) (v.unused ∷ v.bytes) b f).1 in omega arith) t e in
    omega arith

pub boolean_within : (v : Bool) → Within boolean v 21
unfolding boolean_contents
boolean_within true = in_leaf (universal 1) SizeOutOfRange boolean_contents true 1 (λ b e. as_they_are (255 ∷ []) b (some_is (255 ∷ []) b e))
boolean_within false = in_leaf (universal 1) SizeOutOfRange boolean_contents false 1 (λ b e. as_they_are (0 ∷ []) b (some_is (0 ∷ []) b e))

pub any_within : (v : List ℕ) → Within any v (length v)
any_within v t e = tree_is (raw v) t (length v) (ok_chosen (is_one v) (raw v) t NotOneElement e).1 (omega arith)

base128_count : (n : ℕ) → length (base128 n) ≤ 10
base128_count n = omega (arith, length-append (digits 128 128 9 (n / 128)) ((n % 128) ∷ []), digits_count 128 128 9 (n / 128))

flat_count : (ns : List ℕ) → length (flat_map base128 ns) ≤ 10 * length ns
flat_count [] = omega arith
flat_count (n ∷ ns) = omega (arith, flat_count ns, base128_count n, length-append (base128 n) (flat_map base128 ns))

identifier_count : (v b : List ℕ) → object_identifier_contents.to v ≡ Some b → length b ≤ 10 * length v
unfolding object_identifier_contents
identifier_count [] b e = absurd cc
identifier_count (x ∷ []) b e = absurd cc
identifier_count (x ∷ y ∷ rest) b e =
    let whole = base128 (40 * x + y) ++ flat_map base128 rest in
    let same = as_they_are whole b (chosen (is_oid (x ∷ y ∷ rest)) whole b e).1 in
    omega (arith, flat_count rest, base128_count (40 * x + y), length-append (base128 (40 * x + y)) (flat_map base128 rest))

pub identifier_within : (v : List ℕ) → Within object_identifier v (20 + 10 * length v)
identifier_within v = in_leaf (universal 6) SizeOutOfRange object_identifier_contents v (10 * length v) (λ b e. identifier_count v b e)
