-- How many octets the trees of values have at least: no fewer than the trees of their parts.
use Rattle.std.specs.Prelude.{◌≡◌, ℕ, ◌≤◌, true, false, List, [], ◌∷◌, ◌++◌, length, Some, Ok, refl}
use Rattle.std.proofs.Common.{arith, subst}
use Rattle.asn1_core.specs.Octets.{octet_contents}
use Rattle.asn1_core.specs.declared.tag.Tag.{Tag}
use Rattle.der_tree.specs.Codec.{Codec, FieldsOf, Struct, struct_of}
use Rattle.der_tree.specs.Grammar.{explicitly, optional, required, sequence, ◌&◌}
use Rattle.der_tree.specs.PrimitiveTypes.{octet_string}
use Rattle.der_tree.specs.Results.{ok_then}
use Rattle.der_tree.specs.Tags.{universal}
use Rattle.der_tree.specs.Tree.{PlainTree, leaf, node, row}
use Rattle.der_tree.specs.TreeBytes.{bytes, made, row_bytes}
use Rattle.der_tree.specs.laws.Results.{ok_is, ok_then_ok}
use Rattle.der_tree.proofs.ShortTrees.{contents_within}
use Rattle.outcomes.proofs.Within.{row_joined, row_of_one}

-- each tree of the value has at least n bytes
abbrev pub AtLeast : {A : Type 0} → Codec A → A → ℕ → Type 0
AtLeast c v n = (t : PlainTree) → c.tree_of v ≡ Ok t → n ≤ length (bytes t)

-- the trees of the fields have together
abbrev pub FieldsAtLeast : {A : Type 0} → FieldsOf A → A → ℕ → Type 0
FieldsAtLeast f v n = (ts : List PlainTree) → f.put v ≡ Ok ts → n ≤ length (row_bytes (row ts))

pub trees_have : (ts us : List PlainTree) (n : ℕ) → ts ≡ us → n ≤ length (row_bytes (row ts)) → n ≤ length (row_bytes (row us))
trees_have ts us n e h = subst (λ (x : List PlainTree). n ≤ length (row_bytes (row x))) e h

pub least_first : {A B : Type 0} (f : FieldsOf A) (g : FieldsOf B) (a : A) (b : B) (n : ℕ) → FieldsAtLeast f a n → FieldsAtLeast (f & g) (a, b) n
least_first f g a b n h ts e =
    let x = ok_then_ok (f.put a) (λ x. ok_then (g.put b) (λ y. Ok (x ++ y))) ts e in
    let y = ok_then_ok (g.put b) (λ y. Ok (x.0 ++ y)) ts x.2 in
    let first = h x.0 x.1 in
    trees_have (x.0 ++ y.0) ts n (ok_is (x.0 ++ y.0) ts y.2) (omega (arith, row_joined x.0 y.0))

pub least_rest : {A B : Type 0} (f : FieldsOf A) (g : FieldsOf B) (a : A) (b : B) (n : ℕ) → FieldsAtLeast g b n → FieldsAtLeast (f & g) (a, b) n
least_rest f g a b n h ts e =
    let x = ok_then_ok (f.put a) (λ x. ok_then (g.put b) (λ y. Ok (x ++ y))) ts e in
    let y = ok_then_ok (g.put b) (λ y. Ok (x.0 ++ y)) ts x.2 in
    let rest = h y.0 y.1 in
    trees_have (x.0 ++ y.0) ts n (ok_is (x.0 ++ y.0) ts y.2) (omega (arith, row_joined x.0 y.0))

pub least_field : {A : Type 0} (c : Codec A) (v : A) (n : ℕ) → AtLeast c v n → FieldsAtLeast (required c) v n
least_field c v n h ts e =
    let x = ok_then_ok (c.tree_of v) (λ t. Ok (t ∷ [])) ts e in
    let one = h x.0 x.1 in
    trees_have (x.0 ∷ []) ts n (ok_is (x.0 ∷ []) ts x.2) (omega (arith, row_of_one x.0))

pub least_if : {A : Type 0} (c : Codec A) (v : A) (n : ℕ) → AtLeast c v n → FieldsAtLeast (optional c) (Some v) n
least_if c v n h ts e = least_field c v n h ts e

pub least_sequence : {A : Type 0} (g : Tag) (s : Struct A) (v : A) (n : ℕ) → FieldsAtLeast s.fields v n → AtLeast (sequence g s) v n
least_sequence g s v n h t e =
    let x = ok_then_ok (s.fields.put v) (λ ts. Ok (node g (row ts))) t e in
    let inside = h x.0 x.1 in
    subst (λ (u : PlainTree). n ≤ length (bytes u)) (ok_is (node g (row x.0)) t x.2) (omega (arith, contents_within (made g true (row_bytes (row x.0)))))

pub least_explicit : {A : Type 0} (g : Tag) (c : Codec A) (v : A) (n : ℕ) → AtLeast c v n → AtLeast (explicitly g c) v n
least_explicit g c v n h = least_sequence g (struct_of (required c) refl) v n (least_field c v n h)

pub least_octets : (v : List ℕ) → AtLeast octet_string v (length v)
unfolding octet_contents
least_octets v t e =
    subst (λ (u : PlainTree). length v ≤ length (bytes u)) (ok_is (leaf (universal 4) v) t e) (contents_within (made (universal 4) false v))
