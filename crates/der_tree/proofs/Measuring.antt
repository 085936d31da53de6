-- Trees measured from the last element to the first, and written from their sizes.
use Rattle.std.specs.Prelude.{◌≡◌, ℕ, ◌+◌, ◌-◌, ◌<◌, ◌≤◌, Bool, List, [], ◌∷◌, ◌++◌, length, drop, take, slice_index, is_some, false, true, refl}
use Rattle.std.proofs.Common.{sym, ap, ◌∙◌, subst, arith, append_assoc, get_or}
use Rattle.std.proofs.lemmas.List.{length-append, length-take, append-nil, drop_all, drop_more, get_or-take, get_or_push, take-take, take_at}
use Rattle.asn1_core.specs.declared.tag.Tag.{Tag}
use Rattle.der_tree.specs.declared.tree.Tree.{Tree}
use Rattle.der_tree.specs.declared.tree.Tree.TheVariants.{Node}
use Rattle.der_tree.specs.Element.{element_octets, identifier_octets, is_encodable, length_octets}
use Rattle.der_tree.specs.Sizes.{element_count, row_element_count, row_sizes, sizes_of}
use Rattle.der_tree.specs.Tree.{PlainTree, PlainTrees, leaf, more, node, none, raw, row}
use Rattle.der_tree.specs.TreeBytes.{bytes, made, row_bytes}
use Rattle.der_tree.specs.TreeElement.{element_of, raws_are_elements}
use Rattle.der_tree.specs.View.{plain, plain_list}
use Rattle.der_tree.proofs.Writing.{AreElements, elements_more, node_is}

-- an element is its header and its contents
pub header_first : (g : Tag) (c : Bool) (x : List ℕ) → element_octets (made g c x) ≡ (identifier_octets g c ++ length_octets (length x)) ++ x
unfolding element_octets
header_first g c x = sym (append_assoc (identifier_octets g c) (length_octets (length x)) x)

pub element_length : (g : Tag) (c : Bool) (x : List ℕ) (size i l n : ℕ) → i ≡ length (identifier_octets g c) → l ≡ length (length_octets size) → n ≡ size + (i + l) → length x ≡ size → n ≡ length (element_octets (made g c x))
element_length g c x size i l n p q e f =
    let h : length (length_octets (length x)) ≡ length (length_octets size) = ap (λ (k : ℕ). length (length_octets k)) f in
    omega (arith, ap length (header_first g c x), length-append (identifier_octets g c ++ length_octets (length x)) x, length-append (identifier_octets g c) (length_octets (length x)), h)

pub element_parts : (g : Tag) (c : Bool) (x : List ℕ) → length (element_octets (made g c x)) ≡ length (identifier_octets g c ++ length_octets (length x)) + length x
element_parts g c x = ap length (header_first g c x) ∙ length-append (identifier_octets g c ++ length_octets (length x)) x

pub element_put : (g : Tag) (c : Bool) (x old mid new : List ℕ) → mid ≡ old ++ (identifier_octets g c ++ length_octets (length x)) → new ≡ mid ++ x → new ≡ old ++ element_octets (made g c x)
element_put g c x old mid new e f =
    f ∙ ap (λ (y : List ℕ). y ++ x) e ∙ append_assoc old (identifier_octets g c ++ length_octets (length x)) x ∙ ap (λ (y : List ℕ). old ++ y) (sym (header_first g c x))

-- there is a size for each element
mutual
  pub sizes_count : (t : PlainTree) → length (sizes_of t) ≡ element_count t
  sizes_count (leaf t b) = refl
  sizes_count (node t k) = omega (arith, length-append (row_sizes k) (length (row_bytes k) ∷ []), row_sizes_count k)
  sizes_count (raw b) = refl

  pub row_sizes_count : (k : PlainTrees) → length (row_sizes k) ≡ row_element_count k
  row_sizes_count none = refl
  row_sizes_count (more t k) = omega (arith, length-append (row_sizes k) (sizes_of t), row_sizes_count k, sizes_count t)

-- the children from one on are that one and those after it
pub left : (ts : List Tree) (i : ℕ) (child : Tree) → i < length ts → get_or ts i child ≡ child → plain_list (drop i ts) ≡ plain child ∷ plain_list (drop (i + 1) ts)
left ts i child l g = ap plain_list (drop_more ts i child l ∙ ap (λ (x : Tree). x ∷ drop (i + 1) ts) g)

pub none_left : (ts : List Tree) (i : ℕ) → length ts ≤ i → plain_list (drop i ts) ≡ []
none_left ts i l = ap plain_list (drop_all i ts l)

-- what was done with the children that were measured
pub record Measured (ts : List PlainTree) (old now : List ℕ) (octets from to : ℕ) : Type 0 where
  pub sizes : now ≡ old ++ row_sizes (row ts)
  pub size : octets ≡ length (row_bytes (row ts))
  pub steps : to ≡ from + row_element_count (row ts)
  pub elements : AreElements ts

pub none_measured : (old : List ℕ) (from : ℕ) → Measured [] old old 0 from from
none_measured old from = record { sizes = sym (append-nil old); size = refl; steps = omega arith; elements = refl }

pub one_measured : (t : PlainTree) (ts : List PlainTree) (old now new : List ℕ) (octets of_child all from to then : ℕ)
    → Measured ts old now octets from to → new ≡ now ++ sizes_of t → of_child ≡ length (bytes t) → then ≡ to + element_count t → is_some (element_of t) ≡ raws_are_elements t → all ≡ octets + of_child
    → Measured (t ∷ ts) old new all from then
one_measured t ts old now new octets of_child all from to then m e f g h k = record {
  sizes = e ∙ ap (λ (x : List ℕ). x ++ sizes_of t) m.sizes ∙ append_assoc old (row_sizes (row ts)) (sizes_of t);
  size = omega (arith, m.size, f, k, length-append (bytes t) (row_bytes (row ts)));
  steps = omega (arith, m.steps, g);
  elements = elements_more t ts h m.elements;
}

pub leaf_is : (g : Tag) (b : List ℕ) → is_encodable (made g false b) ≡ true → is_some (element_of (leaf g b)) ≡ true
leaf_is g b h = rw h refl

-- the children of a node
pub node_parts : (tree : Tree) (tag : Tag) (children : List PlainTree) (ts : List Tree) → tree ≡ Node tag children → plain_list ts ≡ children → plain tree ≡ node tag (row (plain_list ts))
node_parts tree tag children ts e f = ap plain e ∙ ap (λ (x : List PlainTree). node tag (row x)) (sym f)

-- the numbers before a place end in these
abbrev pub EndIn : ℕ → List ℕ → List ℕ → Type 0
EndIn at xs s = (front : List ℕ) × (take at xs ≡ front ++ s)

-- the length of what comes before a place
place : (xs p t : List ℕ) (at : ℕ) → at ≤ length xs → take at xs ≡ p ++ t → at ≡ length p + length t
place xs p t at l e = omega (arith, ap length e, length-append p t, length-take at xs)

-- what comes before the last ones
pub end_before : (xs s t : List ℕ) (at before : ℕ) → at ≤ length xs → EndIn at xs (s ++ t) → before + length t ≡ at → EndIn before xs s
end_before xs s t at before l h e =
    let p = h.1 ∙ sym (append_assoc h.0 s t) in
    let n = place xs (h.0 ++ s) t at l p in
    (h.0, sym (take-take before at xs (omega arith)) ∙ ap (take before) p ∙ take_at (h.0 ++ s) t before (omega arith))

pub end_last : (xs s t : List ℕ) (at : ℕ) → EndIn at xs (s ++ t) → EndIn at xs t
end_last xs s t at h = (h.0 ++ s, h.1 ∙ sym (append_assoc h.0 s t))

-- the last number before a place
pub last_size : (xs s : List ℕ) (n at : ℕ) → at ≤ length xs → EndIn at xs (s ++ n ∷ []) → slice_index xs (at - 1) ≡ n
last_size xs s n at l h =
    let p = h.1 ∙ sym (append_assoc h.0 s (n ∷ [])) in
    let e = place xs (h.0 ++ s) (n ∷ []) at l p in
    sym (get_or-take at xs (at - 1) 0 (omega arith)) ∙ ap (λ (ys : List ℕ). get_or ys (at - 1) 0) p ∙ get_or_push (h.0 ++ s) n 0 (at - 1) (omega arith)

-- what was done with the children before those that are left
pub record Written (left_over all : List PlainTree) (old now : List ℕ) (from to : ℕ) (numbers : List ℕ) (first at : ℕ) : Type 0 where
  pub octets : now ++ row_bytes (row left_over) ≡ old ++ row_bytes (row all)
  pub steps : to + length (row_bytes (row left_over)) ≡ from + length (row_bytes (row all))
  pub count : at + row_element_count (row all) ≡ first + row_element_count (row left_over)
  pub within : at ≤ length numbers
  pub sizes : EndIn at numbers (row_sizes (row left_over))

pub none_written : (all : List PlainTree) (old : List ℕ) (from : ℕ) (numbers : List ℕ) (n at : ℕ) → at ≤ length numbers → EndIn at numbers (row_sizes (row all) ++ n ∷ []) → Written all all old old from from numbers (at - 1) (at - 1)
none_written all old from numbers n at l h =
    let e = place numbers (h.0 ++ row_sizes (row all)) (n ∷ []) at l (h.1 ∙ sym (append_assoc h.0 (row_sizes (row all)) (n ∷ []))) in
    record {
      octets = refl;
      steps = refl;
      count = refl;
      within = omega arith;
      sizes = end_before numbers (row_sizes (row all)) (n ∷ []) at (at - 1) l h (omega arith);
    }

pub one_written : (t : PlainTree) (rest all : List PlainTree) (old now new : List ℕ) (from to then : ℕ) (numbers : List ℕ) (first at before : ℕ)
    → Written (t ∷ rest) all old now from to numbers first at → new ≡ now ++ bytes t → then ≡ to + length (bytes t) → before + element_count t ≡ at
    → Written rest all old new from then numbers first before
one_written t rest all old now new from to then numbers first at before w e f g = record {
  octets = ap (λ (x : List ℕ). x ++ row_bytes (row rest)) e ∙ append_assoc now (bytes t) (row_bytes (row rest)) ∙ w.octets;
  steps = omega (arith, w.steps, f, length-append (bytes t) (row_bytes (row rest)));
  count = omega (arith, w.count, g);
  within = omega (arith, w.within, g);
  sizes = end_before numbers (row_sizes (row rest)) (sizes_of t) at before w.within w.sizes (omega (arith, g, sizes_count t));
}

-- there is room for the next child
pub child_fits : (t : PlainTree) (rest all : List PlainTree) (old now : List ℕ) (from to : ℕ) (numbers : List ℕ) (first at room : ℕ)
    → Written (t ∷ rest) all old now from to numbers first at → length old + length (row_bytes (row all)) ≤ room → length now + length (bytes t) ≤ room
child_fits t rest all old now from to numbers first at room w l =
    omega (arith, ap length w.octets, length-append now (bytes t ++ row_bytes (row rest)), length-append (bytes t) (row_bytes (row rest)), length-append old (row_bytes (row all)))

-- of a node whose children are k, and of its header
module _ (tree : PlainTree) (tag : Tag) (k : PlainTrees) (is : tree ≡ node tag k) where
  pub node_ends : (xs : List ℕ) (at : ℕ) → EndIn at xs (sizes_of tree) → EndIn at xs (row_sizes k ++ length (row_bytes k) ∷ [])
  node_ends xs at h = subst (λ (t : PlainTree). EndIn at xs (sizes_of t)) is h

  pub node_size : (xs : List ℕ) (at n : ℕ) → at ≤ length xs → EndIn at xs (sizes_of tree) → n ≡ slice_index xs (at - 1) → n ≡ length (row_bytes k)
  node_size xs at n l h e = e ∙ last_size xs (row_sizes k) (length (row_bytes k)) at l (node_ends xs at h)

  parts : (n : ℕ) → n ≡ length (row_bytes k) → bytes tree ≡ (identifier_octets tag true ++ length_octets n) ++ row_bytes k
  parts n e = ap bytes is ∙ header_first tag true (row_bytes k) ∙ ap (λ (m : ℕ). (identifier_octets tag true ++ length_octets m) ++ row_bytes k) (sym e)

  pub header_fits : (n room : ℕ) (old : List ℕ) → n ≡ length (row_bytes k) → length old + length (bytes tree) ≤ room → length old + length (identifier_octets tag true ++ length_octets n) ≤ room
  header_fits n room old e l = omega (arith, ap length (parts n e), length-append (identifier_octets tag true ++ length_octets n) (row_bytes k))

  pub children_fit : (n room : ℕ) (old mid : List ℕ) → n ≡ length (row_bytes k) → length old + length (bytes tree) ≤ room → mid ≡ old ++ (identifier_octets tag true ++ length_octets n) → length mid + length (row_bytes k) ≤ room
  children_fit n room old mid e l f =
      omega (arith, ap length (parts n e), length-append (identifier_octets tag true ++ length_octets n) (row_bytes k), ap length f, length-append old (identifier_octets tag true ++ length_octets n))

  pub node_put : (n : ℕ) (old mid now : List ℕ) → n ≡ length (row_bytes k) → mid ≡ old ++ (identifier_octets tag true ++ length_octets n) → now ++ [] ≡ mid ++ row_bytes k → now ≡ old ++ bytes tree
  node_put n old mid now e f g =
      sym (append-nil now) ∙ g ∙ ap (λ (x : List ℕ). x ++ row_bytes k) f ∙ append_assoc old (identifier_octets tag true ++ length_octets n) (row_bytes k) ∙ ap (λ (x : List ℕ). old ++ x) (sym (parts n e))

  pub node_steps : (n from mid to : ℕ) → n ≡ length (row_bytes k) → mid ≡ from + length (identifier_octets tag true ++ length_octets n) → to + 0 ≡ mid + length (row_bytes k) → to ≡ from + length (bytes tree)
  node_steps n from mid to e f g = omega (arith, ap length (parts n e), length-append (identifier_octets tag true ++ length_octets n) (row_bytes k))

  pub node_count : (at to : ℕ) → to + row_element_count k ≡ (at - 1) + 0 → 0 < at → to + element_count tree ≡ at
  node_count at to e l = omega (arith, ap element_count is)

-- of a node whose children were all measured
pub node_measured : (tree : Tree) (tag : Tag) (children : List PlainTree) (ts : List Tree) → tree ≡ Node tag children → plain_list ts ≡ children
    → (i : ℕ) (old now : List ℕ) (octets from to : ℕ) → i ≤ 0 → Measured (plain_list (drop i ts)) old now octets from to
    → ((x : List ℕ) → length x ≡ octets → is_encodable (made tag true x) ≡ true) → is_some (element_of (plain tree)) ≡ raws_are_elements (plain tree)
node_measured tree tag children ts is are i old now octets from to l m h =
    let z : i ≡ 0 = omega arith in
    let m0 = subst (λ (n : ℕ). Measured (plain_list (drop n ts)) old now octets from to) z m in
    let n = node_is tag (plain_list ts) (h (row_bytes (row (plain_list ts))) (sym m0.size)) m0.elements in
    subst (λ (t : PlainTree). is_some (element_of t) ≡ raws_are_elements t) (sym (node_parts tree tag children ts is are)) n

some_elements : (t : PlainTree) → 0 < element_count t
some_elements (leaf t b) = omega arith
some_elements (node t k) = omega arith
some_elements (raw b) = omega arith

-- the sizes of a tree aren't none
pub positive : (t : PlainTree) (xs : List ℕ) (at : ℕ) → at ≤ length xs → EndIn at xs (sizes_of t) → 0 < at
positive t xs at l h = omega (arith, place xs h.0 (sizes_of t) at l h.1, sizes_count t, some_elements t)
