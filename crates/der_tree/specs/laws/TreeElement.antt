-- The elements that trees are.
use Rattle.std.specs.Prelude.{Bool, List, Some, false, refl, true, ℕ, [], ◌++◌, ◌∷◌, ◌≡◌}
use Rattle.std.specs.List.{flat_map}
use Rattle.std.proofs.Common.{ap, subst, sym, ◌∙◌}
use Rattle.asn1_core.specs.Binds.{and_true, bind_is, bind_some, chosen, some_is, true_and, ◌>>=◌}
use Rattle.asn1_core.specs.declared.tag.Tag.{Tag}
use Rattle.der_tree.specs.Element.{Element, all_encodable, element_octets, is_encodable}
use Rattle.der_tree.specs.Tree.{PlainTree, leaf, node, raw, retagged}
use Rattle.der_tree.specs.TreeElement.{all_raws_are_elements, checked, element_of, elements_of, raws_are_elements, row_elements}
use Rattle.der_tree.specs.laws.Element.{one_element_takes}

pub element_of_encodable : (t : PlainTree) (s : Element) → element_of t ≡ Some s → is_encodable s ≡ true
element_of_encodable (leaf t b) s e =
    let g = chosen (is_encodable (record { tag = t; constructed = false; content = b })) (record { tag = t; constructed = false; content = b }) s e in
    subst (λ (x : Element). is_encodable x ≡ true) g.1 g.0
element_of_encodable (node t k) s e =
    let x = bind_some (row_elements k) (λ ss. checked (record { tag = t; constructed = true; content = flat_map element_octets ss })) s e in
    let g = chosen (is_encodable (record { tag = t; constructed = true; content = flat_map element_octets x.0 }))
    (record { tag = t; constructed = true; content = flat_map element_octets x.0 }) s x.2 in
    subst (λ (x : Element). is_encodable x ≡ true) g.1 g.0
element_of_encodable (raw b) s e = (one_element_takes b s e).1

pub elements_of_encodable : (ts : List PlainTree) (ss : List Element) → elements_of ts ≡ Some ss → all_encodable ss ≡ true
elements_of_encodable [] ss e = subst (λ (x : List Element). all_encodable x ≡ true) (some_is [] ss e) refl
elements_of_encodable (t ∷ ts) ss e =
    let x = bind_some (element_of t) (λ s. elements_of ts >>= λ ss. Some (s ∷ ss)) ss e in
    let y = bind_some (elements_of ts) (λ ss. Some (x.0 ∷ ss)) ss x.2 in
    subst (λ (x : List Element). all_encodable x ≡ true) (some_is (x.0 ∷ y.0) ss y.2)
    (true_and (is_encodable x.0) (all_encodable y.0) (element_of_encodable t x.0 x.1) (elements_of_encodable ts y.0 y.1))

pub elements_of_cons : (t : PlainTree) (ts : List PlainTree) (s : Element) (ss : List Element) → element_of t ≡ Some s → elements_of ts ≡ Some ss
    → elements_of (t ∷ ts) ≡ Some (s ∷ ss)
elements_of_cons t ts s ss e f =
    bind_is (element_of t) (λ s. elements_of ts >>= λ ss. Some (s ∷ ss)) s (Some (s ∷ ss)) e
    (bind_is (elements_of ts) (λ ss. Some (s ∷ ss)) ss (Some (s ∷ ss)) f refl)

pub elements_of-append : (ls bs : List PlainTree) (xs ys : List Element) → elements_of ls ≡ Some xs → elements_of bs ≡ Some ys
    → elements_of (ls ++ bs) ≡ Some (xs ++ ys)
elements_of-append [] bs xs ys e f = subst (λ (x : List Element). elements_of bs ≡ Some (x ++ ys)) (some_is [] xs e) f
elements_of-append (t ∷ ls) bs xs ys e f =
    let x = bind_some (element_of t) (λ s. elements_of ls >>= λ ss. Some (s ∷ ss)) xs e in
    let y = bind_some (elements_of ls) (λ ss. Some (x.0 ∷ ss)) xs x.2 in
    let both = elements_of-append ls bs y.0 ys y.1 f in
    subst (λ (z : List Element). elements_of (t ∷ ls ++ bs) ≡ Some (z ++ ys)) (some_is (x.0 ∷ y.0) xs y.2)
    (elements_of_cons t (ls ++ bs) x.0 (y.0 ++ ys) x.1 both)

pub elements_of_split : (ls bs : List PlainTree) (zs : List Element) → elements_of (ls ++ bs) ≡ Some zs
    → (xs : List Element) × (ys : List Element) × (elements_of ls ≡ Some xs) × (elements_of bs ≡ Some ys) × (zs ≡ xs ++ ys)
elements_of_split [] bs zs e = ([], zs, refl, e, refl)
elements_of_split (t ∷ ls) bs zs e =
    let x = bind_some (element_of t) (λ s. elements_of (ls ++ bs) >>= λ ss. Some (s ∷ ss)) zs e in
    let y = bind_some (elements_of (ls ++ bs)) (λ ss. Some (x.0 ∷ ss)) zs x.2 in
    let r = elements_of_split ls bs y.0 y.1 in
    (x.0 ∷ r.0, r.1, elements_of_cons t ls x.0 r.0 x.1 r.2, r.3, sym (some_is (x.0 ∷ y.0) zs y.2) ∙ ap (λ (z : List Element). x.0 ∷ z) r.4)

pub all_raws-append : (xs ys : List PlainTree) → all_raws_are_elements xs ≡ true → all_raws_are_elements ys ≡ true → all_raws_are_elements (xs ++ ys) ≡ true
all_raws-append [] ys p q = q
all_raws-append (x ∷ xs) ys p q =
    let h = and_true (raws_are_elements x) (all_raws_are_elements xs) p in
    true_and (raws_are_elements x) (all_raws_are_elements (xs ++ ys)) h.0 (all_raws-append xs ys h.1 q)

pub raws-retagged : (g : Tag) (t : PlainTree) → raws_are_elements t ≡ true → raws_are_elements (retagged g t) ≡ true
raws-retagged g (leaf t b) h = h
raws-retagged g (node t k) h = h
raws-retagged g (raw b) h = h

pub element_is : (s : Element) (g : Tag) (b : Bool) (x : List ℕ) → s.tag ≡ g → s.constructed ≡ b → s.content ≡ x
    → s ≡ record { tag = g; constructed = b; content = x }
element_is s g b x e f h =
    ap (λ (t : Tag). let z : Element = record { tag = t; constructed = s.constructed; content = s.content } in z) e
    ∙ ap (λ (c : Bool). let z : Element = record { tag = g; constructed = c; content = s.content } in z) f
    ∙ ap (λ (y : List ℕ). let z : Element = record { tag = g; constructed = b; content = y } in z) h

pub checked_encodable : (s : Element) → is_encodable s ≡ true → checked s ≡ Some s
checked_encodable s h = rw h refl

pub checked_some : (s z : Element) → checked s ≡ Some z → s ≡ z
checked_some s z e = (chosen (is_encodable s) s z e).1

-- one tree is one element
pub one_tree_is : (t : PlainTree) (front : List Element) → elements_of (t ∷ []) ≡ Some front → (s : Element) × (element_of t ≡ Some s) × (s ∷ [] ≡ front)
one_tree_is t front e =
    let x = bind_some (element_of t) (λ s. Some (s ∷ [])) front e in
    (x.0, x.1, some_is (x.0 ∷ []) front x.2)
