-- The laws of SEQUENCE OF.
use Rattle.std.specs.Prelude.{Bool, Err, List, None, Ok, Option, Some, cond, is_ok, length, refl, suc, true, zero, ℕ, [], ◌&&◌, ◌++◌, ◌∷◌, ◌≡◌}
use Rattle.std.specs.List.{list_all}
use Rattle.std.proofs.Common.{ap, subst, sym, ◌∙◌}
use Rattle.std.proofs.lemmas.List.{append-nil}
use Rattle.asn1_core.specs.Binds.{and_true, bind_is, bind_some, kept, some_is, true_and, ◌>>=◌}
use Rattle.der_tree.specs.declared.error.EncodeError.TheVariants.{SizeOutOfRange}
use Rattle.der_tree.specs.Codec.{Clear, Codec, with_fields}
use Rattle.der_tree.specs.Element.{Element, all_encodable, is_encodable}
use Rattle.der_tree.specs.Results.{ok_then}
use Rattle.der_tree.specs.SequenceOf.{each_of, each_put, is_within, list_get, list_has_trees, list_put, next_list, within}
use Rattle.der_tree.specs.Tags.{Tags, disjoint, every}
use Rattle.der_tree.specs.Tree.{PlainTree}
use Rattle.der_tree.specs.TreeElement.{all_raws_are_elements, element_of, elements_of, raws_are_elements}
use Rattle.der_tree.specs.laws.Codec.{element_starts}
use Rattle.der_tree.specs.laws.Results.{and_same, is_ok_both, is_ok_kept, ok_is, ok_kept, ok_then_is, ok_then_ok}
use Rattle.der_tree.specs.laws.Tags.{disjoint_is}
use Rattle.der_tree.specs.laws.TreeElement.{elements_of_cons}

module _ {A : Type 0} (c : Codec A) where
  pub each_of_takes : (ss : List Element) (vs : List A) → all_encodable ss ≡ true → each_of c ss ≡ Some vs
      → (ts : List PlainTree) × (each_put c vs ≡ Ok ts) × (elements_of ts ≡ Some ss)
  each_of_takes [] vs h e =
      subst (λ (x : List A). (ts : List PlainTree) × (each_put c x ≡ Ok ts) × (elements_of ts ≡ Some [])) (some_is [] vs e) ([], refl, refl)
  each_of_takes (s ∷ ss) vs h e =
      let p = and_true (is_encodable s) (all_encodable ss) h in
      let x = bind_some (c.read_of s) (λ v. each_of c ss >>= λ vs. Some (v ∷ vs)) vs e in
      let y = bind_some (each_of c ss) (λ vs. Some (x.0 ∷ vs)) vs x.2 in
      let t = c.takes s x.0 p.0 x.1 in
      let r = each_of_takes ss y.0 p.1 y.1 in
      subst (λ (z : List A). (ts : List PlainTree) × (each_put c z ≡ Ok ts) × (elements_of ts ≡ Some (s ∷ ss))) (some_is (x.0 ∷ y.0) vs y.2) (
        t.0 ∷ r.0,
        ok_then_is (c.tree_of x.0) (λ t. ok_then (each_put c y.0) (λ ts. Ok (t ∷ ts))) t.0 (Ok (t.0 ∷ r.0)) t.1
            (ok_then_is (each_put c y.0) (λ ts. Ok (t.0 ∷ ts)) r.0 (Ok (t.0 ∷ r.0)) r.1 refl),
        elements_of_cons t.0 r.0 s ss t.2 r.2,
      )

  pub each_of_again : (vs : List A) (ts : List PlainTree) (ss : List Element) → each_put c vs ≡ Ok ts → elements_of ts ≡ Some ss → each_of c ss ≡ Some vs
  each_of_again [] ts ss e f = ap (each_of c) (sym (some_is [] ss (ap elements_of (ok_is [] ts e) ∙ f)))
  each_of_again (v ∷ vs) ts ss e f =
      let x = ok_then_ok (c.tree_of v) (λ t. ok_then (each_put c vs) (λ ts. Ok (t ∷ ts))) ts e in
      let y = ok_then_ok (each_put c vs) (λ ts. Ok (x.0 ∷ ts)) ts x.2 in
      let g = ap elements_of (ok_is (x.0 ∷ y.0) ts y.2) ∙ f in
      let p = bind_some (element_of x.0) (λ s. elements_of y.0 >>= λ ss. Some (s ∷ ss)) ss g in
      let q = bind_some (elements_of y.0) (λ ss. Some (p.0 ∷ ss)) ss p.2 in
      ap (each_of c) (sym (some_is (p.0 ∷ q.0) ss q.2))
      ∙ bind_is (c.read_of p.0) (λ v. each_of c q.0 >>= λ vs. Some (v ∷ vs)) v (Some (v ∷ vs)) (c.again v x.0 p.0 x.1 p.1)
      (bind_is (each_of c q.0) (λ vs. Some (v ∷ vs)) vs (Some (v ∷ vs)) (each_of_again vs y.0 q.0 y.1 q.1) refl)

  pub each_sound : (vs : List A) (ts : List PlainTree) → each_put c vs ≡ Ok ts → all_raws_are_elements ts ≡ true
  each_sound [] ts e = subst (λ (x : List PlainTree). all_raws_are_elements x ≡ true) (ok_is [] ts e) refl
  each_sound (v ∷ vs) ts e =
      let x = ok_then_ok (c.tree_of v) (λ t. ok_then (each_put c vs) (λ ts. Ok (t ∷ ts))) ts e in
      let y = ok_then_ok (each_put c vs) (λ ts. Ok (x.0 ∷ ts)) ts x.2 in
      subst (λ (z : List PlainTree). all_raws_are_elements z ≡ true) (ok_is (x.0 ∷ y.0) ts y.2)
      (true_and (raws_are_elements x.0) (all_raws_are_elements y.0) (c.sound v x.0 x.1) (each_sound vs y.0 y.1))

  each_sample : (n : ℕ) → (vs : List A) × (ts : List PlainTree) × (each_put c vs ≡ Ok ts) × (length vs ≡ n)
  each_sample zero = ([], [], refl, refl)
  each_sample (suc n) =
      let x = c.sample in
      let r = each_sample n in (
        x.0 ∷ r.0,
        x.1 ∷ r.1,
        ok_then_is (c.tree_of x.0) (λ t. ok_then (each_put c r.0) (λ ts. Ok (t ∷ ts))) x.1 (Ok (x.1 ∷ r.1)) x.2
            (ok_then_is (each_put c r.0) (λ ts. Ok (x.1 ∷ ts)) r.1 (Ok (x.1 ∷ r.1)) r.2 refl),
        ap (λ (k : ℕ). suc k) r.3,
      )

  pub each_has : (vs : List A) → list_all c.has_tree vs ≡ is_ok (each_put c vs)
  each_has [] = refl
  each_has (v ∷ vs) =
      and_same (c.has_tree v) (list_all c.has_tree vs) (is_ok (c.tree_of v)) (is_ok (each_put c vs)) (c.has_tree_is v) (each_has vs)
      ∙ is_ok_both (c.tree_of v) (each_put c vs) (λ t ts. t ∷ ts)

-- where no element may come next, none does
pub all_clear : (rest : List Element) → Clear every rest → rest ≡ []
all_clear [] k = refl
all_clear (s ∷ ss) k = absurd cc

module _ {A : Type 0} (c : Codec A) (low : ℕ) (high : Option ℕ) where
  pub list_takes : (ss : List Element) (v : List A) (rest : List Element) → all_encodable ss ≡ true → list_get c low high ss ≡ Some (v, rest)
      → (ts : List PlainTree) × (front : List Element) × (list_put c low high v ≡ Ok ts) × (elements_of ts ≡ Some front) × (ss ≡ front ++ rest)
  list_takes ss v rest h e =
      let x = bind_some (each_of c ss) (λ vs. within c low high vs >>= λ vs. Some (vs, [])) (v, rest) e in
      let w = bind_some (within c low high x.0) (λ vs. Some (vs, [])) (v, rest) x.2 in
      let k = kept (is_within low high (length x.0)) (Some x.0) w.0 w.1 in
      let same : ◌≡◌ {A = List A × List Element} (x.0, []) (v, rest) = ap (λ (z : List A). let p : List A × List Element = (z, []) in p)
      (some_is x.0 w.0 k.1) ∙ some_is (w.0, []) (v, rest) w.2 in
      let r = each_of_takes c ss x.0 h x.1 in
      subst (λ (z : List A × List Element). (ts : List PlainTree) × (front : List Element) × (list_put c low high z.0 ≡ Ok ts)
      × (elements_of ts ≡ Some front) × (ss ≡ front ++ z.1)) same
      (r.0, ss, ap (λ (b : Bool). cond b (each_put c x.0) (Err SizeOutOfRange)) k.0 ∙ r.1, r.2, sym (append-nil ss))

  pub list_again : (v : List A) (ts : List PlainTree) (front rest : List Element) → list_put c low high v ≡ Ok ts → elements_of ts ≡ Some front
      → Clear every rest → list_get c low high (front ++ rest) ≡ Some (v, rest)
  list_again v ts front rest e f k =
      let p = ok_kept (is_within low high (length v)) (each_put c v) ts SizeOutOfRange e in
      let nil = all_clear rest k in
      let got : each_of c front ≡ Some v = each_of_again c v ts front p.1 f in
      let at : list_get c low high front ≡ Some (v, []) = bind_is (each_of c front) (λ vs. within c low high vs >>= λ vs. Some (vs, [])) v (Some (v, []))
      got (bind_is (within c low high v) (λ vs. Some (vs, [])) v (Some (v, [])) (ap (λ (b : Bool). cond b (Some v) None) p.0) refl) in
      ap (λ (r : List Element). list_get c low high (front ++ r)) nil ∙ ap (list_get c low high) (append-nil front) ∙ at
      ∙ ap (λ (r : List Element). let q : List A × List Element = (v, r) in Some q) (sym nil)

  each_heads : (v : List A) (ts : List PlainTree) (front rest : List Element) (tags : Tags) → each_put c v ≡ Ok ts → elements_of ts ≡ Some front
      → disjoint tags c.starts ≡ true → Clear tags rest → Clear tags (front ++ rest)
  each_heads [] ts front rest tags e f d k = subst (λ (w : List Element). Clear tags (w ++ rest)) (some_is [] front (ap elements_of (ok_is [] ts e) ∙ f)) k
  each_heads (v ∷ vs) ts front rest tags e f d k =
      let x = ok_then_ok (c.tree_of v) (λ t. ok_then (each_put c vs) (λ ts. Ok (t ∷ ts))) ts e in
      let y = ok_then_ok (each_put c vs) (λ ts. Ok (x.0 ∷ ts)) ts x.2 in
      let p = bind_some (element_of x.0) (λ s. elements_of y.0 >>= λ ss. Some (s ∷ ss)) front (ap elements_of (ok_is (x.0 ∷ y.0) ts y.2) ∙ f) in
      let q = bind_some (elements_of y.0) (λ ss. Some (p.0 ∷ ss)) front p.2 in
      subst (λ (w : List Element). Clear tags (w ++ rest)) (some_is (p.0 ∷ q.0) front q.2)
      (disjoint_is tags c.starts p.0.tag d (element_starts c v x.0 p.0 x.1 p.1))

  pub list_heads : (v : List A) (ts : List PlainTree) (front rest : List Element) (tags : Tags) → list_put c low high v ≡ Ok ts
      → elements_of ts ≡ Some front → disjoint tags c.starts ≡ true → (true ≡ true → Clear tags rest) → Clear tags (front ++ rest)
  list_heads v ts front rest tags e f d k =
      let p = ok_kept (is_within low high (length v)) (each_put c v) ts SizeOutOfRange e in
      each_heads v ts front rest tags p.1 f d (k refl)

  pub list_sound : (v : List A) (ts : List PlainTree) → list_put c low high v ≡ Ok ts → all_raws_are_elements ts ≡ true
  list_sound v ts e = each_sound c v ts (ok_kept (is_within low high (length v)) (each_put c v) ts SizeOutOfRange e).1

  -- the least list
  pub list_sample : is_within low high low ≡ true → (vs : List A) × (ts : List PlainTree) × (list_put c low high vs ≡ Ok ts)
  list_sample h =
      let x = each_sample c low in
      (x.0, x.1, ap (λ (b : Bool). cond b (each_put c x.0) (Err SizeOutOfRange)) (ap (is_within low high) x.3 ∙ h) ∙ x.2)

  pub list_has : (vs : List A) → list_has_trees c low high vs ≡ is_ok (list_put c low high vs)
  list_has vs =
      ap (λ (b : Bool). is_within low high (length vs) && b) (each_has c vs) ∙ is_ok_kept (is_within low high (length vs)) (each_put c vs) SizeOutOfRange

pub list_reads : {A : Type 0} (c : Codec A) (low : ℕ) (high : Option ℕ) {B : Type 0} (ss : List Element) (k : List A → List Element → Option B)
    → with_fields k (next_list c low high ss) ≡ with_fields k (list_get c low high ss)
unfolding next_list
list_reads c low high ss k = refl
