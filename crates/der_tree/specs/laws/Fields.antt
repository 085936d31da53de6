-- The laws of required fields, of fields one after another, and of those of a struct.
use Rattle.std.specs.Prelude.{Bool, List, None, Ok, Option, Some, cond, false, is_ok, refl, true, [], ◌&&◌, ◌++◌, ◌∷◌, ◌≡◌}
use Rattle.std.proofs.Common.{ap, append_assoc, subst, sym, ◌∙◌}
use Rattle.asn1_core.specs.Binds.{and_true, bind_is, bind_some, some_is, true_and, ◌>>=◌}
use Rattle.der_tree.specs.Codec.{Clear, Codec, FieldsOf, with_fields}
use Rattle.der_tree.specs.Element.{Element, all_encodable, is_encodable}
use Rattle.der_tree.specs.Fields.{as_get, as_put, next_required, required_get, required_put, then_blocks, then_fine, then_first, then_get, then_put}
use Rattle.der_tree.specs.Results.{ok_then}
use Rattle.der_tree.specs.Tags.{Tags, disjoint, join, these}
use Rattle.der_tree.specs.Tree.{PlainTree}
use Rattle.der_tree.specs.TreeElement.{all_raws_are_elements, elements_of, raws_are_elements}
use Rattle.der_tree.specs.laws.Codec.{element_starts}
use Rattle.der_tree.specs.laws.Element.{all_encodable-append}
use Rattle.der_tree.specs.laws.Results.{and_same, is_ok_both, is_ok_then, ok_is, ok_then_is, ok_then_ok}
use Rattle.der_tree.specs.laws.Tags.{disjoint-join, disjoint_is, join_false}
use Rattle.der_tree.specs.laws.TreeElement.{all_raws-append, elements_of-append, elements_of_cons, elements_of_split, one_tree_is}

module _ {A : Type 0} (c : Codec A) where
  pub required_takes : (ss : List Element) (v : A) (rest : List Element) → all_encodable ss ≡ true → required_get c ss ≡ Some (v, rest)
      → (ts : List PlainTree) × (front : List Element) × (required_put c v ≡ Ok ts) × (elements_of ts ≡ Some front) × (ss ≡ front ++ rest)
  required_takes [] v rest h e = absurd cc
  required_takes (s ∷ ss) v rest h e =
      let x = bind_some (c.read_of s) (λ v. Some (v, ss)) (v, rest) e in
      let same = some_is (x.0, ss) (v, rest) x.2 in
      let is : c.read_of s ≡ Some v = x.1 ∙ ap (λ (p : A × List Element). Some p.0) same in
      let t = c.takes s v (and_true (is_encodable s) (all_encodable ss) h).0 is in (
        t.0 ∷ [],
        s ∷ [],
        ok_then_is (c.tree_of v) (λ t. Ok (t ∷ [])) t.0 (Ok (t.0 ∷ [])) t.1 refl,
        elements_of_cons t.0 [] s [] t.2 refl,
        ap (λ (p : A × List Element). s ∷ p.1) same,
      )

  pub required_again : (v : A) (ts : List PlainTree) (front rest : List Element) → required_put c v ≡ Ok ts → elements_of ts ≡ Some front
      → Clear (these []) rest → required_get c (front ++ rest) ≡ Some (v, rest)
  required_again v ts front rest e f k =
      let x = ok_then_ok (c.tree_of v) (λ t. Ok (t ∷ [])) ts e in
      let y = one_tree_is x.0 front (ap elements_of (ok_is (x.0 ∷ []) ts x.2) ∙ f) in
      subst (λ (w : List Element). required_get c (w ++ rest) ≡ Some (v, rest)) y.2
      (bind_is (c.read_of y.0) (λ v. Some (v, rest)) v (Some (v, rest)) (c.again v x.0 y.0 x.1 y.1) refl)

  pub required_heads : (v : A) (ts : List PlainTree) (front rest : List Element) (tags : Tags) → required_put c v ≡ Ok ts → elements_of ts ≡ Some front
      → disjoint tags c.starts ≡ true → (false ≡ true → Clear tags rest) → Clear tags (front ++ rest)
  required_heads v ts front rest tags e f d k =
      let x = ok_then_ok (c.tree_of v) (λ t. Ok (t ∷ [])) ts e in
      let y = one_tree_is x.0 front (ap elements_of (ok_is (x.0 ∷ []) ts x.2) ∙ f) in
      subst (λ (w : List Element). Clear tags (w ++ rest)) y.2 (disjoint_is tags c.starts y.0.tag d (element_starts c v x.0 y.0 x.1 y.1))

  pub required_sound : (v : A) (ts : List PlainTree) → required_put c v ≡ Ok ts → all_raws_are_elements ts ≡ true
  required_sound v ts e =
      let x = ok_then_ok (c.tree_of v) (λ t. Ok (t ∷ [])) ts e in
      subst (λ (z : List PlainTree). all_raws_are_elements z ≡ true) (ok_is (x.0 ∷ []) ts x.2)
      (true_and (raws_are_elements x.0) true (c.sound v x.0 x.1) refl)

  pub required_sample : (v : A) × (ts : List PlainTree) × (required_put c v ≡ Ok ts)
  required_sample = let x = c.sample in (x.0, x.1 ∷ [], ok_then_is (c.tree_of x.0) (λ t. Ok (t ∷ [])) x.1 (Ok (x.1 ∷ [])) x.2 refl)

  pub required_has : (v : A) → c.has_tree v ≡ is_ok (required_put c v)
  required_has v = c.has_tree_is v ∙ is_ok_then (c.tree_of v) (λ t. t ∷ [])

pub required_reads : {A : Type 0} (c : Codec A) {B : Type 0} (ss : List Element) (k : A → List Element → Option B)
    → with_fields k (next_required c.read_of ss) ≡ with_fields k (required_get c ss)
unfolding next_required
required_reads c ss k = refl

clear_parts : (b : Bool) (p q : Tags) (rest : List Element) → Clear (cond b (join p q) q) rest → Clear q rest × (b ≡ true → Clear p rest)
clear_parts true p q [] k = (tt, λ e. tt)
clear_parts true p q (s ∷ ss) k = let h = join_false p q s.tag k in (h.1, λ e. h.0)
clear_parts false p q rest k = (k, λ e. absurd cc)

disjoint_parts : (b : Bool) (tags p q : Tags) → disjoint tags (cond b (join p q) p) ≡ true → (disjoint tags p ≡ true) × (b ≡ true → disjoint tags q ≡ true)
disjoint_parts true tags p q e = let h = disjoint-join tags p q e in (h.0, λ k. h.1)
disjoint_parts false tags p q e = (e, λ k. absurd cc)

module _ {A B : Type 0} (f : FieldsOf A) (g : FieldsOf B) where
  then_takes_at : (ss : List Element) (a : A) (mid : List Element) (b : B) (last : List Element) (v : A × B) (rest : List Element)
      → all_encodable ss ≡ true → f.get ss ≡ Some (a, mid) → g.get mid ≡ Some (b, last) → ◌≡◌ {A = (A × B) × List Element} ((a, b), last) (v, rest)
      → (ts : List PlainTree) × (front : List Element) × (then_put f g v ≡ Ok ts) × (elements_of ts ≡ Some front) × (ss ≡ front ++ rest)
  then_takes_at ss a mid b last v rest h e1 e2 e3 =
      let p = f.takes ss a mid h e1 in
      let q = g.takes mid b last (all_encodable-append p.1 mid (subst (λ (z : List Element). all_encodable z ≡ true) p.4 h)).1 e2 in
      subst (λ (z : (A × B) × List Element). (ts : List PlainTree) × (front : List Element) × (then_put f g z.0 ≡ Ok ts) × (elements_of ts ≡ Some front)
      × (ss ≡ front ++ z.1)) e3 (
        p.0 ++ q.0,
        p.1 ++ q.1,
        ok_then_is (f.put a) (λ x. ok_then (g.put b) (λ y. Ok (x ++ y))) p.0 (Ok (p.0 ++ q.0)) p.2
            (ok_then_is (g.put b) (λ y. Ok (p.0 ++ y)) q.0 (Ok (p.0 ++ q.0)) q.2 refl),
        elements_of-append p.0 q.0 p.1 q.1 p.3 q.3,
        p.4 ∙ ap (λ (z : List Element). p.1 ++ z) q.4 ∙ sym (append_assoc p.1 q.1 last),
      )

  pub then_takes : (ss : List Element) (v : A × B) (rest : List Element) → all_encodable ss ≡ true → then_get f g ss ≡ Some (v, rest)
      → (ts : List PlainTree) × (front : List Element) × (then_put f g v ≡ Ok ts) × (elements_of ts ≡ Some front) × (ss ≡ front ++ rest)
  then_takes ss v rest h e =
      let x = bind_some (f.get ss) (λ x. g.get x.1 >>= λ y. Some ((x.0, y.0), y.1)) (v, rest) e in
      let y = bind_some (g.get x.0.1) (λ y. Some ((x.0.0, y.0), y.1)) (v, rest) x.2 in
      then_takes_at ss x.0.0 x.0.1 y.0.0 y.0.1 v rest h x.1 y.1 (some_is ((x.0.0, y.0.0), y.0.1) (v, rest) y.2)

  then_parts : (v : A × B) (ts : List PlainTree) (front : List Element) → then_put f g v ≡ Ok ts → elements_of ts ≡ Some front
      → (x y : List PlainTree) × (xs ys : List Element) × (f.put v.0 ≡ Ok x) × (elements_of x ≡ Some xs) × (g.put v.1 ≡ Ok y) × (elements_of y ≡ Some ys)
      × (front ≡ xs ++ ys)
  then_parts v ts front e h =
      let x = ok_then_ok (f.put v.0) (λ x. ok_then (g.put v.1) (λ y. Ok (x ++ y))) ts e in
      let y = ok_then_ok (g.put v.1) (λ y. Ok (x.0 ++ y)) ts x.2 in
      let s = elements_of_split x.0 y.0 front (ap elements_of (ok_is (x.0 ++ y.0) ts y.2) ∙ h) in
      (x.0, y.0, s.0, s.1, x.1, s.2, y.1, s.3, s.4)

  pub then_again : then_fine f g ≡ true → (v : A × B) (ts : List PlainTree) (front rest : List Element) → then_put f g v ≡ Ok ts
      → elements_of ts ≡ Some front → Clear (then_blocks f g) rest → then_get f g (front ++ rest) ≡ Some (v, rest)
  then_again ok v ts front rest e h k =
      let o = and_true (disjoint f.blocks g.first) (f.fine && g.fine) ok in
      let o2 = and_true f.fine g.fine o.1 in
      let p = then_parts v ts front e h in
      let c = clear_parts g.may_be_none f.blocks g.blocks rest k in
      let one = f.again o2.0 v.0 p.0 p.2 (p.3 ++ rest) p.4 p.5 (g.heads v.1 p.1 p.3 rest f.blocks p.6 p.7 o.0 c.1) in
      let two = g.again o2.1 v.1 p.1 p.3 rest p.6 p.7 c.0 in
      let at : then_get f g (p.2 ++ (p.3 ++ rest)) ≡ Some (v, rest) = bind_is (f.get (p.2 ++ (p.3 ++ rest)))
      (λ x. g.get x.1 >>= λ y. Some ((x.0, y.0), y.1)) (v.0, p.3 ++ rest) (Some (v, rest)) one
      (bind_is (g.get (p.3 ++ rest)) (λ y. Some ((v.0, y.0), y.1)) (v.1, rest) (Some (v, rest)) two refl) in
      ap (λ (z : List Element). then_get f g (z ++ rest)) p.8 ∙ ap (then_get f g) (append_assoc p.2 p.3 rest) ∙ at

  pub then_heads : (v : A × B) (ts : List PlainTree) (front rest : List Element) (tags : Tags) → then_put f g v ≡ Ok ts → elements_of ts ≡ Some front
      → disjoint tags (then_first f g) ≡ true → ((f.may_be_none && g.may_be_none) ≡ true → Clear tags rest) → Clear tags (front ++ rest)
  then_heads v ts front rest tags e h d k =
      let p = then_parts v ts front e h in
      let q = disjoint_parts f.may_be_none tags f.first g.first d in
      let at : Clear tags (p.2 ++ (p.3 ++ rest)) = f.heads v.0 p.0 p.2 (p.3 ++ rest) tags p.4 p.5 q.0
      (λ n. g.heads v.1 p.1 p.3 rest tags p.6 p.7 (q.1 n) (λ m. k (true_and f.may_be_none g.may_be_none n m))) in
      subst (λ (z : List Element). Clear tags z) (sym (append_assoc p.2 p.3 rest) ∙ ap (λ (z : List Element). z ++ rest) (sym p.8)) at

  pub then_sound : (v : A × B) (ts : List PlainTree) → then_put f g v ≡ Ok ts → all_raws_are_elements ts ≡ true
  then_sound v ts e =
      let x = ok_then_ok (f.put v.0) (λ x. ok_then (g.put v.1) (λ y. Ok (x ++ y))) ts e in
      let y = ok_then_ok (g.put v.1) (λ y. Ok (x.0 ++ y)) ts x.2 in
      subst (λ (z : List PlainTree). all_raws_are_elements z ≡ true) (ok_is (x.0 ++ y.0) ts y.2)
      (all_raws-append x.0 y.0 (f.sound v.0 x.0 x.1) (g.sound v.1 y.0 y.1))

  pub then_sample : (v : A × B) × (ts : List PlainTree) × (then_put f g v ≡ Ok ts)
  then_sample =
      let x = f.sample in
      let y = g.sample in (
        (x.0, y.0),
        x.1 ++ y.1,
        ok_then_is (f.put x.0) (λ p. ok_then (g.put y.0) (λ q. Ok (p ++ q))) x.1 (Ok (x.1 ++ y.1)) x.2
            (ok_then_is (g.put y.0) (λ q. Ok (x.1 ++ q)) y.1 (Ok (x.1 ++ y.1)) y.2 refl),
      )

  pub then_has_trees : (v : A × B) → (f.has_trees v.0 && g.has_trees v.1) ≡ is_ok (then_put f g v)
  then_has_trees v =
      and_same (f.has_trees v.0) (g.has_trees v.1) (is_ok (f.put v.0)) (is_ok (g.put v.1)) (f.has_trees_is v.0) (g.has_trees_is v.1)
      ∙ is_ok_both (f.put v.0) (g.put v.1) (λ x y. x ++ y)

then_reads_two : {A B C : Type 0} (a : A) (k : A × B → List Element → Option C) (o : Option (B × List Element))
    → with_fields (λ b rest. k (a, b) rest) o ≡ with_fields k (o >>= λ y. Some ((a, y.0), y.1))
then_reads_two a k None = refl
then_reads_two a k (Some y) = refl

then_reads_one : {A B C : Type 0} (g : FieldsOf B) (k : A × B → List Element → Option C) (o : Option (A × List Element))
    → with_fields (λ a mid. g.read mid (λ b rest. k (a, b) rest)) o ≡ with_fields k (o >>= λ x. g.get x.1 >>= λ y. Some ((x.0, y.0), y.1))
then_reads_one g k None = refl
then_reads_one g k (Some x) = g.reads x.1 (λ b rest. k (x.0, b) rest) ∙ then_reads_two x.0 k (g.get x.1)

pub then_reads : {A B : Type 0} (f : FieldsOf A) (g : FieldsOf B) {C : Type 0} (ss : List Element) (k : A × B → List Element → Option C)
    → f.read ss (λ a mid. g.read mid (λ b rest. k (a, b) rest)) ≡ with_fields k (then_get f g ss)
then_reads f g ss k = f.reads ss (λ a mid. g.read mid (λ b rest. k (a, b) rest)) ∙ then_reads_one g k (f.get ss)

module _ {A B : Type 0} (f : FieldsOf A) (to : B → A) (from : A → B) (p : (b : B) → from (to b) ≡ b) (q : (a : A) → to (from a) ≡ a) where
  pub as_takes : (ss : List Element) (v : B) (rest : List Element) → all_encodable ss ≡ true → as_get f to from p q ss ≡ Some (v, rest)
      → (ts : List PlainTree) × (front : List Element) × (as_put f to from p q v ≡ Ok ts) × (elements_of ts ≡ Some front) × (ss ≡ front ++ rest)
  as_takes ss v rest h e =
      let x = bind_some (f.get ss) (λ x. Some (from x.0, x.1)) (v, rest) e in
      let same = some_is (from x.0.0, x.0.1) (v, rest) x.2 in
      let r = f.takes ss x.0.0 x.0.1 h x.1 in
      subst (λ (z : B × List Element). (ts : List PlainTree) × (front : List Element) × (as_put f to from p q z.0 ≡ Ok ts) × (elements_of ts ≡ Some front)
      × (ss ≡ front ++ z.1)) same
      (r.0, r.1, ap f.put (q x.0.0) ∙ r.2, r.3, r.4)

  pub as_again : f.fine ≡ true → (v : B) (ts : List PlainTree) (front rest : List Element) → as_put f to from p q v ≡ Ok ts → elements_of ts ≡ Some front
      → Clear f.blocks rest → as_get f to from p q (front ++ rest) ≡ Some (v, rest)
  as_again ok v ts front rest e h k =
      bind_is (f.get (front ++ rest)) (λ x. Some (from x.0, x.1)) (to v, rest) (Some (v, rest)) (f.again ok (to v) ts front rest e h k)
      (ap (λ (b : B). Some (b, rest)) (p v))

  pub as_heads : (v : B) (ts : List PlainTree) (front rest : List Element) (tags : Tags) → as_put f to from p q v ≡ Ok ts → elements_of ts ≡ Some front
      → disjoint tags f.first ≡ true → (f.may_be_none ≡ true → Clear tags rest) → Clear tags (front ++ rest)
  as_heads v ts front rest tags e h d k = f.heads (to v) ts front rest tags e h d k

  pub as_sound : (v : B) (ts : List PlainTree) → as_put f to from p q v ≡ Ok ts → all_raws_are_elements ts ≡ true
  as_sound v ts e = f.sound (to v) ts e

  pub as_sample : (v : B) × (ts : List PlainTree) × (as_put f to from p q v ≡ Ok ts)
  as_sample = let x = f.sample in (from x.0, x.1, ap f.put (q x.0) ∙ x.2)

as_reads_one : {A B C : Type 0} (from : A → B) (k : B → List Element → Option C) (o : Option (A × List Element))
    → with_fields (λ a rest. k (from a) rest) o ≡ with_fields k (o >>= λ x. Some (from x.0, x.1))
as_reads_one from k None = refl
as_reads_one from k (Some x) = refl

pub as_reads : {A B : Type 0} (f : FieldsOf A) (to : B → A) (from : A → B) (p : (b : B) → from (to b) ≡ b) (q : (a : A)
    → to (from a) ≡ a) {C : Type 0} (ss : List Element) (k : B → List Element → Option C)
    → f.read ss (λ a rest. k (from a) rest) ≡ with_fields k (as_get f to from p q ss)
as_reads f to from p q ss k = f.reads ss (λ a rest. k (from a) rest) ∙ as_reads_one from k (f.get ss)
