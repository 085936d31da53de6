-- What holds of values in the order of their octets.
use Rattle.std.specs.Prelude.{◌≡◌, ℕ, ◌+◌, ◌<◌, ◌≤◌, Bool, true, false, ◌&&◌, cond, List, [], ◌∷◌, map, length, drop, Option, Some, is_some, Result, Ok, Err, refl}
use Rattle.std.specs.List.{list_all, insert}
use Rattle.std.specs.Ordering.{nat_cmp, is_gt, ordering_reverse}
use Rattle.std.specs.declared.cmp.Ordering.{Ordering}
use Rattle.std.specs.declared.cmp.Ordering.TheVariants.{Less, Equal, Greater}
use Rattle.std.specs.Cmp.Lexicographic.{slice_cmp}
use Rattle.std.proofs.Common.{sym, ap, ◌∙◌, subst, add-one, arith, get_or}
use Rattle.std.proofs.lemmas.Cmp.{nat_list_cmp_total}
use Rattle.std.proofs.lemmas.List.{drop_more, drop_all}
use Rattle.asn1_core.specs.declared.tag.Tag.{Tag}
use Rattle.der_tree.specs.declared.error.EncodeError.{EncodeError}
use Rattle.der_tree.specs.declared.error.EncodeError.TheVariants.{SizeOutOfRange}
use Rattle.der_tree.specs.Codec.{Codec}
use Rattle.der_tree.specs.Element.{Element, all_encodable, element_octets, is_encodable, split}
use Rattle.der_tree.specs.Form.{IsDerOf}
use Rattle.der_tree.specs.Results.{done, ok_then}
use Rattle.der_tree.specs.Sequence.{children}
use Rattle.der_tree.specs.SequenceOf.{each_of, each_put, is_within, list_put}
use Rattle.der_tree.specs.SetOf.{ascend, element_if, has_form, in_order, inserted, inserted_by, is_ascending, is_set, kept_order, may_precede, octets_in}
use Rattle.der_tree.specs.SetOf.{octets_of_form, place_of, row_if, set_put}
use Rattle.der_tree.specs.Tags.{same_tag}
use Rattle.der_tree.specs.Tree.{PlainTree}
use Rattle.der_tree.specs.TreeElement.{element_of}
use Rattle.der_tree.specs.laws.Element.{split_takes}
use Rattle.der_tree.specs.laws.SetOf.{is_set_is}
use Rattle.asn1_core.specs.Binds.{◌>>=◌, bind_some, some_is, and_true, true_and, kept}

-- ---- one more value

back_at : (o : Ordering) → is_gt o ≡ true → is_gt (ordering_reverse o) ≡ false
back_at Less h = absurd cc
back_at Equal h = absurd cc
back_at Greater h = refl

greater_back : (x y : List ℕ) → is_gt (slice_cmp nat_cmp x y) ≡ true → is_gt (slice_cmp nat_cmp y x) ≡ false
greater_back x y h = ap is_gt (nat_list_cmp_total.antisymm y x) ∙ back_at (slice_cmp nat_cmp x y) h

module _ {A : Type 0} (octets : A → List ℕ) where
  preceded_at : (b : Bool) (x : List ℕ) (y : A) (ys zs : List A) (v : A) → may_precede x (map octets (y ∷ ys)) ≡ true → is_gt (slice_cmp nat_cmp x (octets v)) ≡ false → may_precede x (map octets (cond b (v ∷ y ∷ ys) (y ∷ zs))) ≡ true
  preceded_at true x y ys zs v e h = rw h refl
  preceded_at false x y ys zs v e h = e

  preceded : (x : List ℕ) (vs : List A) (v : A) → may_precede x (map octets vs) ≡ true → is_gt (slice_cmp nat_cmp x (octets v)) ≡ false → may_precede x (map octets (inserted_by octets vs v)) ≡ true
  preceded x [] v e h = rw h refl
  preceded x (y ∷ ys) v e h = preceded_at (is_gt (slice_cmp nat_cmp (octets y) (octets v))) x y ys (inserted_by octets ys v) v e h

  ascends_at : (b : Bool) (y : A) (ys : List A) (v : A) → is_gt (slice_cmp nat_cmp (octets y) (octets v)) ≡ b → is_ascending (map octets (y ∷ ys)) ≡ true → is_ascending (map octets (inserted_by octets ys v)) ≡ true → is_ascending (map octets (cond b (v ∷ y ∷ ys) (y ∷ inserted_by octets ys v))) ≡ true
  ascends_at true y ys v h e r = rw (greater_back (octets y) (octets v) h) e
  ascends_at false y ys v h e r =
      true_and (may_precede (octets y) (map octets (inserted_by octets ys v))) (is_ascending (map octets (inserted_by octets ys v)))
      (preceded (octets y) ys v (and_true (may_precede (octets y) (map octets ys)) (is_ascending (map octets ys)) e).0 h) r

  inserted_ascends : (vs : List A) (v : A) → is_ascending (map octets vs) ≡ true → is_ascending (map octets (inserted_by octets vs v)) ≡ true
  inserted_ascends [] v e = refl
  inserted_ascends (y ∷ ys) v e =
      ascends_at (is_gt (slice_cmp nat_cmp (octets y) (octets v))) y ys v refl e
      (inserted_ascends ys v (and_true (may_precede (octets y) (map octets ys)) (is_ascending (map octets ys)) e).1)

  all_at : (p : A → Bool) (b : Bool) (y : A) (ys zs : List A) (v : A) → list_all p (y ∷ ys) ≡ true → p v ≡ true → list_all p zs ≡ true → list_all p (cond b (v ∷ y ∷ ys) (y ∷ zs)) ≡ true
  all_at p true y ys zs v e h r = true_and (p v) (list_all p (y ∷ ys)) h e
  all_at p false y ys zs v e h r = true_and (p y) (list_all p zs) (and_true (p y) (list_all p ys) e).0 r

  inserted_all : (p : A → Bool) (vs : List A) (v : A) → list_all p vs ≡ true → p v ≡ true → list_all p (inserted_by octets vs v) ≡ true
  inserted_all p [] v e h = true_and (p v) true h refl
  inserted_all p (y ∷ ys) v e h =
      all_at p (is_gt (slice_cmp nat_cmp (octets y) (octets v))) y ys (inserted_by octets ys v) v e h
      (inserted_all p ys v (and_true (p y) (list_all p ys) e).1 h)

  placed_at : (b : Bool) (n : ℕ) (y : A) (ys : List A) (v : A) → insert (y ∷ ys) (cond b 0 (n + 1)) v ≡ cond b (v ∷ y ∷ ys) (y ∷ insert ys n v)
  placed_at true n y ys v = refl
  placed_at false n y ys v = rw add-one refl

  placed : (vs : List A) (v : A) → insert vs (place_of octets (octets v) vs) v ≡ inserted_by octets vs v
  placed [] v = refl
  placed (y ∷ ys) v =
      placed_at (is_gt (slice_cmp nat_cmp (octets y) (octets v))) (place_of octets (octets v) ys) y ys v
      ∙ ap (λ (zs : List A). cond (is_gt (slice_cmp nat_cmp (octets y) (octets v))) (v ∷ y ∷ ys) (y ∷ zs)) (placed ys v)

  place_within_at : (b : Bool) (n m : ℕ) → n ≤ m → cond b 0 (n + 1) ≤ m + 1
  place_within_at true n m h = omega arith
  place_within_at false n m h = omega arith

  pub place_within : (b : List ℕ) (vs : List A) → place_of octets b vs ≤ length vs
  place_within b [] = omega arith
  place_within b (y ∷ ys) =
      let h = place_within_at (is_gt (slice_cmp nat_cmp (octets y) b)) (place_of octets b ys) (length ys) (place_within b ys) in omega (arith, h)

  place_first : (vs : List A) (i : ℕ) (y : A) (b : List ℕ) → i < length vs → y ≡ get_or vs i y → place_of octets b (drop i vs) ≡ place_of octets b (y ∷ drop (i + 1) vs)
  place_first vs i y b l h = ap (place_of octets b) (drop_more vs i y l) ∙ ap (λ (x : A). place_of octets b (x ∷ drop (i + 1) vs)) (sym h)

  pub place_more : (vs : List A) (i : ℕ) (y : A) (b : List ℕ) → i < length vs → y ≡ get_or vs i y → is_gt (slice_cmp nat_cmp (octets y) b) ≡ false → place_of octets b (drop (i + 1) vs) + (i + 1) ≡ place_of octets b (drop i vs) + i
  place_more vs i y b l h g =
      let e : place_of octets b (drop i vs) ≡ place_of octets b (drop (i + 1) vs) + 1 = place_first vs i y b l h ∙ ap (λ (t : Bool). cond t 0 (place_of octets b (drop (i + 1) vs) + 1)) g in omega (arith, e)

  pub place_here : (vs : List A) (i : ℕ) (y : A) (b : List ℕ) → i < length vs → y ≡ get_or vs i y → is_gt (slice_cmp nat_cmp (octets y) b) ≡ true → place_of octets b (drop i vs) ≡ 0
  place_here vs i y b l h g = place_first vs i y b l h ∙ ap (λ (t : Bool). cond t 0 (place_of octets b (drop (i + 1) vs) + 1)) g

  pub place_last : (vs : List A) (i : ℕ) (b : List ℕ) → length vs ≤ i → place_of octets b (drop i vs) ≡ 0
  place_last vs i b l = ap (place_of octets b) (drop_all i vs l)

-- ---- values and their forms

put_at : (w : Bool) (r : Result (List PlainTree) EncodeError) → ascend (row_if r) ≡ true → ok_then (cond w r (Err SizeOutOfRange)) kept_order ≡ cond w r (Err SizeOutOfRange)
put_at true (Ok ts) h = ap (λ (b : Bool). cond b (done ts) (Err SizeOutOfRange)) h
put_at true (Err e) h = refl
put_at false r h = refl

children_encodable : (g : Tag) (s : Element) (ss : List Element) → children g s ≡ Some ss → all_encodable ss ≡ true
unfolding children
children_encodable g s ss e = (split_takes s.content ss (kept (same_tag s.tag g && s.constructed) (split s.content) ss e).1).1

module _ {A : Type 0} (c : Codec A) where
  element_is : (v : A) (t : PlainTree) (s : Element) → c.tree_of v ≡ Ok t → element_of t ≡ Some s → element_if (c.tree_of v) ≡ Some s
  element_is v t s e f = ap element_if e ∙ f

  pub form_has : (v : A) (b : List ℕ) → IsDerOf c v b → has_form c v ≡ true
  form_has v b h = ap is_some (element_is v h.0 h.1 h.2 h.3)

  pub form_octets : (v : A) (b : List ℕ) → IsDerOf c v b → octets_of_form c v ≡ b
  form_octets v b h = ap octets_in (element_is v h.0 h.1 h.2 h.3) ∙ sym h.4

  pub inserted_is_set : (vs : List A) (v : A) → is_set c vs ≡ true → has_form c v ≡ true → is_set c (inserted c vs v) ≡ true
  unfolding is_set inserted
  inserted_is_set vs v e h =
      let p = and_true (list_all (has_form c) vs) (is_ascending (map (octets_of_form c) vs)) e in
      true_and (list_all (has_form c) (inserted_by (octets_of_form c) vs v)) (is_ascending (map (octets_of_form c) (inserted_by (octets_of_form c) vs v))) (inserted_all (octets_of_form c) (has_form c) vs v p.0 h) (inserted_ascends (octets_of_form c) vs v p.1)

  pub empty_is_set : is_set c [] ≡ true
  unfolding is_set
  empty_is_set = refl

  pub one_is_set : (v : A) → has_form c v ≡ true → is_set c (v ∷ []) ≡ true
  unfolding is_set
  one_is_set v h = rw h refl

  pub set_has_forms : (vs : List A) → is_set c vs ≡ true → list_all (has_form c) vs ≡ true
  unfolding is_set
  set_has_forms vs e = (and_true (list_all (has_form c) vs) (is_ascending (map (octets_of_form c) vs)) e).0

  pub insert_is : (vs : List A) (v : A) (b : List ℕ) → IsDerOf c v b → insert vs (place_of (octets_of_form c) b vs) v ≡ inserted c vs v
  unfolding inserted
  insert_is vs v b h = ap (λ (x : List ℕ). insert vs (place_of (octets_of_form c) x vs) v) (sym (form_octets v b h)) ∙ placed (octets_of_form c) vs v

  read_forms : (ss : List Element) (vs : List A) → all_encodable ss ≡ true → each_of c ss ≡ Some vs → (list_all (has_form c) vs ≡ true) × (map (octets_of_form c) vs ≡ map element_octets ss)
  read_forms [] vs h e = subst (λ (x : List A). (list_all (has_form c) x ≡ true) × (map (octets_of_form c) x ≡ [])) (some_is [] vs e) (refl, refl)
  read_forms (s ∷ ss) vs h e =
      let p = and_true (is_encodable s) (all_encodable ss) h in
      let x = bind_some (c.read_of s) (λ v. each_of c ss >>= λ vs. Some (v ∷ vs)) vs e in
      let y = bind_some (each_of c ss) (λ vs. Some (x.0 ∷ vs)) vs x.2 in
      let t = c.takes s x.0 p.0 x.1 in
      let r = read_forms ss y.0 p.1 y.1 in
      let is = element_is x.0 t.0 s t.1 t.2 in
      subst (λ (z : List A). (list_all (has_form c) z ≡ true) × (map (octets_of_form c) z ≡ element_octets s ∷ map element_octets ss)) (some_is (x.0 ∷ y.0) vs y.2) (
        true_and (has_form c x.0) (list_all (has_form c) y.0) (ap is_some is) r.0,
        ap (λ (z : List ℕ). z ∷ map (octets_of_form c) y.0) (ap octets_in is) ∙ ap (λ (z : List (List ℕ)). element_octets s ∷ z) r.1,
      )

  -- what is read in order is a set
  pub read_is_set : (ss : List Element) (vs : List A) → all_encodable ss ≡ true → each_of c ss ≡ Some vs → in_order ss ≡ true → is_set c vs ≡ true
  unfolding is_set
  read_is_set ss vs h e o =
      let r = read_forms ss vs h e in
      true_and (list_all (has_form c) vs) (is_ascending (map (octets_of_form c) vs)) r.0 (ap is_ascending r.1 ∙ o)

  -- what is put is in order already
  pub set_put_is : (low : ℕ) (high : Option ℕ) (vs : List A) → is_set c vs ≡ true → set_put c low high vs ≡ list_put c low high vs
  set_put_is low high vs e = put_at (is_within low high (length vs)) (each_put c vs) (sym (is_set_is c vs) ∙ e)

  -- the elements of a node in order are a set
  pub children_set : (g : Tag) (s : Element) (ss : List Element) (vs : List A) → children g s ≡ Some ss → each_of c ss ≡ Some vs → in_order ss ≡ true → is_set c vs ≡ true
  children_set g s ss vs k e o = read_is_set ss vs (children_encodable g s ss k) e o

-- ---- neighbours, one pair at a time

-- the octets are in order after those before them
abbrev pub ascends_from : List ℕ → List (List ℕ) → Bool
ascends_from x xs = may_precede x xs && is_ascending xs

pub ascends_none : (xs : List (List ℕ)) → ascends_from [] xs ≡ is_ascending xs
ascends_none [] = refl
ascends_none ([] ∷ xs) = refl
ascends_none ((b ∷ x) ∷ xs) = refl

pub ascends_more : (x y : List ℕ) (all rest : List (List ℕ)) → all ≡ y ∷ rest → is_gt (slice_cmp nat_cmp x y) ≡ false → ascends_from y rest ≡ ascends_from x all
ascends_more x y all rest e h = sym (ap (ascends_from x) e ∙ rw h refl)

pub ascends_fail : (x y : List ℕ) (all rest : List (List ℕ)) → all ≡ y ∷ rest → is_gt (slice_cmp nat_cmp x y) ≡ true → ascends_from x all ≡ false
ascends_fail x y all rest e h = ap (ascends_from x) e ∙ rw h refl

pub ascends_done : (x : List ℕ) (all : List (List ℕ)) → all ≡ [] → ascends_from x all ≡ true
ascends_done x all e = ap (ascends_from x) e

pub ruleset placing = (place_more, place_here, place_last, octets_of_form)

pub ruleset empty = (empty_is_set)

pub ruleset single = (one_is_set)

pub ruleset inserting = (place_within, form_has, inserted_is_set, set_has_forms, insert_is)

pub ruleset comparing = (ascends_none, ascends_more, ascends_fail, ascends_done)

pub ruleset writing = (set_put_is)

pub ruleset reading = (children_set)
