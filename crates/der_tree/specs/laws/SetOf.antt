-- The laws of SET OF.
use Rattle.std.specs.Prelude.{Bool, Err, List, None, Ok, Option, Result, Some, cond, false, is_ok, is_some, length, map, refl, true, ℕ, [], ◌&&◌, ◌++◌, ◌∷◌}
use Rattle.std.specs.Prelude.{◌≡◌}
use Rattle.std.specs.List.{list_all}
use Rattle.std.proofs.Common.{ap, subst, sym, ◌∙◌}
use Rattle.std.proofs.Math.Bool.{and-false}
use Rattle.std.proofs.lemmas.List.{append-nil}
use Rattle.asn1_core.specs.Binds.{bind_some, kept, kept_is, some_is, ◌>>=◌}
use Rattle.der_tree.specs.declared.error.EncodeError.{EncodeError}
use Rattle.der_tree.specs.declared.error.EncodeError.TheVariants.{SizeOutOfRange}
use Rattle.der_tree.specs.Codec.{Clear, Codec, with_fields}
use Rattle.der_tree.specs.Element.{Element, all_encodable, element_octets}
use Rattle.der_tree.specs.Results.{ok_then}
use Rattle.der_tree.specs.SequenceOf.{each_of, each_put, is_within, list_get, list_put, within}
use Rattle.der_tree.specs.SetOf.{ascend, element_if, has_form, in_order, is_ascending, is_set, kept_order, next_set, octets_in, octets_of_form, row_if, set_get}
use Rattle.der_tree.specs.SetOf.{set_has_trees, set_put}
use Rattle.der_tree.specs.Tags.{Tags, disjoint, every}
use Rattle.der_tree.specs.Tree.{PlainTree}
use Rattle.der_tree.specs.TreeElement.{all_raws_are_elements, element_of, elements_of}
use Rattle.der_tree.specs.laws.Results.{is_ok_chosen, ok_chosen, ok_then_is, ok_then_ok, ok_there}
use Rattle.der_tree.specs.laws.SequenceOf.{all_clear, list_again, list_heads, list_sound, list_takes}

module _ {A : Type 0} (c : Codec A) (low : ℕ) (high : Option ℕ) where
  list_ends : (ss : List Element) (v : List A) (rest : List Element) → list_get c low high ss ≡ Some (v, rest) → rest ≡ []
  list_ends ss v rest e =
      let x = bind_some (each_of c ss) (λ vs. within c low high vs >>= λ vs. Some (vs, [])) (v, rest) e in
      let w = bind_some (within c low high x.0) (λ vs. Some (vs, [])) (v, rest) x.2 in
      ap (λ (p : List A × List Element). p.1) (sym (some_is (w.0, []) (v, rest) w.2))

  pub set_takes : (ss : List Element) (v : List A) (rest : List Element) → all_encodable ss ≡ true → set_get c low high ss ≡ Some (v, rest)
      → (ts : List PlainTree) × (front : List Element) × (set_put c low high v ≡ Ok ts) × (elements_of ts ≡ Some front) × (ss ≡ front ++ rest)
  set_takes ss v rest h e =
      let k = kept (in_order ss) (list_get c low high ss) (v, rest) e in
      let r = list_takes c low high ss v rest h k.1 in
      let same : ss ≡ r.1 = r.4 ∙ ap (λ (z : List Element). r.1 ++ z) (list_ends ss v rest k.1) ∙ append-nil r.1 in
      let order : ascend (elements_of r.0) ≡ true = ap ascend r.3 ∙ ap in_order (sym same) ∙ k.0 in
      (r.0, r.1, ok_then_is (list_put c low high v) kept_order r.0 (Ok r.0) r.2 (ap (λ (b : Bool). cond b (Ok r.0) (Err SizeOutOfRange)) order), r.3, r.4)

  set_parts : (v : List A) (ts : List PlainTree) → set_put c low high v ≡ Ok ts → (list_put c low high v ≡ Ok ts) × (ascend (elements_of ts) ≡ true)
  set_parts v ts e =
      let x = ok_then_ok (list_put c low high v) kept_order ts e in
      let k = ok_chosen (ascend (elements_of x.0)) x.0 ts SizeOutOfRange x.2 in
      subst (λ (z : List PlainTree). (list_put c low high v ≡ Ok z) × (ascend (elements_of z) ≡ true)) k.1 (x.1, k.0)

  pub set_again : (v : List A) (ts : List PlainTree) (front rest : List Element) → set_put c low high v ≡ Ok ts → elements_of ts ≡ Some front
      → Clear every rest → set_get c low high (front ++ rest) ≡ Some (v, rest)
  set_again v ts front rest e f k =
      let p = set_parts v ts e in
      let same : front ++ rest ≡ front = ap (λ (z : List Element). front ++ z) (all_clear rest k) ∙ append-nil front in
      kept_is (in_order (front ++ rest)) (list_get c low high (front ++ rest)) (v, rest) (ap in_order same ∙ ap ascend (sym f) ∙ p.1)
      (list_again c low high v ts front rest p.0 f k)

  pub set_heads : (v : List A) (ts : List PlainTree) (front rest : List Element) (tags : Tags) → set_put c low high v ≡ Ok ts → elements_of ts ≡ Some front
      → disjoint tags c.starts ≡ true → (true ≡ true → Clear tags rest) → Clear tags (front ++ rest)
  set_heads v ts front rest tags e f d k = list_heads c low high v ts front rest tags (set_parts v ts e).0 f d k

  pub set_sound : (v : List A) (ts : List PlainTree) → set_put c low high v ≡ Ok ts → all_raws_are_elements ts ≡ true
  set_sound v ts e = list_sound c low high v ts (set_parts v ts e).0

  pub set_sample : (vs : List A) → is_ok (set_put c low high vs) ≡ true → (vs : List A) × (ts : List PlainTree) × (set_put c low high vs ≡ Ok ts)
  set_sample vs h = let x = ok_there (set_put c low high vs) h in (vs, x.0, x.1)

-- elements of these octets, or none and not all are there
abbrev Shows : Option (List Element) → Bool → List (List ℕ) → Type 0
Shows None b xs = b ≡ false
Shows (Some ss) b xs = (b ≡ true) × (map element_octets ss ≡ xs)

shows_row : (o : Option Element) (p : Option (List Element)) (b : Bool) (xs : List (List ℕ)) → Shows p b xs
    → Shows (o >>= λ s. p >>= λ ss. Some (s ∷ ss)) (is_some o && b) (octets_in o ∷ xs)
shows_row None p b xs h = refl
shows_row (Some s) None b xs h = h
shows_row (Some s) (Some ss) b xs h = (h.0, ap (λ (ys : List (List ℕ)). element_octets s ∷ ys) h.1)

shows_cons : (r : Result PlainTree EncodeError) (q : Result (List PlainTree) EncodeError) (b : Bool) (xs : List (List ℕ)) → Shows (row_if q) b xs
    → Shows (row_if (ok_then r (λ t. ok_then q (λ ts. Ok (t ∷ ts))))) (is_some (element_if r) && b) (octets_in (element_if r) ∷ xs)
shows_cons (Err e) q b xs h = refl
shows_cons (Ok t) (Err e) b xs h = ap (λ (x : Bool). is_some (element_of t) && x) h ∙ and-false (is_some (element_of t))
shows_cons (Ok t) (Ok ts) b xs h = shows_row (element_of t) (elements_of ts) b xs h

shows_order : (o : Option (List Element)) (b : Bool) (xs : List (List ℕ)) → Shows o b xs → (b && is_ascending xs) ≡ ascend o
shows_order None b xs h = rw h refl
shows_order (Some ss) b xs h = rw h.0 (ap is_ascending (sym h.1))

order_has : (r : Result (List PlainTree) EncodeError) → ascend (row_if r) ≡ is_ok (ok_then r kept_order)
order_has (Ok ts) = is_ok_chosen (ascend (elements_of ts)) ts SizeOutOfRange
order_has (Err e) = refl

within_has : (w : Bool) (r : Result (List PlainTree) EncodeError)
    → (w && is_ok (ok_then r kept_order)) ≡ is_ok (ok_then (cond w r (Err SizeOutOfRange)) kept_order)
within_has true r = refl
within_has false r = refl

module _ {A : Type 0} (c : Codec A) where
  shows_each : (vs : List A) → Shows (row_if (each_put c vs)) (list_all (has_form c) vs) (map (octets_of_form c) vs)
  shows_each [] = (refl, refl)
  shows_each (v ∷ vs) = shows_cons (c.tree_of v) (each_put c vs) (list_all (has_form c) vs) (map (octets_of_form c) vs) (shows_each vs)

  -- values are a set where their elements are in order
  pub is_set_is : (vs : List A) → is_set c vs ≡ ascend (row_if (each_put c vs))
  unfolding is_set
  is_set_is vs = shows_order (row_if (each_put c vs)) (list_all (has_form c) vs) (map (octets_of_form c) vs) (shows_each vs)

  pub set_has : (low : ℕ) (high : Option ℕ) (vs : List A) → set_has_trees c low high vs ≡ is_ok (set_put c low high vs)
  set_has low high vs =
      ap (λ (b : Bool). is_within low high (length vs) && b) (is_set_is vs ∙ order_has (each_put c vs))
      ∙ within_has (is_within low high (length vs)) (each_put c vs)

pub set_reads : {A : Type 0} (c : Codec A) (low : ℕ) (high : Option ℕ) {B : Type 0} (ss : List Element) (k : List A → List Element → Option B)
    → with_fields k (next_set c low high ss) ≡ with_fields k (set_get c low high ss)
unfolding next_set
set_reads c low high ss k = refl
