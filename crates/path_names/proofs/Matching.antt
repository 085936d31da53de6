-- Which names are one is an equivalence, a name is below itself, and names that are one are below the same ones.
use Rattle.std.specs.Prelude.{◌≡◌, Bool, List, cond, length, nat_eq, nat_le, suc, take, true, false, zero, ℕ, ◌&&◌, ◌||◌, [], ◌==◌, ◌∷◌, refl}
use Rattle.std.specs.Cmp.{IsEquivalence, and_equiv, equiv, nat_eq_equiv, on_equiv, partial_equiv_from_equiv}
use Rattle.std.specs.Cmp.Lexicographic.{lists_equiv, nat_list_eq_equiv, pointwise}
use Rattle.std.specs.List.{list_all, list_any}
use Rattle.std.specs.Ordering.{eq_of_both, on}
use Rattle.std.specs.Str.{bytes_eq}
use Rattle.std.proofs.Common.{ap, ap₂, arith, sym, subst, ◌∙◌}
use Rattle.std.proofs.lemmas.Bool.{and_from, and_parts, le-leb}
use Rattle.std.proofs.lemmas.List.{take_all}
use Rattle.pkix_name.specs.declared.name.AttributeTypeAndValue.{AttributeTypeAndValue}
use Rattle.pkix_name.specs.declared.name.RelativeDistinguishedName.{RelativeDistinguishedName}
use Rattle.pkix_name.specs.declared.name.Name.{Name}
use Rattle.path_names.specs.NameMatching.{Compared, are_decided, are_equal, attributes_match, compared, has_defined_value, is_below_name, is_decided_below, is_defined}
use Rattle.path_names.specs.NameMatching.{is_defined_part, names_match, octets, rdns_match, rdns_of, text, unprepared}

-- ---- attributes

abbrev form : Compared → ℕ
form (text a) = 0
form (unprepared a) = 1
form (octets a) = 2

abbrev words_of : Compared → List ℕ
words_of (text a) = a
words_of (unprepared a) = a
words_of (octets a) = a

equal_is : (x y : Compared) → eq_of_both (on form nat_eq) (on words_of bytes_eq) x y ≡ are_equal x y
equal_is (text a) (text b) = refl
equal_is (text a) (unprepared b) = refl
equal_is (text a) (octets b) = refl
equal_is (unprepared a) (text b) = refl
equal_is (unprepared a) (unprepared b) = refl
equal_is (unprepared a) (octets b) = refl
equal_is (octets a) (text b) = refl
equal_is (octets a) (unprepared b) = refl
equal_is (octets a) (octets b) = refl

compared_equiv : IsEquivalence are_equal
compared_equiv = subst IsEquivalence (λ i x y. equal_is x y i) (and_equiv (on_equiv form nat_eq_equiv) (on_equiv words_of nat_list_eq_equiv))

attributes_equiv : IsEquivalence attributes_match
attributes_equiv =
    and_equiv (on_equiv (λ (a : AttributeTypeAndValue). a.attr_type) nat_list_eq_equiv)
    (on_equiv (λ (a : AttributeTypeAndValue). compared a.value) compared_equiv)

-- ---- sets

or_right : (x y : Bool) → y ≡ true → (x || y) ≡ true
or_right true y h = refl
or_right false y h = h

both : (x y : Bool) → (x ≡ true → y ≡ true) → (y ≡ true → x ≡ true) → x ≡ y
both true y f g = sym (f refl)
both false true f g = g refl
both false false f g = refl

swapped : (x p q : Bool) → ((x && p) && q) ≡ ((x && q) && p)
swapped true true true = refl
swapped true true false = refl
swapped true false true = refl
swapped true false false = refl
swapped false p q = refl

module _ {A : Type 0} (E : A → A → Bool) (e : IsEquivalence E) where
  abbrev each : List A → List A → Bool
  each r s = list_all (λ a. list_any (E a) s) r

  abbrev same_set : List A → List A → Bool
  same_set r s = ((length r == length s) && each r s) && each s r

  any_alike : (a b : A) → E a b ≡ true → (t : List A) → list_any (E a) t ≡ list_any (E b) t
  any_alike a b h [] = refl
  any_alike a b h (c ∷ cs) = rw (e.congr a b c h, any_alike a b h cs) refl

  through_by : (a b : A) (bs t : List A) (x : Bool) → E a b ≡ x → (x || list_any (E a) bs) ≡ true → list_any (E b) t ≡ true
      → (list_any (E a) bs ≡ true → list_any (E a) t ≡ true) → list_any (E a) t ≡ true
  through_by a b bs t true h g here later = any_alike a b h t ∙ here
  through_by a b bs t false h g here later = later g

  any_through : (a : A) (s t : List A) → list_any (E a) s ≡ true → each s t ≡ true → list_any (E a) t ≡ true
  any_through a [] t h g = absurd cc
  any_through a (b ∷ bs) t h g =
      let parts = and_parts (list_any (E b) t) (each bs t) g in
      through_by a b bs t (E a b) refl h parts.0 (λ k. any_through a bs t k parts.1)

  each_through : (r s t : List A) → each r s ≡ true → each s t ≡ true → each r t ≡ true
  each_through [] s t h g = refl
  each_through (a ∷ others) s t h g =
      let parts = and_parts (list_any (E a) s) (each others s) h in
      and_from (list_any (E a) t) (each others t) (any_through a s t parts.0 g) (each_through others s t parts.1 g)

  each_more : (x : A) (r s : List A) → each r s ≡ true → each r (x ∷ s) ≡ true
  each_more x [] s h = refl
  each_more x (a ∷ others) s h =
      let parts = and_parts (list_any (E a) s) (each others s) h in
      and_from (E a x || list_any (E a) s) (each others (x ∷ s)) (or_right (E a x) (list_any (E a) s) parts.0) (each_more x others s parts.1)

  each_own : (r : List A) → each r r ≡ true
  each_own [] = refl
  each_own (a ∷ others) =
      and_from (E a a || list_any (E a) others) (each others (a ∷ others)) (rw (e.refl a) refl) (each_more a others others (each_own others))

  set_own : (r : List A) → same_set r r ≡ true
  set_own r =
      and_from ((length r == length r) && each r r) (each r r)
      (and_from (length r == length r) (each r r) (nat_eq_equiv.refl (length r)) (each_own r)) (each_own r)

  set_symm : (r s : List A) → same_set r s ≡ same_set s r
  set_symm r s = rw (nat_eq_equiv.symm (length r) (length s)) (swapped (length s == length r) (each r s) (each s r))

  set_through : (r s t : List A) → same_set r s ≡ true → same_set s t ≡ true → same_set r t ≡ true
  set_through r s t h g =
      let a = and_parts ((length r == length s) && each r s) (each s r) h in
      let b = and_parts (length r == length s) (each r s) a.0 in
      let c = and_parts ((length s == length t) && each s t) (each t s) g in
      let d = and_parts (length s == length t) (each s t) c.0 in
      and_from ((length r == length t) && each r t) (each t r)
      (and_from (length r == length t) (each r t) ((partial_equiv_from_equiv nat_eq_equiv).trans (length r) (length s) (length t) b.0 d.0)
      (each_through r s t b.1 d.1)) (each_through t s r c.1 a.1)

  set_equiv : IsEquivalence same_set
  set_equiv = equiv (record { symm = set_symm; trans = set_through }) set_own

-- ---- what holds of both of two that match, or of neither

module _ {A : Type 0} (E : A → A → Bool) (p : A → Bool) (respects : (a b : A) → E a b ≡ true → p a ≡ p b) where
  one_by : (a b : A) (bs : List A) (x : Bool) → E a b ≡ x → (x || list_any (E a) bs) ≡ true → p b ≡ true
      → (list_any (E a) bs ≡ true → p a ≡ true) → p a ≡ true
  one_by a b bs true e g h later = respects a b e ∙ h
  one_by a b bs false e g h later = later g

  one_from : (a : A) (s : List A) → list_any (E a) s ≡ true → list_all p s ≡ true → p a ≡ true
  one_from a [] g h = absurd cc
  one_from a (b ∷ bs) g h =
      let parts = and_parts (p b) (list_all p bs) h in one_by a b bs (E a b) refl g parts.0 (λ k. one_from a bs k parts.1)

  all_from : (r s : List A) → list_all (λ a. list_any (E a) s) r ≡ true → list_all p s ≡ true → list_all p r ≡ true
  all_from [] s g h = refl
  all_from (a ∷ others) s g h =
      let parts = and_parts (list_any (E a) s) (list_all (λ a. list_any (E a) s) others) g in
      and_from (p a) (list_all p others) (one_from a s parts.0 h) (all_from others s parts.1 h)

  all_of_set : (r s : List A) → (((length r == length s) && list_all (λ a. list_any (E a) s) r) && list_all (λ a. list_any (E a) r) s) ≡ true
      → list_all p r ≡ list_all p s
  all_of_set r s h =
      let outer = and_parts ((length r == length s) && list_all (λ a. list_any (E a) s) r) (list_all (λ a. list_any (E a) r) s) h in
      let inner = and_parts (length r == length s) (list_all (λ a. list_any (E a) s) r) outer.0 in
      both (list_all p r) (list_all p s) (all_from s r outer.1) (all_from r s inner.1)

module _ {A : Type 0} (E : A → A → Bool) where
  same_length : (xs ys : List A) → pointwise E xs ys ≡ true → length xs ≡ length ys
  same_length [] [] h = refl
  same_length [] (y ∷ ys) h = absurd cc
  same_length (x ∷ xs) [] h = absurd cc
  same_length (x ∷ xs) (y ∷ ys) h = ap (λ n. suc n) (same_length xs ys (and_parts (E x y) (pointwise E xs ys) h).1)

  fronts_match : (k : ℕ) (xs ys : List A) → pointwise E xs ys ≡ true → pointwise E (take k xs) (take k ys) ≡ true
  fronts_match zero xs ys h = refl
  fronts_match (suc k) [] [] h = refl
  fronts_match (suc k) [] (y ∷ ys) h = absurd cc
  fronts_match (suc k) (x ∷ xs) [] h = absurd cc
  fronts_match (suc k) (x ∷ xs) (y ∷ ys) h =
      let parts = and_parts (E x y) (pointwise E xs ys) h in and_from (E x y) (pointwise E (take k xs) (take k ys)) parts.0 (fronts_match k xs ys parts.1)

defined_alike : (x y : Compared) → are_equal x y ≡ true → is_defined x ≡ is_defined y
defined_alike (text a) (text b) h = refl
defined_alike (text a) (unprepared b) h = absurd cc
defined_alike (text a) (octets b) h = refl
defined_alike (unprepared a) (text b) h = absurd cc
defined_alike (unprepared a) (unprepared b) h = refl
defined_alike (unprepared a) (octets b) h = absurd cc
defined_alike (octets a) (text b) h = refl
defined_alike (octets a) (unprepared b) h = absurd cc
defined_alike (octets a) (octets b) h = refl

value_alike : (a b : AttributeTypeAndValue) → attributes_match a b ≡ true → has_defined_value a ≡ has_defined_value b
value_alike a b h =
    defined_alike (compared a.value) (compared b.value)
    (and_parts (bytes_eq a.attr_type b.attr_type) (are_equal (compared a.value) (compared b.value)) h).1

-- ---- names

rdns_equiv : IsEquivalence rdns_match
rdns_equiv = on_equiv (λ (r : RelativeDistinguishedName). r.0) (set_equiv attributes_match attributes_equiv)

pub names_equiv : IsEquivalence names_match
names_equiv = on_equiv rdns_of (lists_equiv rdns_equiv)

front_own : (rs : List RelativeDistinguishedName) → pointwise rdns_match (take (length rs) rs) rs ≡ true
front_own rs =
    subst (λ (l : List RelativeDistinguishedName). pointwise rdns_match l rs ≡ true) (sym (take_all (length rs) rs (omega arith)))
    ((lists_equiv rdns_equiv).refl rs)

pub below_itself : (n : Name) → is_below_name n n ≡ true
below_itself n =
    and_from (nat_le (length (rdns_of n)) (length (rdns_of n))) (pointwise rdns_match (take (length (rdns_of n)) (rdns_of n)) (rdns_of n))
    (le-leb (length (rdns_of n)) (length (rdns_of n)) (omega arith)) (front_own (rdns_of n))

-- ---- names that match, and a base

part_alike : (r s : RelativeDistinguishedName) → rdns_match r s ≡ true → is_defined_part r ≡ is_defined_part s
part_alike r s h = all_of_set attributes_match has_defined_value value_alike r.0 s.0 h

fronts : (k : ℕ) (m n : Name) → names_match m n ≡ true → pointwise rdns_match (take k (rdns_of m)) (take k (rdns_of n)) ≡ true
fronts k m n h = fronts_match rdns_match k (rdns_of m) (rdns_of n) h

pub below_alike : (m n base : Name) → names_match m n ≡ true → is_below_name m base ≡ is_below_name n base
below_alike m n base h =
    let k = length (rdns_of base) in
    ap₂ (λ l t. nat_le k l && t) (same_length rdns_match (rdns_of m) (rdns_of n) h)
    ((lists_equiv rdns_equiv).congr (take k (rdns_of m)) (take k (rdns_of n)) (rdns_of base) (fronts k m n h))

decided_alike : (rs ts ss : List RelativeDistinguishedName) → pointwise rdns_match rs ts ≡ true → are_decided rs ss ≡ are_decided ts ss
decided_alike [] [] ss h = refl
decided_alike [] (t ∷ ts) ss h = absurd cc
decided_alike (r ∷ rs) [] ss h = absurd cc
decided_alike (r ∷ rs) (t ∷ ts) [] h = refl
decided_alike (r ∷ rs) (t ∷ ts) (s ∷ ss) h =
    let parts = and_parts (rdns_match r t) (pointwise rdns_match rs ts) h in
    λ i. cond (rdns_equiv.congr r t s parts.0 i) (decided_alike rs ts ss parts.1 i) (part_alike r t parts.0 i && is_defined_part s)

pub decided_below_alike : (m n base : Name) → names_match m n ≡ true → is_decided_below m base ≡ is_decided_below n base
decided_below_alike m n base h = decided_alike (rdns_of m) (rdns_of n) (rdns_of base) h
