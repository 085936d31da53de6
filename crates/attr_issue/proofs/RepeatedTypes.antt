-- Types that occur twice.
use Rattle.std.specs.Prelude.{◌≡◌, ◌↔◌, ℕ, suc, zero, ◌+◌, ◌<◌, Bool, true, false, ◌||◌, cond, not, nat_eq, List, [], ◌∷◌, ◌++◌, length, map, take, Some, refl}
use Rattle.std.specs.Cmp.Lexicographic.{bytes_decides, pointwise, slice_cmp, texts_ties}
use Rattle.std.specs.List.{list_any, slice_get}
use Rattle.std.specs.Ordering.{is_eq, nat_cmp}
use Rattle.std.proofs.Common.{sym, ap, ◌∙◌, ⊎_elim, arith, get_or}
use Rattle.std.proofs.lemmas.Bool.{or_cases}
use Rattle.std.proofs.lemmas.Cmp.{nat_list_eq_equiv}
use Rattle.std.proofs.lemmas.List.{map-append, take_more}
use Rattle.std.proofs.lemmas.List.Folds.{list_any-append}
use Rattle.asn1_core.specs.Binds.{some_is}
use Rattle.rcgen_certificate.specs.Requests.{Given, given_of}
use Rattle.rcgen_certificate.specs.declared.csr.Attribute.{Attribute}
use Rattle.attr_issue.specs.AttributeCauses.{is_repeated, types_of, StandsTwice}

abbrev is_same : List ℕ → List ℕ → Bool
is_same t u = pointwise nat_eq u t

-- it occurs somewhere
abbrev StandsIn : List ℕ → List (List ℕ) → Type 0
StandsIn t ts = (i : ℕ) × (slice_get ts i ≡ Some t)

there : (t : List ℕ) (ts : List (List ℕ)) → list_any (is_same t) ts ≡ true → StandsIn t ts
there t [] h = absurd cc
there t (u ∷ us) h =
    ⊎_elim (λ e. (zero, ap (λ (x : List ℕ). Some x) ((bytes_decides u t).0 e))) (λ e. let r = there t us e in (suc r.0, r.1))
    (or_cases (is_same t u) (list_any (is_same t) us) h)

or_left : (a b : Bool) → a ≡ true → (a || b) ≡ true
or_left true b h = refl
or_left false b h = absurd cc

or_right : (a b : Bool) → b ≡ true → (a || b) ≡ true
or_right true b h = refl
or_right false b h = h

found : (t : List ℕ) (ts : List (List ℕ)) (i : ℕ) → slice_get ts i ≡ Some t → list_any (is_same t) ts ≡ true
found t [] i h = absurd cc
found t (u ∷ us) zero h = or_left (is_same t u) (list_any (is_same t) us) ((bytes_decides u t).1 (some_is u t h))
found t (u ∷ us) (suc i) h = or_right (is_same t u) (list_any (is_same t) us) (found t us i h)

twice : (ts : List (List ℕ)) → is_repeated ts ≡ true → StandsTwice ts
twice [] h = absurd cc
twice (t ∷ ts) h =
    ⊎_elim
    (λ e.
    let r = there t ts e in
    record { arcs = t; earlier = zero; later = suc r.0; in_order = omega arith; at_earlier = refl; at_later = r.1 })
    (λ e.
    let r = twice ts e in
    let l = r.in_order in
    record {
      arcs = r.arcs;
      earlier = suc r.earlier;
      later = suc r.later;
      in_order = omega (arith, l);
      at_earlier = r.at_earlier;
      at_later = r.at_later;
    })
    (or_cases (list_any (is_same t) ts) (is_repeated ts) h)

repeated : (ts : List (List ℕ)) (t : List ℕ) (i j : ℕ) → i < j → slice_get ts i ≡ Some t → slice_get ts j ≡ Some t → is_repeated ts ≡ true
repeated [] t i j l h k = absurd cc
repeated (u ∷ us) t i zero l h k = absurd (omega (arith, l))
repeated (u ∷ us) t zero (suc j) l h k =
    or_left (list_any (is_same u) us) (is_repeated us) (found u us j (k ∙ sym h))
repeated (u ∷ us) t (suc i) (suc j) l h k =
    or_right (list_any (is_same u) us) (is_repeated us) (repeated us t i j (omega (arith, l)) h k)

pub stands_twice : (ts : List (List ℕ)) → (is_repeated ts ≡ true) ↔ StandsTwice ts
stands_twice ts = (twice ts, λ r. repeated ts r.arcs r.earlier r.later r.in_order r.at_earlier r.at_later)

-- ---- the types so far, as a set

abbrev arcs_of : List Attribute → List (List ℕ)
arcs_of list = types_of (map given_of list)

-- the type at a place
type_at : (list : List Attribute) (i : ℕ) (a : Attribute) → i < length list → a ≡ get_or list i a → slice_get (arcs_of list) i ≡ Some a.oid.items
type_at [] i a l g = absurd (omega (arith, l))
type_at (x ∷ xs) zero a l g = ap (λ (b : Attribute). Some b.oid.items) (sym g)
type_at (x ∷ xs) (suc i) a l g = type_at xs i a (omega (arith, l)) g

-- one occurs among those before it
pub stands_again : (list : List Attribute) (i : ℕ) (a : Attribute) → i < length list → a ≡ get_or list i a
    → list_any (is_same a.oid.items) (arcs_of (take i list)) ≡ true → is_repeated (arcs_of list) ≡ true
stands_again [] i a l g h = absurd (omega (arith, l))
stands_again (x ∷ xs) zero a l g h = absurd cc
stands_again (x ∷ xs) (suc i) a l g h =
    let within : i < length xs = omega (arith, l) in
    ⊎_elim
    (λ e.
    let same = (bytes_decides x.oid.items a.oid.items).0 e in
    or_left (list_any (is_same x.oid.items) (arcs_of xs)) (is_repeated (arcs_of xs))
    (found x.oid.items (arcs_of xs) i (type_at xs i a within g ∙ ap (λ (t : List ℕ). Some t) (sym same))))
    (λ e. or_right (list_any (is_same x.oid.items) (arcs_of xs)) (is_repeated (arcs_of xs)) (stands_again xs i a within g e))
    (or_cases (pointwise nat_eq x.oid.items a.oid.items) (list_any (is_same a.oid.items) (arcs_of (take i xs))) h)

neither : (a b : Bool) → (a || b) ≡ false → (a ≡ false) × (b ≡ false)
neither true b h = absurd cc
neither false b h = (refl, h)

both_not : (a b : Bool) → a ≡ false → b ≡ false → (a || b) ≡ false
both_not true b h k = absurd cc
both_not false b h k = k

-- one more, which doesn't occur before
apart_more : (ts : List (List ℕ)) (t : List ℕ) → is_repeated ts ≡ false → list_any (is_same t) ts ≡ false → is_repeated (ts ++ t ∷ []) ≡ false
apart_more [] t h k = refl
apart_more (u ∷ us) t h k =
    let p = neither (list_any (is_same u) us) (is_repeated us) h in
    let q = neither (is_same t u) (list_any (is_same t) us) k in
    let one = both_not (is_same u t) false (nat_list_eq_equiv.symm t u ∙ q.0) refl in
    both_not (list_any (is_same u) (us ++ t ∷ [])) (is_repeated (us ++ t ∷ []))
    (list_any-append (is_same u) us (t ∷ []) ∙ both_not (list_any (is_same u) us) (is_same u t || false) p.0 one) (apart_more us t p.1 q.1)

types_more : (list : List Attribute) (i : ℕ) (a : Attribute) → i < length list → a ≡ get_or list i a
    → arcs_of (take (i + 1) list) ≡ arcs_of (take i list) ++ a.oid.items ∷ []
types_more list i a l g =
    ap arcs_of (take_more list i a l ∙ ap (λ (b : Attribute). take i list ++ b ∷ []) (sym g))
    ∙ ap types_of (map-append given_of (take i list) (a ∷ []))
    ∙ map-append (λ (g : Given). g.oid) (map given_of (take i list)) (given_of a ∷ [])

pub still_apart : (list : List Attribute) (i : ℕ) (a : Attribute) → i < length list → a ≡ get_or list i a → is_repeated (arcs_of (take i list)) ≡ false
    → list_any (is_same a.oid.items) (arcs_of (take i list)) ≡ false → is_repeated (arcs_of (take (i + 1) list)) ≡ false
still_apart list i a l g h k = ap is_repeated (types_more list i a l g) ∙ apart_more (arcs_of (take i list)) a.oid.items h k

one_or : (b c : Bool) → cond b true c ≡ (c || (b || false))
one_or true true = refl
one_or true false = refl
one_or false true = refl
one_or false false = refl

-- what is seen, where one more was put in
pub seen_more : (list : List Attribute) (i : ℕ) (a : Attribute) (q : List ℕ) (b c : Bool) → i < length list → a ≡ get_or list i a
    → b ≡ is_eq (slice_cmp nat_cmp a.oid.items q) → c ≡ list_any (is_same q) (arcs_of (take i list))
    → cond b true c ≡ list_any (is_same q) (arcs_of (take (i + 1) list))
seen_more list i a q b c l g f e =
    let same : b ≡ is_same q a.oid.items = f ∙ sym (texts_ties a.oid.items q) in
    one_or b c ∙ ap (λ (d : Bool). c || (d || false)) same ∙ ap (λ (d : Bool). d || (is_same q a.oid.items || false)) e
    ∙ sym (list_any-append (is_same q) (arcs_of (take i list)) (a.oid.items ∷ [])) ∙ sym (ap (list_any (is_same q)) (types_more list i a l g))

-- what the set had, by whether the key was new
pub was_there : (b c : Bool) → b ≡ not c → b ≡ false → c ≡ true
was_there b true e n = refl
was_there b false e n = absurd (true_false (sym e ∙ n))
  where
    true_false : true ≡ false → ⊥
    true_false e = cc

pub was_not_there : (b c : Bool) → b ≡ not c → b ≡ true → c ≡ false
was_not_there b false e n = refl
was_not_there b true e n = absurd (false_true (sym e ∙ n))
  where
    false_true : false ≡ true → ⊥
    false_true e = cc
