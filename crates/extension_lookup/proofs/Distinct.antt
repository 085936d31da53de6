-- That no two of some octets are equal, by neighbours once they are sorted.
use Rattle.std.specs.Prelude.{Bool, List, cond, false, length, map, not, refl, true, ℕ, [], ◌&&◌, ◌+◌, ◌<◌, ◌||◌, ◌∷◌, ◌≡◌}
use Rattle.std.specs.Bool.{Decides}
use Rattle.std.specs.Borrow.{Bor}
use Rattle.std.specs.Cmp.Lexicographic.{nat_list_cmp_total, slice_cmp, texts_ties}
use Rattle.std.specs.List.{AllByRecursion, IsDistinct, dedup, dedup_from, list_any}
use Rattle.std.specs.List.Sorted.{IsPermutation, IsSorted, IsStrictlySortedBy}
use Rattle.std.specs.Ordering.{eq_by_cmp, nat_cmp}
use Rattle.std.specs.Str.{bytes_eq}
use Rattle.std.proofs.Common.{ap, arith, get_or, subst, sym, ◌∙◌}
use Rattle.std.proofs.Math.ListN.{get_or-map}
use Rattle.std.proofs.lemmas.Bool.Decides.{Decides-and, Decides-like, same_from_decides}
use Rattle.std.proofs.lemmas.List.{get_or_default, length-map}
use Rattle.std.proofs.lemmas.List.Kept.{IsStrictlySortedBy-dedup}
use Rattle.std.proofs.lemmas.List.Sorted.{IsPermutation-map, IsPermutation-sym}
use Rattle.std.proofs.lemmas.Map.Keys.{IsDistinct-IsPermutation, IsDistinct-from_sorted}
use Rattle.std.proofs.lemmas.Slice.Eq.{bytes_eq-Decides}
use Rattle.extension_lookup.specs.Lookup.{are_distinct, has_equal_neighbours, have_equal_neighbours}

-- ---- the definition

none_step : {P : Type 0} (b c : Bool) → Decides (not c) P → Decides (not (b || c)) ((b ≡ false) × P)
none_step true c d = (λ e. absurd cc, λ h. absurd (let e = h.0 in cc))
none_step false c d = (λ e. (refl, d.0 e), λ h. d.1 h.1)

none_any : (f : List ℕ → Bool) (xs : List (List ℕ)) → Decides (not (list_any f xs)) (AllByRecursion (λ y. f y ≡ false) xs)
none_any f [] = (λ e. tt, λ h. refl)
none_any f (x ∷ xs) = none_step (f x) (list_any f xs) (none_any f xs)

pub distinct_decides : (ids : List (List ℕ)) → Decides (are_distinct ids) (IsDistinct bytes_eq ids)
unfolding IsDistinct
distinct_decides [] = (λ e. tt, λ h. refl)
distinct_decides (id ∷ ids) = Decides-and (not (list_any (bytes_eq id) ids)) (are_distinct ids) (none_any (bytes_eq id) ids) (distinct_decides ids)

-- ---- neighbours of what is sorted

flip : (a b : List ℕ) → bytes_eq a b ≡ bytes_eq b a
flip a b = same_from_decides (bytes_eq a b) (bytes_eq b a) (bytes_eq-Decides a b) (Decides-like (bytes_eq b a) (λ e. sym e) (λ e. sym e) (bytes_eq-Decides b a))

neither : (a b : Bool) → (a || b) ≡ false → (a ≡ false) × (b ≡ false)
neither true b e = absurd cc
neither false b e = (refl, e)

is_false : (b : Bool) → not b ≡ true → b ≡ false
is_false true e = absurd cc
is_false false e = refl

none_dropped : (id : List ℕ) (ids : List (List ℕ)) → have_equal_neighbours (id ∷ ids) ≡ false → dedup_from bytes_eq id ids ≡ id ∷ ids
none_dropped id [] e = refl
none_dropped id (next ∷ ids) e =
    let k = neither (bytes_eq next id) (have_equal_neighbours (next ∷ ids)) e in
    ap (λ (b : Bool). cond b (dedup_from bytes_eq id ids) (id ∷ dedup_from bytes_eq next ids)) k.0
    ∙ ap (λ (xs : List (List ℕ)). id ∷ xs) (none_dropped next ids k.1)

all_kept : (ids : List (List ℕ)) → have_equal_neighbours ids ≡ false → dedup bytes_eq ids ≡ ids
all_kept [] e = refl
all_kept (id ∷ ids) e = none_dropped id ids e

distinct_apart : (id next : List ℕ) (ids : List (List ℕ)) → IsDistinct bytes_eq (id ∷ next ∷ ids) → (bytes_eq next id ≡ false) × IsDistinct bytes_eq (next ∷ ids)
unfolding IsDistinct
distinct_apart id next ids h = (flip next id ∙ h.0.0, h.1)

apart : (ids : List (List ℕ)) → IsDistinct bytes_eq ids → have_equal_neighbours ids ≡ false
apart [] h = refl
apart (id ∷ []) h = refl
apart (id ∷ next ∷ ids) h =
    let k = distinct_apart id next ids h in
    ap (λ (b : Bool). b || have_equal_neighbours (next ∷ ids)) k.0 ∙ apart (next ∷ ids) k.1

by_order : bytes_eq ≡ eq_by_cmp (slice_cmp nat_cmp)
by_order = λ i a b. texts_ties a b i

distinct_sorted : (ids : List (List ℕ)) → IsSorted (slice_cmp nat_cmp) ids → have_equal_neighbours ids ≡ false → IsDistinct bytes_eq ids
distinct_sorted ids up e =
    subst (λ (f : List ℕ → List ℕ → Bool). IsDistinct f ids) (sym by_order)
    (IsDistinct-from_sorted (slice_cmp nat_cmp) ids
    (subst (λ (xs : List (List ℕ)). IsStrictlySortedBy (slice_cmp nat_cmp) xs) (all_kept ids e) (IsStrictlySortedBy-dedup nat_list_cmp_total texts_ties ids up)))

neighbours_decide : (ids : List (List ℕ)) → IsSorted (slice_cmp nat_cmp) ids → Decides (not (have_equal_neighbours ids)) (IsDistinct bytes_eq ids)
neighbours_decide ids up =
    (λ e. distinct_sorted ids up (is_false (have_equal_neighbours ids) e), λ h. ap not (apart ids h))

-- ---- of slices

-- an octet string that is only lent
abbrev Slice : Type 0
Slice = Bor (List ℕ)

abbrev octets_of : Slice → List ℕ
octets_of s = s.now

sorted_octets : (xs : List Slice) → IsSorted (λ a b. slice_cmp nat_cmp (octets_of a) (octets_of b)) xs → IsSorted (slice_cmp nat_cmp) (map octets_of xs)
sorted_octets [] up k d from within = absurd (omega arith)
sorted_octets (x ∷ xs) up k d from within =
    let l : k + 1 < length (x ∷ xs) = omega (arith, length-map (x ∷ xs) octets_of) in
    let high : get_or (map octets_of (x ∷ xs)) (k + 1) d ≡ octets_of (get_or (x ∷ xs) (k + 1) x) =
    get_or_default (map octets_of (x ∷ xs)) (k + 1) d (octets_of x) within ∙ get_or-map octets_of (x ∷ xs) (k + 1) x in
    let low : get_or (map octets_of (x ∷ xs)) k d ≡ octets_of (get_or (x ∷ xs) k x) =
    get_or_default (map octets_of (x ∷ xs)) k d (octets_of x) (omega arith) ∙ get_or-map octets_of (x ∷ xs) k x in
    rw (high, low) (up k x from l)

-- sorted, they differ where no neighbours are equal
pub by_neighbours : (xs ys : List Slice) (ids : List (List ℕ)) (b : Bool) → map octets_of xs ≡ ids → IsPermutation xs ys
    → IsSorted (λ a b. slice_cmp nat_cmp (octets_of a) (octets_of b)) ys
    → b ≡ have_equal_neighbours (map octets_of ys) → not b ≡ are_distinct ids
by_neighbours xs ys ids b e p up f =
    let q : IsPermutation (map octets_of xs) (map octets_of ys) = IsPermutation-map octets_of xs ys p in
    let g : IsPermutation ids (map octets_of ys) = subst (λ (zs : List (List ℕ)). IsPermutation zs (map octets_of ys)) e q in
    ap not f
    ∙ same_from_decides (not (have_equal_neighbours (map octets_of ys))) (are_distinct ids)
    (Decides-like (not (have_equal_neighbours (map octets_of ys)))
    (IsDistinct-IsPermutation bytes_eq flip (map octets_of ys) ids (IsPermutation-sym ids (map octets_of ys) g))
    (IsDistinct-IsPermutation bytes_eq flip ids (map octets_of ys) g)
    (neighbours_decide (map octets_of ys) (sorted_octets ys up)))
    (distinct_decides ids)

-- the same, where the slices themselves are held against each other
neighbours_of : (xs : List Slice) → has_equal_neighbours (λ a b. bytes_eq (octets_of a) (octets_of b)) xs ≡ have_equal_neighbours (map octets_of xs)
neighbours_of [] = refl
neighbours_of (x ∷ []) = refl
neighbours_of (x ∷ y ∷ xs) = ap (λ (b : Bool). bytes_eq (octets_of y) (octets_of x) || b) (neighbours_of (y ∷ xs))

pub by_slices : (xs ys : List Slice) (ids : List (List ℕ)) (b : Bool) → map octets_of xs ≡ ids → IsPermutation xs ys
    → IsSorted (λ a b. slice_cmp nat_cmp (octets_of a) (octets_of b)) ys
    → b ≡ has_equal_neighbours (λ a b. bytes_eq (octets_of a) (octets_of b)) ys → not b ≡ are_distinct ids
by_slices xs ys ids b e p up f = by_neighbours xs ys ids b e p up (f ∙ neighbours_of ys)

-- ---- what repeats, found by comparing each with those after it

any_flipped : {A : Type 0} (f : A → List ℕ) (id : List ℕ) (xs : List A) → list_any (λ x. bytes_eq (f x) id) xs ≡ list_any (bytes_eq id) (map f xs)
any_flipped f id [] = refl
any_flipped f id (x ∷ xs) =
    ap (λ (b : Bool). b || list_any (λ x. bytes_eq (f x) id) xs) (flip (f x) id) ∙ ap (λ (b : Bool). bytes_eq id (f x) || b) (any_flipped f id xs)

pub repeats_by : {A : Type 0} (f : A → List ℕ) (repeats : List A → Bool) → repeats [] ≡ false
    → ((x : A) (xs : List A) → repeats (x ∷ xs) ≡ (list_any (λ y. bytes_eq (f y) (f x)) xs || repeats xs))
    → (xs : List A) → repeats xs ≡ not (are_distinct (map f xs))
repeats_by f repeats none more [] = none
repeats_by f repeats none more (x ∷ xs) =
    more x xs
    ∙ ap (λ (b : Bool). list_any (λ y. bytes_eq (f y) (f x)) xs || b) (repeats_by f repeats none more xs)
    ∙ ap (λ (b : Bool). b || not (are_distinct (map f xs))) (any_flipped f (f x) xs)
    ∙ one_of (list_any (bytes_eq (f x)) (map f xs)) (are_distinct (map f xs))
  where
    one_of : (b d : Bool) → (b || not d) ≡ not (not b && d)
    one_of true d = refl
    one_of false d = refl
