-- Serials beside places, where the serials ascend.
use Rattle.std.proofs.Common.{◌≡◌, ℕ, zero, suc, ◌<◌, ◌≤◌, Bool, true, false, cond, List, [], ◌∷◌, length, get_or, refl, ap, ◌∙◌, arith}
use Rattle.std.proofs.lemmas.List.{length-map}
use Rattle.std.specs.Prelude.{Option, Some, None}
use Rattle.std.specs.declared.cmp.Ordering.TheVariants.{Less}
use Rattle.std.specs.List.{AllByRecursion}
use Rattle.std.specs.List.Sorted.{IsStrictlySortedBy}
use Rattle.std.specs.Map.{keys_of, values_of}
use Rattle.crl_index.specs.Index.{IsIndex, place_beside}
use Rattle.crl_index.specs.Search.{found_in, number_cmp, same_number}

-- the serials and the places of pairs, beside each other
pub place_beside-pairs : (serial : List ℕ) (pairs : List (List ℕ × ℕ)) → place_beside serial (keys_of pairs) (values_of pairs) ≡ found_in serial pairs
place_beside-pairs serial [] = refl
place_beside-pairs serial (p ∷ ps) = ap (λ (o : Option ℕ). cond (same_number p.0 serial) (Some p.1) o) (place_beside-pairs serial ps)

pub is_index : (pairs : List (List ℕ × ℕ)) (count : ℕ) → IsStrictlySortedBy number_cmp (keys_of pairs) → length pairs ≤ count → IsIndex (keys_of pairs) (values_of pairs) count
is_index pairs count up fewer =
    let serial : List ℕ × ℕ → List ℕ = λ pair. pair.0 in
    let place : List ℕ × ℕ → ℕ = λ pair. pair.1 in
    record {
      ascending = up;
      beside = omega (arith, length-map pairs serial, length-map pairs place);
      fewer = omega (arith, length-map pairs serial);
    }

all_at : (P : List ℕ → Type 0) (ks : List (List ℕ)) (i : ℕ) → AllByRecursion P ks → i < length ks → P (get_or ks i [])
all_at P [] i all below = absurd (omega arith)
all_at P (k ∷ ks) zero all below = all.0
all_at P (k ∷ ks) (suc i) all below = all_at P ks i all.1 (omega arith)

-- of two serials the one that comes first is below the other
pub pairwise : (ks : List (List ℕ)) (i j : ℕ) → IsStrictlySortedBy number_cmp ks → i < j → j < length ks → number_cmp (get_or ks i []) (get_or ks j []) ≡ Less
unfolding IsStrictlySortedBy
pairwise [] i j up apart below = absurd (omega arith)
pairwise (k ∷ ks) i zero up apart below = absurd (omega arith)
pairwise (k ∷ ks) zero (suc j) up apart below = all_at (λ y. number_cmp k y ≡ Less) ks j up.0 (omega arith)
pairwise (k ∷ ks) (suc i) (suc j) up apart below = pairwise ks i j up.1 (omega arith) (omega arith)

-- what is below no serial there, nor above, isn't there
pub none_beside : (serial : List ℕ) (ks : List (List ℕ)) (ps : List ℕ) → ((i : ℕ) → i < length ks → same_number (get_or ks i []) serial ≡ false) → place_beside serial ks ps ≡ None
none_beside serial [] ps apart = refl
none_beside serial (k ∷ ks) [] apart = refl
none_beside serial (k ∷ ks) (p ∷ ps) apart =
    ap (λ (b : Bool). cond b (Some p) (place_beside serial ks ps)) (apart 0 (omega arith))
    ∙ none_beside serial ks ps (λ i below. apart (suc i) (omega arith))

-- the first serial that is the same gives its place
pub found_beside : (serial : List ℕ) (ks : List (List ℕ)) (ps : List ℕ) (i : ℕ) → i < length ks → length ps ≡ length ks → ((j : ℕ) → j < i → same_number (get_or ks j []) serial ≡ false) → same_number (get_or ks i []) serial ≡ true → place_beside serial ks ps ≡ Some (get_or ps i 0)
found_beside serial [] ps i below as_many apart is = absurd (omega arith)
found_beside serial (k ∷ ks) [] i below as_many apart is = absurd (omega arith)
found_beside serial (k ∷ ks) (p ∷ ps) zero below as_many apart is = ap (λ (b : Bool). cond b (Some p) (place_beside serial ks ps)) is
found_beside serial (k ∷ ks) (p ∷ ps) (suc i) below as_many apart is =
    ap (λ (b : Bool). cond b (Some p) (place_beside serial ks ps)) (apart 0 (omega arith))
    ∙ found_beside serial ks ps i (omega arith) (omega arith) (λ j before. apart (suc j) (omega arith)) is
