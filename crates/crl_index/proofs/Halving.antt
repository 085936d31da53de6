-- Binary search by halving.
use Rattle.std.proofs.Common.{◌≡◌, add-one, ◌⊎◌, inl, inr, ℕ, zero, suc, ◌+◌, ◌-◌, ◌*◌, ◌^◌, ◌/◌, ◌<◌, ◌≤◌, false, List, [], length, get_or, sym, ap, ◌∙◌, subst, arith}
use Rattle.std.proofs.Math.Nat.{pow-succ', mul-le-mul_left}
use Rattle.std.specs.Prelude.{Some, None}
use Rattle.std.specs.declared.cmp.Ordering.{Ordering}
use Rattle.std.specs.declared.cmp.Ordering.TheVariants.{Less, Equal, Greater}
use Rattle.std.specs.List.Sorted.{IsStrictlySortedBy}
use Rattle.std.specs.Ordering.{is_eq, ordering_reverse}
use Rattle.crl_index.specs.Index.{place_beside}
use Rattle.crl_index.specs.Search.{number_cmp, same_number}
use Rattle.crl_index.proofs.Numbers.{number_ties, number_total}
use Rattle.crl_index.proofs.Places.{pairwise, none_beside, found_beside}

-- the serial can only be from low to below high, and so many steps were taken
pub record IsNarrowed (ks : List (List ℕ)) (serial : List ℕ) (low high steps : ℕ) : Type 0 where
  pub within : low ≤ high
  pub inside : high ≤ length ks
  pub below : (k : ℕ) → k < low → number_cmp (get_or ks k []) serial ≡ Less
  pub above : (k : ℕ) → high ≤ k → k < length ks → number_cmp (get_or ks k []) serial ≡ Greater
  pub width : 2 ^ steps * (high - low) ≤ length ks
  pub cost : 2 ^ steps ≤ 2 * length ks + 1

apart_from : (a b : List ℕ) (o : Ordering) → number_cmp a b ≡ o → same_number a b ≡ is_eq o
apart_from a b o e = number_ties a b ∙ ap is_eq e

pub less_below : (ks : List (List ℕ)) (serial : List ℕ) (i : ℕ) → IsStrictlySortedBy number_cmp ks → i < length ks → number_cmp (get_or ks i []) serial ≡ Less → (k : ℕ) → k < i → number_cmp (get_or ks k []) serial ≡ Less
less_below ks serial i up inside is k before = number_total.trans (get_or ks k []) (get_or ks i []) serial (pairwise ks k i up before inside) is

pub greater_above : (ks : List (List ℕ)) (serial : List ℕ) (i : ℕ) → IsStrictlySortedBy number_cmp ks → number_cmp (get_or ks i []) serial ≡ Greater → (k : ℕ) → i < k → k < length ks → number_cmp (get_or ks k []) serial ≡ Greater
greater_above ks serial i up is k after inside =
    let back : number_cmp serial (get_or ks i []) ≡ Less = number_total.antisymm serial (get_or ks i []) ∙ ap ordering_reverse is in
    number_total.antisymm (get_or ks k []) serial ∙ ap ordering_reverse (number_total.trans serial (get_or ks i []) (get_or ks k []) back (pairwise ks i k up after inside))

pub equal_after : (ks : List (List ℕ)) (serial : List ℕ) (i : ℕ) → IsStrictlySortedBy number_cmp ks → i < length ks → number_cmp (get_or ks i []) serial ≡ Equal → (k : ℕ) → k < i → number_cmp (get_or ks k []) serial ≡ Less
equal_after ks serial i up inside is k before =
    let back : number_cmp (get_or ks i []) (get_or ks k []) ≡ Greater = number_total.antisymm (get_or ks i []) (get_or ks k []) ∙ ap ordering_reverse (pairwise ks k i up before inside) in
    number_total.antisymm (get_or ks k []) serial ∙ ap ordering_reverse (sym (number_total.congr (get_or ks i []) serial (get_or ks k []) is) ∙ back)

-- the place of what is found is the one at the same index
pub found : (ks : List (List ℕ)) (ps : List ℕ) (serial : List ℕ) (i : ℕ) → IsStrictlySortedBy number_cmp ks → length ps ≡ length ks → i < length ks → number_cmp (get_or ks i []) serial ≡ Equal → place_beside serial ks ps ≡ Some (get_or ps i 0)
found ks ps serial i up as_many inside is =
    found_beside serial ks ps i inside as_many
    (λ j before. apart_from (get_or ks j []) serial Less (equal_after ks serial i up inside is j before))
    (apart_from (get_or ks i []) serial Equal is)

missed_at : (ks : List (List ℕ)) (serial : List ℕ) (low high steps : ℕ) → IsNarrowed ks serial low high steps → high ≤ low → (i : ℕ) → i < length ks → (i < low) ⊎ (high ≤ i) → same_number (get_or ks i []) serial ≡ false
missed_at ks serial low high steps n met i inside (inl before) = apart_from (get_or ks i []) serial Less (n.below i before)
missed_at ks serial low high steps n met i inside (inr after) = apart_from (get_or ks i []) serial Greater (n.above i after inside)

-- where nothing is left the serial isn't there
pub missed : (ks : List (List ℕ)) (ps : List ℕ) (serial : List ℕ) (low high steps : ℕ) → IsNarrowed ks serial low high steps → high ≤ low → place_beside serial ks ps ≡ None
missed ks ps serial low high steps n met = none_beside serial ks ps (λ i inside. missed_at ks serial low high steps n met i inside (side i))
  where
    side : (i : ℕ) → (i < low) ⊎ (high ≤ i)
    side i = grind arith

doubled : (n : ℕ) → 2 ^ (n + 1) ≡ 2 ^ n + 2 ^ n
doubled n = rw add-one (pow-succ' 2 n ∙ twice (2 ^ n))
  where
    twice : (p : ℕ) → 2 * p ≡ p + p
    twice p = omega arith

halved : (p a b n : ℕ) → p * a ≤ n → b + b ≤ a → (p + p) * b ≤ n
halved p a b n within half =
    let k : p * (b + b) ≤ p * a = mul-le-mul_left p half in
    let e : (p + p) * b ≡ p * (b + b) = moved p b in
    omega arith
  where
    moved : (p b : ℕ) → (p + p) * b ≡ p * (b + b)
    moved p b = grind arith

at_least : (p a n : ℕ) → p * a ≤ n → 0 < a → p ≤ n
at_least p zero n within some = omega arith
at_least p (suc a) n within some =
    let k : p * 1 ≤ p * suc a = mul-le-mul_left p (omega arith) in
    omega arith

-- what a probe costs
probed : (n a b len steps : ℕ) → steps ≡ n + 1 → 2 ^ n * a ≤ len → 0 < a → b + b ≤ a → (2 ^ steps * b ≤ len) × (2 ^ steps ≤ 2 * len + 1)
probed n a b len steps one_more within some half =
    let p : 2 ^ n ≤ len = at_least (2 ^ n) a len within some in
    let d : 2 ^ steps ≡ 2 ^ n + 2 ^ n = ap (λ (k : ℕ). 2 ^ k) one_more ∙ doubled n in
    (rw d (halved (2 ^ n) a b len within half), omega arith)

-- one more step that finds it
pub cost_once_more : (ks : List (List ℕ)) (serial : List ℕ) (low high n steps : ℕ) → IsNarrowed ks serial low high n → low < high → steps ≡ n + 1 → 2 ^ steps ≤ 2 * length ks + 1
cost_once_more ks serial low high n steps narrowed more one_more = (probed n (high - low) 0 (length ks) steps one_more narrowed.width (omega arith) (omega arith)).1

up_to : (ks : List (List ℕ)) (serial : List ℕ) (i : ℕ) → number_cmp (get_or ks i []) serial ≡ Less → ((k : ℕ) → k < i → number_cmp (get_or ks k []) serial ≡ Less) → (k : ℕ) → (k < i) ⊎ (k ≡ i) → number_cmp (get_or ks k []) serial ≡ Less
up_to ks serial i is before k (inl h) = before k h
up_to ks serial i is before k (inr h) = subst (λ (x : ℕ). number_cmp (get_or ks x []) serial ≡ Less) (sym h) is

down_to : (ks : List (List ℕ)) (serial : List ℕ) (i : ℕ) → number_cmp (get_or ks i []) serial ≡ Greater → ((k : ℕ) → i < k → k < length ks → number_cmp (get_or ks k []) serial ≡ Greater) → (k : ℕ) → k < length ks → (i < k) ⊎ (k ≡ i) → number_cmp (get_or ks k []) serial ≡ Greater
down_to ks serial i is after k inside (inl h) = after k h inside
down_to ks serial i is after k inside (inr h) = subst (λ (x : ℕ). number_cmp (get_or ks x []) serial ≡ Greater) (sym h) is

-- the serial is above the middle
pub upper_half : (ks : List (List ℕ)) (serial : List ℕ) (low high n steps middle : ℕ) → IsStrictlySortedBy number_cmp ks → IsNarrowed ks serial low high n → low < high → middle ≡ low + (high - low) / 2 → number_cmp (get_or ks middle []) serial ≡ Less → steps ≡ n + 1 → IsNarrowed ks serial (middle + 1) high steps
upper_half ks serial low high n steps middle up narrowed more at is one_more =
    let inside : middle < high = omega arith in
    let high_inside : high ≤ length ks = narrowed.inside in
    let costs = probed n (high - low) (high - (middle + 1)) (length ks) steps one_more narrowed.width (omega arith) (omega arith) in
    record {
      within = omega arith;
      inside = high_inside;
      below = λ k before. up_to ks serial middle is (less_below ks serial middle up (omega arith) is) k (side k before);
      above = narrowed.above;
      width = costs.0;
      cost = costs.1;
    }
  where
    side : (k : ℕ) → k < middle + 1 → (k < middle) ⊎ (k ≡ middle)
    side k before = grind arith

-- the serial is below the middle
pub lower_half : (ks : List (List ℕ)) (serial : List ℕ) (low high n steps middle : ℕ) → IsStrictlySortedBy number_cmp ks → IsNarrowed ks serial low high n → low < high → middle ≡ low + (high - low) / 2 → number_cmp (get_or ks middle []) serial ≡ Greater → steps ≡ n + 1 → IsNarrowed ks serial low middle steps
lower_half ks serial low high n steps middle up narrowed more at is one_more =
    let inside : middle < high = omega arith in
    let high_inside : high ≤ length ks = narrowed.inside in
    let costs = probed n (high - low) (middle - low) (length ks) steps one_more narrowed.width (omega arith) (omega arith) in
    record {
      within = omega arith;
      inside = omega arith;
      below = narrowed.below;
      above = λ k after below. down_to ks serial middle is (greater_above ks serial middle up is) k below (side k after);
      width = costs.0;
      cost = costs.1;
    }
  where
    side : (k : ℕ) → middle ≤ k → (middle < k) ⊎ (k ≡ middle)
    side k after = grind arith
