-- Sums, and counts that stop at the greatest number.
use Rattle.std.proofs.Common.{◌≡◌, List, ap, arith, get_or, inl, inr, length, min, nat_lt, refl, suc, sym, take, zero}
use Rattle.std.proofs.Common.{ℕ, [], ◌++◌, ◌*◌, ◌+◌, ◌<◌, ◌≤◌, ◌∙◌, ◌∷◌, ◌⊎◌, subst}
use Rattle.std.specs.List.{sum_by}
use Rattle.std.proofs.lemmas.Bool.{cases_order, lt-ltb}
use Rattle.std.proofs.lemmas.List.{take_more}
use Rattle.std.proofs.lemmas.List.Sums.{sum_by_push}
use Rattle.std.proofs.lemmas.Nat.{mul-le}

pub sum_more : {A : Type 0} (f : A → ℕ) (xs : List A) (i : ℕ) (x : A) → i < length xs → x ≡ get_or xs i x
    → sum_by f (take (i + 1) xs) ≡ sum_by f (take i xs) + f x
sum_more {A} f xs i x within is =
    ap (sum_by f) (take_more xs i x within)
    ∙ ap (λ (y : A). sum_by f (take i xs ++ y ∷ [])) (sym is)
    ∙ sum_by_push f (take i xs) x

-- ---- numbers that are one, or are both above a limit

abbrev Alike : ℕ → ℕ → ℕ → Type 0
Alike k a b = (a ≡ b) ⊎ ((k < a) × (k < b))

alike_test : (k a b : ℕ) → Alike k a b → nat_lt k a ≡ nat_lt k b
alike_test k a b (inl e) = ap (nat_lt k) e
alike_test k a b (inr (l, m)) = lt-ltb k a l ∙ sym (lt-ltb k b m)

-- cut off at a bound above the limit
alike_cut : (k m p : ℕ) → k < m → (m ≡ p) ⊎ ((m < p) ⊎ (p < m)) → Alike k (min p m) p
alike_cut k m p l (inl e) = inl (omega arith)
alike_cut k m p l (inr (inl h)) = inr (omega arith, omega arith)
alike_cut k m p l (inr (inr h)) = inl (omega arith)

alike_sum : (k a b c d : ℕ) → Alike k a b → Alike k c d → Alike k (a + c) (b + d)
alike_sum k a b c d (inl e) (inl f) = inl (omega arith)
alike_sum k a b c d (inl e) (inr (l, m)) = inr (omega arith, omega arith)
alike_sum k a b c d (inr (l, m)) (inl f) = inr (omega arith, omega arith)
alike_sum k a b c d (inr (l, m)) (inr (n, o)) = inr (omega arith, omega arith)

times : (k n a : ℕ) → k < a → k < suc n * a
times k n a l =
    let g : 1 * a ≤ suc n * a = mul-le 1 a (suc n) a (omega arith) (omega arith) in
    omega arith

alike_times : (k n a b : ℕ) → Alike k a b → Alike k (n * a) (n * b)
alike_times k n a b (inl e) = inl (ap (λ (x : ℕ). n * x) e)
alike_times k zero a b (inr (l, m)) = inl (omega arith)
alike_times k (suc n) a b (inr (l, m)) = inr (times k n a l, times k n b m)

alike_then : (k a b c : ℕ) → Alike k a b → Alike k b c → Alike k a c
alike_then k a b c (inl e) (inl f) = inl (e ∙ f)
alike_then k a b c (inl e) (inr (l, m)) = inr (omega arith, m)
alike_then k a b c (inr (l, m)) (inl f) = inr (l, omega arith)
alike_then k a b c (inr (l, m)) (inr (n, o)) = inr (l, o)

swapped : (k c o d p : ℕ) → Alike k (o * c) (p * d) → Alike k (c * o) (d * p)
swapped k c o d p h =
    let e : o * c ≡ c * o = omega arith in
    let f : p * d ≡ d * p = omega arith in
    subst (λ (x : ℕ). Alike k x (d * p)) e (subst (λ (x : ℕ). Alike k (o * c) x) f h)

alike_product : (k c d o p : ℕ) → Alike k c d → Alike k o p → Alike k (c * o) (d * p)
alike_product k c d o p h g = alike_then k (c * o) (c * p) (d * p) (alike_times k c o p g) (swapped k c p d p (alike_times k p c d h))

module _ (k m : ℕ) (l : k < m) where
  cut_sum : (a b : ℕ) → Alike k (min (min a m + min b m) m) (a + b)
  cut_sum a b =
      alike_then k (min (min a m + min b m) m) (min a m + min b m) (a + b) (alike_cut k m (min a m + min b m) l (cases_order m (min a m + min b m)))
      (alike_sum k (min a m) a (min b m) b (alike_cut k m a l (cases_order m a)) (alike_cut k m b l (cases_order m b)))

  cut_times : (n s t : ℕ) → Alike k s t → Alike k (min (n * s) m) (n * t)
  cut_times n s t h =
      alike_then k (min (n * s) m) (n * s) (n * t) (alike_cut k m (n * s) l (cases_order m (n * s))) (alike_times k n s t h)

  -- c and o may both be cut
  cut_product : (c d o : ℕ) → Alike k c d → Alike k (min (c * min o m) m) (d * o)
  cut_product c d o h =
      alike_then k (min (c * min o m) m) (c * o) (d * o) (cut_times c (min o m) o (alike_cut k m o l (cases_order m o)))
      (swapped k c o d o (alike_times k o c d h))

  pub whole_is : (n a b c d o : ℕ) → nat_lt k (min (min (n * min (min a m + min b m) m) m + min (min (min c m + min d m) m * min o m) m) m)
      ≡ nat_lt k (n * (a + b) + (c + d) * o)
  whole_is n a b c d o =
      let x = min (n * min (min a m + min b m) m) m in
      let y = min (min (min c m + min d m) m * min o m) m in
      alike_test k (min (x + y) m) (n * (a + b) + (c + d) * o)
      (alike_then k (min (x + y) m) (x + y) (n * (a + b) + (c + d) * o) (alike_cut k m (x + y) l (cases_order m (x + y)))
      (alike_sum k x (n * (a + b)) y ((c + d) * o) (cut_times n (min (min a m + min b m) m) (a + b) (cut_sum a b))
      (cut_product (min (min c m + min d m) m) (c + d) o (cut_sum c d))))

  -- each number is cut off
  pub products_are : (a b c d : ℕ) → nat_lt k (min (min (min a m * min b m) m + min (min c m * min d m) m) m) ≡ nat_lt k (a * b + c * d)
  products_are a b c d =
      let x = min (min a m * min b m) m in
      let y = min (min c m * min d m) m in
      alike_test k (min (x + y) m) (a * b + c * d)
      (alike_then k (min (x + y) m) (x + y) (a * b + c * d) (alike_cut k m (x + y) l (cases_order m (x + y)))
      (alike_sum k x (a * b) y (c * d) (cut_product (min a m) a b (alike_cut k m a l (cases_order m a)))
      (cut_product (min c m) c d (alike_cut k m c l (cases_order m c)))))

  -- of two sums, in the first of which one number is cut off
  pub sums_are : (u w n : ℕ) → nat_lt k (min (min (u + min w m) m * min (min w m + min n m) m) m) ≡ nat_lt k ((u + w) * (w + n))
  sums_are u w n =
      let a = min (u + min w m) m in
      let b = min (min w m + min n m) m in
      let first : Alike k a (u + w) =
      alike_then k a (u + min w m) (u + w) (alike_cut k m (u + min w m) l (cases_order m (u + min w m)))
      (alike_sum k u u (min w m) w (inl refl) (alike_cut k m w l (cases_order m w))) in
      alike_test k (min (a * b) m) ((u + w) * (w + n))
      (alike_then k (min (a * b) m) (a * b) ((u + w) * (w + n)) (alike_cut k m (a * b) l (cases_order m (a * b)))
      (alike_product k a (u + w) b (w + n) first (cut_sum w n)))

  -- one sum is
  pub sum_is : (a : ℕ) → nat_lt k (min a m) ≡ nat_lt k a
  sum_is a = alike_test k (min a m) a (alike_cut k m a l (cases_order m a))

-- ---- a number times a sum, and one

scaled_by : (n s m : ℕ) → (m ≡ s) ⊎ ((m < s) ⊎ (s < m)) → min (min (n * min s m) m + 1) m ≡ min (1 + n * s) m
scaled_by n s m (inl e) =
    let f : min s m ≡ s = omega arith in
    let p = ap (λ (x : ℕ). n * x) f in
    omega arith
scaled_by n s m (inr (inr h)) =
    let f : min s m ≡ s = omega arith in
    let p = ap (λ (x : ℕ). n * x) f in
    omega arith
scaled_by zero s m (inr (inl h)) = omega arith
scaled_by (suc n) s m (inr (inl h)) =
    let g : 1 * m ≤ suc n * m = mul-le 1 m (suc n) m (omega arith) (omega arith) in
    let k : 1 * s ≤ suc n * s = mul-le 1 s (suc n) s (omega arith) (omega arith) in
    let f : min s m ≡ m = omega arith in
    let p = ap (λ (x : ℕ). suc n * x) f in
    omega arith

pub scaled : (n s m : ℕ) → min (min (n * min s m) m + 1) m ≡ min (1 + n * s) m
scaled n s m = scaled_by n s m (cases_order m s)
