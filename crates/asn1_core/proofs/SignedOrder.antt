-- The order of signed numbers, by their shortest two's complement.
use Rattle.std.proofs.Common.{◌≡◌, ℕ, zero, suc, ◌+◌, ◌*◌, ◌^◌, ◌<◌, ◌≤◌, Bool, true, false, cond, List, [], ◌∷◌, refl, sym, ap, ◌∙◌, arith, inl, inr, subst}
use Rattle.std.specs.Prelude.{nat_lt, ◌==◌, ◌&&◌, length, ℤ, pos, ◌-ℤ◌, ◌<ℤ◌}
use Rattle.std.specs.declared.cmp.Ordering.{Ordering}
use Rattle.std.specs.declared.cmp.Ordering.TheVariants.{Less, Equal, Greater}
use Rattle.std.specs.Ordering.{nat_cmp, int_cmp, int_eq, is_eq, ordering_then, MatchOrdering}
use Rattle.std.specs.Cmp.{int_cmp_is}
use Rattle.std.specs.Cmp.Lexicographic.{slice_cmp}
use Rattle.std.proofs.Math.Nat.{pow-suc, mul-le-mul_right}
use Rattle.std.proofs.lemmas.Bool.{ltb-true, ltb-false, eq-eqb, cases_eq}
use Rattle.std.proofs.lemmas.Cmp.{ranked, by_ranked}
use Rattle.asn1_core.specs.Arcs.{are_below}
use Rattle.asn1_core.specs.Binds.{and_true, true_and, neither}
use Rattle.asn1_core.specs.Twos.{is_shortest, are_twos, is_negative, number, signed}
use Rattle.asn1_core.specs.IntegerOrder.{same_integer, integer_cmp, integer_ties}
use Rattle.asn1_core.proofs.Signed.{number_cons, number_below}

abbrev pub RanksNumber : Ordering → ℕ → ℕ → Type 0
RanksNumber o m n = MatchOrdering o (m < n) (m ≡ n) (n < m)

abbrev pub RanksSigned : Ordering → ℤ → ℤ → Type 0
RanksSigned o x y = MatchOrdering o (x <ℤ y) (x ≡ y) (y <ℤ x)

one_power : (j : ℕ) → 1 ≤ 256 ^ j
one_power zero = omega arith
one_power (suc j) = subst (λ (x : ℕ). 1 ≤ x) (sym (pow-suc 256 j)) (omega (arith, one_power j))

powers : (i j : ℕ) → i ≤ j → 256 ^ i ≤ 256 ^ j
powers zero j l = one_power j
powers (suc i) zero l = absurd (omega arith)
powers (suc i) (suc j) l =
    subst (λ (x : ℕ). x ≤ 256 ^ suc j) (sym (pow-suc 256 i))
    (subst (λ (x : ℕ). 256 ^ i * 256 ≤ x) (sym (pow-suc 256 j)) (mul-le-mul_right 256 (powers i j (omega arith))))

-- the sign bit clear, and set
low_number : (a : ℕ) (rest : List ℕ) → are_below 256 rest ≡ true → a < 128 → number (a ∷ rest) < 128 * 256 ^ length rest
low_number a rest h l = subst (λ (x : ℕ). x < 128 * 256 ^ length rest) (sym (number_cons a rest)) (omega (arith, mul-le-mul_right (256 ^ length rest) l, number_below rest h))

high_number : (a : ℕ) (rest : List ℕ) → 128 ≤ a → 128 * 256 ^ length rest ≤ number (a ∷ rest)
high_number a rest l = subst (λ (x : ℕ). 128 * 256 ^ length rest ≤ x) (sym (number_cons a rest)) (omega (arith, mul-le-mul_right (256 ^ length rest) l))

-- the first two bytes aren't a sign alone
not_both : (p q : Bool) → p ≡ true → (p && q) ≡ false → q ≡ false
not_both true true e f = absurd cc
not_both true false e f = refl
not_both false q e f = absurd cc

shortest_low : (y z : ℕ) (rest : List ℕ) → is_shortest (y ∷ z ∷ rest) ≡ true → 128 * 256 ^ length rest ≤ number (y ∷ z ∷ rest)
shortest_low zero z rest h =
    let k = neither ((0 == 0) && nat_lt z 128) ((0 == 255) && nat_lt 127 z) h in
    let n : number (0 ∷ z ∷ rest) ≡ number (z ∷ rest) = number_cons 0 (z ∷ rest) ∙ omega arith in
    subst (λ (x : ℕ). 128 * 256 ^ length rest ≤ x) (sym n) (high_number z rest (ltb-false z 128 k.0))
shortest_low (suc y) z rest h =
    subst (λ (x : ℕ). 128 * 256 ^ length rest ≤ x) (sym (number_cons (suc y) (z ∷ rest)))
    (let one : 1 ≤ suc y = omega arith in
    omega (arith, mul-le-mul_right (256 ^ suc (length rest)) one, pow-suc 256 (length rest)))

shortest_high : (y z : ℕ) (rest : List ℕ) → is_shortest (y ∷ z ∷ rest) ≡ true → y < 256 → are_below 256 (z ∷ rest) ≡ true → number (y ∷ z ∷ rest) + 128 * 256 ^ length rest < 256 ^ suc (suc (length rest))
shortest_high y z rest h l b =
    let k = neither ((y == 0) && nat_lt z 128) ((y == 255) && nat_lt 127 z) h in
    let low : number (z ∷ rest) < 256 ^ suc (length rest) = number_below (z ∷ rest) b in
    elim (cases_eq y 255) [
      | inl e ↦
          let c : z < 128 = (let m : z ≤ 127 = ltb-false 127 z (not_both (y == 255) (nat_lt 127 z) (eq-eqb y 255 e) k.1) in omega arith) in
          omega (arith, number_cons y (z ∷ rest), ap (λ (x : ℕ). x * 256 ^ suc (length rest)) e, low_number z rest (and_true (nat_lt z 256) (are_below 256 rest) b).1 c, pow-suc 256 (length rest), pow-suc 256 (suc (length rest)))
      | inr ne ↦
          let c : y ≤ 254 = omega arith in
          omega (arith, number_cons y (z ∷ rest), mul-le-mul_right (256 ^ suc (length rest)) c, low, pow-suc 256 (length rest), pow-suc 256 (suc (length rest)))
    ]

-- ---- of the same length

first_less : (x y p m n : ℕ) → x < y → m < p → x * p + m < y * p + n
first_less x y p m n l q = omega (arith, mul-le-mul_right p l)

rest_decides : (o : Ordering) (x p m n : ℕ) → RanksNumber o m n → RanksNumber o (x * p + m) (x * p + n)
rest_decides Less x p m n h = omega arith
rest_decides Equal x p m n h = omega arith
rest_decides Greater x p m n h = omega arith

pub same_length : (a b : List ℕ) → are_below 256 a ≡ true → are_below 256 b ≡ true → length a ≡ length b → RanksNumber (slice_cmp nat_cmp a b) (number a) (number b)
same_length [] [] h k e = refl
same_length [] (y ∷ ys) h k e = absurd (omega arith)
same_length (x ∷ xs) [] h k e = absurd (omega arith)
same_length (x ∷ xs) (y ∷ ys) h k e =
    let bx = and_true (nat_lt x 256) (are_below 256 xs) h in
    let by = and_true (nat_lt y 256) (are_below 256 ys) k in
    let same : length xs ≡ length ys = omega arith in
    let nx : number (x ∷ xs) ≡ x * 256 ^ length xs + number xs = number_cons x xs in
    let ny : number (y ∷ ys) ≡ y * 256 ^ length xs + number ys = number_cons y ys ∙ ap (λ (n : ℕ). y * 256 ^ n + number ys) (sym same) in
    let my : number ys < 256 ^ length xs = subst (λ (n : ℕ). number ys < 256 ^ n) (sym same) (number_below ys by.1) in
    subst (λ (n : ℕ). RanksNumber (ordering_then (nat_cmp x y) (slice_cmp nat_cmp xs ys)) n (number (y ∷ ys))) (sym nx)
    (subst (λ (n : ℕ). RanksNumber (ordering_then (nat_cmp x y) (slice_cmp nat_cmp xs ys)) (x * 256 ^ length xs + number xs) n) (sym ny)
    (by_ranked (x < y) (x ≡ y) (y < x) (nat_cmp x y) (ranked x y (nat_cmp x y) refl)
    (λ f l. subst (λ (o : Ordering). RanksNumber (ordering_then o (slice_cmp nat_cmp xs ys)) (x * 256 ^ length xs + number xs) (y * 256 ^ length xs + number ys)) (sym f)
    (first_less x y (256 ^ length xs) (number xs) (number ys) l (number_below xs bx.1)))
    (λ f l. subst (λ (o : Ordering). RanksNumber (ordering_then o (slice_cmp nat_cmp xs ys)) (x * 256 ^ length xs + number xs) (y * 256 ^ length xs + number ys)) (sym f)
    (subst (λ (z : ℕ). RanksNumber (slice_cmp nat_cmp xs ys) (x * 256 ^ length xs + number xs) (z * 256 ^ length xs + number ys)) l
    (rest_decides (slice_cmp nat_cmp xs ys) x (256 ^ length xs) (number xs) (number ys) (same_length xs ys bx.1 by.1 same))))
    (λ f l. subst (λ (o : Ordering). RanksNumber (ordering_then o (slice_cmp nat_cmp xs ys)) (x * 256 ^ length xs + number xs) (y * 256 ^ length xs + number ys)) (sym f)
    (first_less y x (256 ^ length xs) (number ys) (number xs) l my))))

-- ---- of other lengths

shorter_low : (a b : List ℕ) → are_twos a ≡ true → are_twos b ≡ true → is_negative a ≡ false → length a < length b → number a < number b
shorter_low [] b p q s l = absurd cc
shorter_low (x ∷ xs) [] p q s l = absurd (omega arith)
shorter_low (x ∷ xs) (y ∷ []) p q s l = absurd (omega arith)
shorter_low (x ∷ xs) (y ∷ z ∷ zs) p q s l =
    let a = and_true (is_shortest (x ∷ xs)) (are_below 256 (x ∷ xs)) p in
    let b = and_true (is_shortest (y ∷ z ∷ zs)) (are_below 256 (y ∷ z ∷ zs)) q in
    let low : x ≤ 127 = ltb-false 127 x s in
    let short : length xs ≤ length zs = omega arith in
    omega (arith, low_number x xs (and_true (nat_lt x 256) (are_below 256 xs) a.1).1 (omega arith), shortest_low y z zs b.0, powers (length xs) (length zs) short)

far_below : (m M n N p q : ℕ) → m + 128 * p < M → N ≤ n + 128 * q → q ≤ p → (pos m -ℤ pos M) <ℤ (pos n -ℤ pos N)
far_below m M n N p q h k l = grind arith

shorter_high : (a b : List ℕ) → are_twos a ≡ true → are_twos b ≡ true → is_negative a ≡ true → length a < length b → (pos (number b) -ℤ pos (256 ^ length b)) <ℤ (pos (number a) -ℤ pos (256 ^ length a))
shorter_high [] b p q s l = absurd cc
shorter_high (x ∷ xs) [] p q s l = absurd (omega arith)
shorter_high (x ∷ xs) (y ∷ []) p q s l = absurd (omega arith)
shorter_high (x ∷ xs) (y ∷ z ∷ zs) p q s l =
    let b = and_true (is_shortest (y ∷ z ∷ zs)) (are_below 256 (y ∷ z ∷ zs)) q in
    let c = and_true (nat_lt y 256) (are_below 256 (z ∷ zs)) b.1 in
    let high : 128 ≤ x = (let m : 127 < x = ltb-true 127 x s in omega arith) in
    let short : length xs ≤ length zs = omega arith in
    far_below (number (y ∷ z ∷ zs)) (256 ^ suc (suc (length zs))) (number (x ∷ xs)) (256 ^ suc (length xs)) (256 ^ length zs) (256 ^ length xs)
    (shortest_high y z zs b.0 (ltb-true y 256 c.0) c.1)
    (omega (arith, high_number x xs high, pow-suc 256 (length xs)))
    (powers (length xs) (length zs) short)

-- ---- by the signs

signed_low : (a : List ℕ) → is_negative a ≡ false → signed a ≡ pos (number a)
signed_low a e = ap (λ (t : Bool). cond t (pos (number a) -ℤ pos (256 ^ length a)) (pos (number a))) e

signed_high : (a : List ℕ) → is_negative a ≡ true → signed a ≡ pos (number a) -ℤ pos (256 ^ length a)
signed_high a e = ap (λ (t : Bool). cond t (pos (number a) -ℤ pos (256 ^ length a)) (pos (number a))) e

of_numbers : (o : Ordering) (m n : ℕ) → RanksNumber o m n → RanksSigned o (pos m) (pos n)
of_numbers Less m n h = grind arith
of_numbers Equal m n h = ap pos h
of_numbers Greater m n h = grind arith

less_same : (o : Ordering) (m n N : ℕ) → RanksNumber o m n → RanksSigned o (pos m -ℤ pos N) (pos n -ℤ pos N)
less_same Less m n N h = grind arith
less_same Equal m n N h = ap (λ (x : ℕ). pos x -ℤ pos N) h
less_same Greater m n N h = grind arith

below_zero : (m n N : ℕ) → n < N → (pos n -ℤ pos N) <ℤ pos m
below_zero m n N h = grind arith

twice : (t s : Ordering) → ordering_then (ordering_then t s) s ≡ ordering_then t s
twice Less s = refl
twice Equal Less = refl
twice Equal Equal = refl
twice Equal Greater = refl
twice Greater s = refl

low_ranked : (a b : List ℕ) → are_twos a ≡ true → are_twos b ≡ true → is_negative a ≡ false → is_negative b ≡ false → RanksSigned (ordering_then (nat_cmp (length a) (length b)) (slice_cmp nat_cmp a b)) (signed a) (signed b)
low_ranked a b p q s t =
    subst (λ (x : ℤ). RanksSigned (ordering_then (nat_cmp (length a) (length b)) (slice_cmp nat_cmp a b)) x (signed b)) (sym (signed_low a s))
    (subst (λ (y : ℤ). RanksSigned (ordering_then (nat_cmp (length a) (length b)) (slice_cmp nat_cmp a b)) (pos (number a)) y) (sym (signed_low b t))
    (of_numbers (ordering_then (nat_cmp (length a) (length b)) (slice_cmp nat_cmp a b)) (number a) (number b)
    (by_ranked (length a < length b) (length a ≡ length b) (length b < length a) (nat_cmp (length a) (length b)) (ranked (length a) (length b) (nat_cmp (length a) (length b)) refl)
    (λ f l. subst (λ (o : Ordering). RanksNumber (ordering_then o (slice_cmp nat_cmp a b)) (number a) (number b)) (sym f) (shorter_low a b p q s l))
    (λ f l. subst (λ (o : Ordering). RanksNumber (ordering_then o (slice_cmp nat_cmp a b)) (number a) (number b)) (sym f) (same_length a b (and_true (is_shortest a) (are_below 256 a) p).1 (and_true (is_shortest b) (are_below 256 b) q).1 l))
    (λ f l. subst (λ (o : Ordering). RanksNumber (ordering_then o (slice_cmp nat_cmp a b)) (number a) (number b)) (sym f) (shorter_low b a q p t l)))))

high_ranked : (a b : List ℕ) → are_twos a ≡ true → are_twos b ≡ true → is_negative a ≡ true → is_negative b ≡ true → RanksSigned (ordering_then (nat_cmp (length b) (length a)) (slice_cmp nat_cmp a b)) (signed a) (signed b)
high_ranked a b p q s t =
    subst (λ (x : ℤ). RanksSigned (ordering_then (nat_cmp (length b) (length a)) (slice_cmp nat_cmp a b)) x (signed b)) (sym (signed_high a s))
    (subst (λ (y : ℤ). RanksSigned (ordering_then (nat_cmp (length b) (length a)) (slice_cmp nat_cmp a b)) (pos (number a) -ℤ pos (256 ^ length a)) y) (sym (signed_high b t))
    (by_ranked (length b < length a) (length b ≡ length a) (length a < length b) (nat_cmp (length b) (length a)) (ranked (length b) (length a) (nat_cmp (length b) (length a)) refl)
    (λ f l. subst (λ (o : Ordering). RanksSigned (ordering_then o (slice_cmp nat_cmp a b)) (pos (number a) -ℤ pos (256 ^ length a)) (pos (number b) -ℤ pos (256 ^ length b))) (sym f) (shorter_high b a q p t l))
    (λ f l. subst (λ (o : Ordering). RanksSigned (ordering_then o (slice_cmp nat_cmp a b)) (pos (number a) -ℤ pos (256 ^ length a)) (pos (number b) -ℤ pos (256 ^ length b))) (sym f)
    (subst (λ (n : ℕ). RanksSigned (slice_cmp nat_cmp a b) (pos (number a) -ℤ pos (256 ^ length a)) (pos (number b) -ℤ pos (256 ^ n))) (sym l)
    (less_same (slice_cmp nat_cmp a b) (number a) (number b) (256 ^ length a) (same_length a b (and_true (is_shortest a) (are_below 256 a) p).1 (and_true (is_shortest b) (are_below 256 b) q).1 (sym l)))))
    (λ f l. subst (λ (o : Ordering). RanksSigned (ordering_then o (slice_cmp nat_cmp a b)) (pos (number a) -ℤ pos (256 ^ length a)) (pos (number b) -ℤ pos (256 ^ length b))) (sym f) (shorter_high a b p q s l))))

mixed : (a b : List ℕ) → are_twos b ≡ true → is_negative a ≡ false → is_negative b ≡ true → signed b <ℤ signed a
mixed a b q s t =
    subst (λ (x : ℤ). signed b <ℤ x) (sym (signed_low a s))
    (subst (λ (y : ℤ). y <ℤ pos (number a)) (sym (signed_high b t))
    (below_zero (number a) (number b) (256 ^ length b) (number_below b (and_true (is_shortest b) (are_below 256 b) q).1)))

-- what ranks the signed numbers, and at a tie is what the bytes say, is their order
settled : (t : Ordering) (a b : List ℕ) → RanksSigned (ordering_then t (slice_cmp nat_cmp a b)) (signed a) (signed b) → (ordering_then t (slice_cmp nat_cmp a b) ≡ int_cmp (signed a) (signed b)) × (ordering_then t (slice_cmp nat_cmp a b) ≡ integer_cmp a b)
settled t a b h =
    let e = int_cmp_is (signed a) (signed b) (ordering_then t (slice_cmp nat_cmp a b)) h in
    (e, sym (twice t (slice_cmp nat_cmp a b)) ∙ ap (λ (o : Ordering). ordering_then o (slice_cmp nat_cmp a b)) e)

pub both_low : (a b : List ℕ) → are_twos a ≡ true → are_twos b ≡ true → is_negative a ≡ false → is_negative b ≡ false → (ordering_then (nat_cmp (length a) (length b)) (slice_cmp nat_cmp a b) ≡ int_cmp (signed a) (signed b)) × (ordering_then (nat_cmp (length a) (length b)) (slice_cmp nat_cmp a b) ≡ integer_cmp a b)
both_low a b p q s t = settled (nat_cmp (length a) (length b)) a b (low_ranked a b p q s t)

pub both_high : (a b : List ℕ) → are_twos a ≡ true → are_twos b ≡ true → is_negative a ≡ true → is_negative b ≡ true → (ordering_then (nat_cmp (length b) (length a)) (slice_cmp nat_cmp a b) ≡ int_cmp (signed a) (signed b)) × (ordering_then (nat_cmp (length b) (length a)) (slice_cmp nat_cmp a b) ≡ integer_cmp a b)
both_high a b p q s t = settled (nat_cmp (length b) (length a)) a b (high_ranked a b p q s t)

pub low_high : (a b : List ℕ) → are_twos b ≡ true → is_negative a ≡ false → is_negative b ≡ true → (Greater ≡ int_cmp (signed a) (signed b)) × (Greater ≡ integer_cmp a b)
low_high a b q s t = settled Greater a b (mixed a b q s t)

pub high_low : (a b : List ℕ) → are_twos a ≡ true → is_negative a ≡ true → is_negative b ≡ false → (Less ≡ int_cmp (signed a) (signed b)) × (Less ≡ integer_cmp a b)
high_low a b p s t = settled Less a b (mixed b a p t s)

-- of shortest forms, order and equality are those of the numbers
order_by : (a b : List ℕ) (s t : Bool) → are_twos a ≡ true → are_twos b ≡ true → is_negative a ≡ s → is_negative b ≡ t → int_cmp (signed a) (signed b) ≡ integer_cmp a b
order_by a b false false p q s t = let k = both_low a b p q s t in sym k.0 ∙ k.1
order_by a b true true p q s t = let k = both_high a b p q s t in sym k.0 ∙ k.1
order_by a b false true p q s t = let k = low_high a b q s t in sym k.0 ∙ k.1
order_by a b true false p q s t = let k = high_low a b p s t in sym k.0 ∙ k.1

pub equality_of_numbers : (a b : List ℕ) → is_shortest a ≡ true → is_shortest b ≡ true → are_below 256 a ≡ true → are_below 256 b ≡ true → same_integer a b ≡ int_eq (signed a) (signed b)
equality_of_numbers a b p q h k =
    integer_ties a b
    ∙ ap is_eq (sym (order_by a b (is_negative a) (is_negative b) (true_and (is_shortest a) (are_below 256 a) p h) (true_and (is_shortest b) (are_below 256 b) q k) refl refl))
