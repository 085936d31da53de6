-- What a certificate certifies is a prime.
use Rattle.std.proofs.Common.{◌≡◌, ◌≢◌, ℕ, zero, suc, ◌+◌, ◌-◌, ◌*◌, ◌/◌, ◌%◌, ◌^◌, ◌<◌, ◌≤◌, true, false, not, ◌&&◌, ltb, eqb, inl, inr, List, [], ◌∷◌, ◌++◌, replicate, refl, sym, ◌∙◌, ap, subst, arith, pow-suc}
use Rattle.std.proofs.Math.Nat.{pow-zero, div-le_self}
use Rattle.std.proofs.lemmas.Bool.{cases_Bool, ltb-true, eqb-true, eqb-false, and_parts, not-true}
use Rattle.primes.specs.Primes.{IsPrime, Row, power_modulo, product, is_known, are_factors, is_row, certifies_from, certifies}
use Rattle.primes.proofs.Powers.{power_modulo-is}
use Rattle.primes.proofs.Orders.{Factors, all_product, IsGenerated, generated, generated_prime}

-- a row by its number, digits, generator and factors
unfoldable pub row : ℕ → ℕ → ℕ → List (ℕ × ℕ) → Row
row n digits g factors = record { number = n; digits = digits; generator = g; factors = factors }

-- ---- primes, as often as their exponents say
all_factors : List (ℕ × ℕ) → List ℕ
all_factors [] = []
all_factors ((q, k) ∷ fs) = replicate k q ++ all_factors fs

product_more : (k q : ℕ) (qs : List ℕ) → all_product (replicate k q ++ qs) ≡ q ^ k * all_product qs
unfolding all_product
product_more zero q qs = rw (pow-zero q) (omega arith)
product_more (suc k) q qs =
    let e = product_more k q qs in
    rw (pow-suc q k, e) (omega arith)

product_all : (fs : List (ℕ × ℕ)) → all_product (all_factors fs) ≡ product fs
unfolding all_product product all_factors
product_all [] = refl
product_all ((q, k) ∷ fs) = product_more k q (all_factors fs) ∙ ap (λ (z : ℕ). q ^ k * z) (product_all fs)

factors_more : (k e g n q : ℕ) (qs : List ℕ) → IsPrime q → g ^ (e / q) % n ≢ 1 → Factors e g n qs → Factors e g n (replicate k q ++ qs)
unfolding Factors
factors_more zero e g n q qs p h f = f
factors_more (suc k) e g n q qs p h f = (p, h, factors_more k e g n q qs p h f)

-- ---- what is known
AllGenerated : List ℕ → Type 0
AllGenerated [] = Unit {0}
AllGenerated (n ∷ ns) = IsGenerated n × AllGenerated ns

known_is : (n : ℕ) (known : List ℕ) → AllGenerated known → is_known n known ≡ true → IsGenerated n
unfolding is_known AllGenerated
known_is n [] h t = absurd (let z : false ≡ true = t in (cc))
known_is n (m ∷ ms) h t =
    elim (cases_Bool (eqb n m)) [
      | inl e ↦ let s = eqb-true n m e in subst IsGenerated (sym s) h.0
      | inr e ↦ let r : is_known n ms ≡ true = rw e at t in known_is n ms h.1 r
    ]

two_generated : IsGenerated 2
two_generated = record { above_one = omega arith; to_the_last = λ a p l. (let e : a ≡ 1 = omega arith in ap (λ (z : ℕ). z ^ 1 % 2) e) }

-- ---- a row
factors_are : (known : List ℕ) (row : Row) (fs : List (ℕ × ℕ)) → 1 < row.number → row.number < 2 ^ row.digits → AllGenerated known
    → are_factors known row fs ≡ true → Factors (row.number - 1) row.generator row.number (all_factors fs)
unfolding are_factors all_factors Factors
factors_are known row [] l b h t = tt
factors_are known row ((q, k) ∷ fs) l b h t =
    let n = row.number in
    let w = power_modulo n row.digits row.generator ((n - 1) / q) in
    let ps = and_parts (is_known q known && not (eqb w 1)) (are_factors known row fs) t in
    let qs = and_parts (is_known q known) (not (eqb w 1)) ps.0 in
    let d : (n - 1) / q ≤ n - 1 = div-le_self (n - 1) q in
    let f : (n - 1) / q < 2 ^ row.digits = omega arith in
    let e : w ≡ row.generator ^ ((n - 1) / q) % n = power_modulo-is n row.digits row.generator ((n - 1) / q) l f in
    let other : w ≢ 1 = eqb-false w 1 (not-true (eqb w 1) qs.1) in
    factors_more k (n - 1) row.generator n q (all_factors fs) (generated_prime q (known_is q known h qs.0)) (λ z. other (e ∙ z))
    (factors_are known row fs l b h ps.1)

row_is : (known : List ℕ) (row : Row) → AllGenerated known → is_row known row ≡ true → IsGenerated row.number
unfolding is_row
row_is known row h t =
    let n = row.number in
    let w = power_modulo n row.digits row.generator (n - 1) in
    let a = and_parts (ltb 2 n && ltb n (2 ^ row.digits) && eqb (product row.factors) (n - 1) && eqb w 1) (are_factors known row row.factors) t in
    let b = and_parts (ltb 2 n && ltb n (2 ^ row.digits) && eqb (product row.factors) (n - 1)) (eqb w 1) a.0 in
    let c = and_parts (ltb 2 n && ltb n (2 ^ row.digits)) (eqb (product row.factors) (n - 1)) b.0 in
    let d = and_parts (ltb 2 n) (ltb n (2 ^ row.digits)) c.0 in
    let two = ltb-true 2 n d.0 in
    let one : 1 < n = omega arith in
    let bound = ltb-true n (2 ^ row.digits) d.1 in
    let f : n - 1 < 2 ^ row.digits = omega arith in
    let e = power_modulo-is n row.digits row.generator (n - 1) one f in
    generated row.generator n (all_factors row.factors) two (factors_are known row row.factors one bound h a.1)
    (product_all row.factors ∙ eqb-true (product row.factors) (n - 1) c.1) (sym e ∙ eqb-true w 1 b.1)

rows_are : (known : List ℕ) (rows : List Row) (n : ℕ) → AllGenerated known → certifies_from known rows n ≡ true → IsGenerated n
unfolding certifies_from AllGenerated
rows_are known [] n h t = known_is n known h t
rows_are known (row ∷ rows) n h t =
    let ps = and_parts (is_row known row) (certifies_from (row.number ∷ known) rows n) t in
    rows_are (row.number ∷ known) rows n (row_is known row h ps.0, h) ps.1

pub certified_generated : (rows : List Row) (n : ℕ) → certifies rows n ≡ true → IsGenerated n
unfolding AllGenerated
certified_generated rows n t = rows_are (2 ∷ []) rows n (two_generated, tt) t

pub certified : (rows : List Row) (n : ℕ) → certifies rows n ≡ true → IsPrime n
certified rows n t = generated_prime n (certified_generated rows n t)
