-- The order of numbers by their octets without leading zeros: by their count, and then from the highest on.
use Rattle.std.proofs.Common.{◌≡◌, ◌∙◌, ℕ, zero, suc, ◌+◌, ◌*◌, ◌^◌, ◌<◌, ◌≤◌, Bool, true, false, List, [], ◌∷◌, refl, sym, ap, arith, subst}
use Rattle.std.specs.Prelude.{nat_lt, length}
use Rattle.std.specs.declared.cmp.Ordering.{Ordering}
use Rattle.std.specs.declared.cmp.Ordering.TheVariants.{Less, Equal, Greater}
use Rattle.std.specs.Ordering.{is_lt, nat_cmp, ordering_then}
use Rattle.std.specs.Cmp.Lexicographic.{slice_cmp}
use Rattle.std.proofs.Math.Nat.{pow-suc, mul-le-mul_right}
use Rattle.std.proofs.lemmas.Bool.{lt-ltb, le-ltb, ne_eqb}
use Rattle.std.proofs.lemmas.Cmp.{ranked, by_ranked}
use Rattle.asn1_core.proofs.Signed.{number_below, number_cons}
use Rattle.asn1_core.proofs.SignedOrder.{RanksNumber, same_length}
use Rattle.asn1_core.specs.Arcs.{are_below}
use Rattle.asn1_core.specs.Twos.{number, without_zeros}
use Rattle.asn1_core.specs.Unsigned.{number_without}

one_power : (j : ℕ) → 1 ≤ 256 ^ j
one_power zero = omega arith
one_power (suc j) = subst (λ (x : ℕ). 1 ≤ x) (sym (pow-suc 256 j)) (omega (arith, one_power j))

powers : (i j : ℕ) → i ≤ j → 256 ^ i ≤ 256 ^ j
powers zero j l = one_power j
powers (suc i) zero l = absurd (omega arith)
powers (suc i) (suc j) l =
    subst (λ (x : ℕ). x ≤ 256 ^ suc j) (sym (pow-suc 256 i))
    (subst (λ (x : ℕ). 256 ^ i * 256 ≤ x) (sym (pow-suc 256 j)) (mul-le-mul_right 256 (powers i j (omega arith))))

-- a first octet that isn't zero
at_least : (b : ℕ) (bytes : List ℕ) → 256 ^ length bytes ≤ number (suc b ∷ bytes)
at_least b bytes =
    let one : 1 ≤ suc b = omega arith in
    subst (λ (x : ℕ). 256 ^ length bytes ≤ x) (sym (number_cons (suc b) bytes)) (omega (arith, mul-le-mul_right (256 ^ length bytes) one))

without_suc : (b : ℕ) (bytes : List ℕ) → without_zeros (suc b ∷ bytes) ≡ suc b ∷ bytes
without_suc b bytes = rw (ne_eqb (suc b) 0 (λ e. omega arith)) refl

-- fewer octets than another number has without leading zeros
fewer : (a b : List ℕ) → are_below 256 a ≡ true → length a < length (without_zeros b) → number a < number b
fewer a [] h l = absurd (omega arith)
fewer a (zero ∷ bytes) h l =
    let same : number (0 ∷ bytes) ≡ number bytes = number_cons 0 bytes ∙ omega arith in
    subst (λ (x : ℕ). number a < x) (sym same) (fewer a bytes h l)
fewer a (suc b ∷ bytes) h l =
    let short : length a < suc (length bytes) = subst (λ (x : List ℕ). length a < length x) (without_suc b bytes) l in
    omega (arith, number_below a h, powers (length a) (length bytes) (omega arith), at_least b bytes)

ranks : (a b : List ℕ) → are_below 256 (without_zeros a) ≡ true → are_below 256 (without_zeros b) ≡ true
    → RanksNumber (ordering_then (nat_cmp (length (without_zeros a)) (length (without_zeros b))) (slice_cmp nat_cmp (without_zeros a) (without_zeros b)))
    (number (without_zeros a)) (number (without_zeros b))
ranks a b h k =
    let x = without_zeros a in
    let y = without_zeros b in
    by_ranked (length x < length y) (length x ≡ length y) (length y < length x) (nat_cmp (length x) (length y))
    (ranked (length x) (length y) (nat_cmp (length x) (length y)) refl)
    (λ f l. subst (λ (o : Ordering). RanksNumber (ordering_then o (slice_cmp nat_cmp x y)) (number x) (number y)) (sym f)
    (subst (λ (n : ℕ). number x < n) (sym (number_without b)) (fewer x b h l)))
    (λ f l. subst (λ (o : Ordering). RanksNumber (ordering_then o (slice_cmp nat_cmp x y)) (number x) (number y)) (sym f) (same_length x y h k l))
    (λ f l. subst (λ (o : Ordering). RanksNumber (ordering_then o (slice_cmp nat_cmp x y)) (number x) (number y)) (sym f)
    (subst (λ (n : ℕ). number y < n) (sym (number_without a)) (fewer y a k l)))

decides : (o : Ordering) (m n : ℕ) → RanksNumber o m n → is_lt o ≡ nat_lt m n
decides Less m n h = sym (lt-ltb m n h)
decides Equal m n h = sym (le-ltb m n (omega arith))
decides Greater m n h = sym (le-ltb m n (omega arith))

pub less : (a b x y : List ℕ) (o : Ordering) → x ≡ without_zeros a → y ≡ without_zeros b → are_below 256 x ≡ true → are_below 256 y ≡ true
    → o ≡ ordering_then (nat_cmp (length x) (length y)) (slice_cmp nat_cmp x y) → is_lt o ≡ nat_lt (number a) (number b)
less a b x y o e f h k c =
    ap is_lt
    (c ∙ ap (λ (z : List ℕ). ordering_then (nat_cmp (length z) (length y)) (slice_cmp nat_cmp z y)) e
    ∙ ap (λ (z : List ℕ). ordering_then (nat_cmp (length (without_zeros a)) (length z)) (slice_cmp nat_cmp (without_zeros a) z)) f)
    ∙ decides _ _ _ (ranks a b (subst (λ (z : List ℕ). are_below 256 z ≡ true) e h) (subst (λ (z : List ℕ). are_below 256 z ≡ true) f k))
    ∙ ap (λ (n : ℕ). nat_lt n (number (without_zeros b))) (number_without a) ∙ ap (λ (n : ℕ). nat_lt (number a) n) (number_without b)
