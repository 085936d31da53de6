-- Digits of a fraction, one at a time.
use Rattle.std.proofs.Common.{◌≡◌, ℕ, zero, suc, ◌+◌, ◌-◌, ◌*◌, ◌/◌, ◌%◌, ◌^◌, ◌<◌, ◌≤◌, List, [], ◌∷◌, ◌++◌, sym, ap, ◌∙◌, subst, arith, append_assoc, append-nil}
use Rattle.std.proofs.Math.Nat.{pow-zero, pow-le-pow_right}
use Rattle.std.proofs.lemmas.Nat.{div_below, mod_below}
use Rattle.asn1_core.specs.Base128.{positive}
use Rattle.asn1_core.specs.GeneralizedTime.{fraction, fraction_digits, fraction_zero, fraction_step, fraction_is, digits_below, pow_positive, next_pow}

pub pow_most : (k : ℕ) → k ≤ 9 → 10 ^ k ≤ 1_000_000_000
pow_most k l = pow-le-pow_right (let p : 0 < 10 = omega arith in p) l

pub next_below : (a w places m : ℕ) → w ≡ 10 ^ (places - 1) → 0 < places → a < 10 → m < 10 ^ (places - 1) → a * w + m < 10 ^ places
next_below a w places m e p l h =
    let next : places - 1 + 1 ≡ places = omega arith in
    subst (λ (x : ℕ). a * x + m < 10 ^ places) (sym e) (subst (λ (x : ℕ). a * 10 ^ (places - 1) + m < 10 ^ x) next (digits_below a (places - 1) m l h))

-- digits are left while the number isn't 0
pub places_left : (places n : ℕ) → n < 10 ^ places → (n ≡ 0 → ⊥) → 0 < places
places_left zero n l p = absurd (let m : n < 1 = subst (λ (x : ℕ). n < x) (pow-zero 10) l in p (omega arith))
places_left (suc k) n l p = omega arith

pub pow_is_positive : (w k : ℕ) → w ≡ 10 ^ k → 0 < w
pow_is_positive w k e = subst (λ (x : ℕ). 0 < x) (sym e) (pow_positive k)

pub digit_below : (places n w : ℕ) → w ≡ 10 ^ (places - 1) → n < 10 ^ places → (n ≡ 0 → ⊥) → n / w < 10
digit_below places n w e l p =
    let some = places_left places n l p in
    let next : places ≡ places - 1 + 1 = omega arith in
    let whole : 10 ^ places ≡ 10 ^ (places - 1) * 10 = ap (λ (x : ℕ). 10 ^ x) next ∙ next_pow (places - 1) in
    div_below n w 10 (pow_is_positive w (places - 1) e) (omega arith)

pub left_below : (places n w : ℕ) → w ≡ 10 ^ (places - 1) → n % w < 10 ^ (places - 1)
left_below places n w e = subst (λ (x : ℕ). n % w < x) e (mod_below n w (pow_is_positive w (places - 1) e))

-- one more digit
pub written_more : (before : List ℕ) (places n w : ℕ) → w ≡ 10 ^ (places - 1) → n < 10 ^ places → (n ≡ 0 → ⊥) → (before ++ (48 + n / w) ∷ []) ++ fraction_digits (places - 1) (n % w) ≡ before ++ fraction_digits places n
written_more before places n w e l p =
    let some = places_left places n l p in
    append_assoc before ((48 + n / w) ∷ []) (fraction_digits (places - 1) (n % w))
    ∙ ap (λ (x : ℕ). before ++ (48 + n / x) ∷ fraction_digits (places - 1) (n % x)) e
    ∙ ap (λ (x : List ℕ). before ++ x) (sym (fraction_step places (places - 1) n (omega arith) (positive n p)))

-- no more digits
pub written_all : (before now : List ℕ) (places left n : ℕ) → now ++ fraction_digits places left ≡ (before ++ 46 ∷ []) ++ fraction_digits 9 n → left ≡ 0 → (n ≡ 0 → ⊥) → now ≡ before ++ fraction n
written_all before now places left n e z p =
    sym (append-nil now)
    ∙ ap (λ (x : List ℕ). now ++ x) (sym (fraction_zero places))
    ∙ ap (λ (x : ℕ). now ++ fraction_digits places x) (sym z)
    ∙ e ∙ append_assoc before (46 ∷ []) (fraction_digits 9 n)
    ∙ ap (λ (x : List ℕ). before ++ x) (sym (fraction_is n (positive n p)))
