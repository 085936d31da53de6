-- Numbers in base 128, as in subidentifiers and high tag numbers, written and read (X.690, 8.1.2.4.2, 8.19.2).
use Rattle.std.specs.Prelude.{◌≡◌, ℕ, zero, suc, ◌+◌, ◌-◌, ◌*◌, ◌/◌, ◌%◌, ◌^◌, ◌<◌, ◌≤◌, true, false, cond, if◌then◌else◌, nat_lt, ◌==◌, List, [], ◌∷◌, ◌++◌, Option, Some, None, refl}
use Rattle.std.proofs.Common.{sym, ap, ◌∙◌, subst, append_assoc, arith, inl, inr}
use Rattle.std.proofs.Math.Nat.{pow-suc, pow-zero}
use Rattle.std.proofs.lemmas.Bool.{cases_eq, eqb-false, ne_eqb, lt-ltb, le-ltb, ltb-true, ltb-false}
use Rattle.asn1_core.specs.Binds.{some_is, kept, kept_unless}

-- the digits of a number in a base, the highest first, each with something added
unfoldable pub digits : ℕ → ℕ → ℕ → ℕ → List ℕ
digits base mark zero n = []
digits base mark (suc k) n = if n == 0 then [] else digits base mark k (n / base) ++ (mark + n % base) ∷ []

-- base 128, each byte but the last marked
abbrev pub base128 : ℕ → List ℕ
base128 n = digits 128 128 9 (n / 128) ++ (n % 128) ∷ []

-- base 128, after the digits so far, which are below a limit
unfoldable pub digits_at : ℕ → ℕ → List ℕ → Option (ℕ × List ℕ)
digits_at limit high [] = None
digits_at limit high (b ∷ bytes) =
    if nat_lt high limit
    then (if nat_lt b 128 then Some (high * 128 + b, bytes) else if nat_lt b 256 then digits_at limit (high * 128 + (b - 128)) bytes else None)
    else None

unfoldable pub base128_at : ℕ → List ℕ → Option (ℕ × List ℕ)
base128_at limit [] = None
base128_at limit (b ∷ bytes) = if b == 128 then None else digits_at limit 0 (b ∷ bytes)

abbrev pub lead : ℕ → List ℕ → ℕ
lead d [] = d
lead d (b ∷ bytes) = b

pub digits_zero : (base mark k : ℕ) → digits base mark k 0 ≡ []
unfolding digits
digits_zero base mark zero = refl
digits_zero base mark (suc k) = refl

pub digits_suc : (base mark k n : ℕ) → 0 < n → digits base mark (suc k) n ≡ digits base mark k (n / base) ++ (mark + n % base) ∷ []
unfolding digits
digits_suc base mark k n l = rw (ne_eqb n 0 (λ e. omega arith)) refl

-- more digits than it has
module _ (base mark : ℕ) (fall : (n p : ℕ) → n < p * base → n / base < p) where
  pub falls : (n k : ℕ) → n < base ^ suc k → n / base < base ^ k
  falls n k l = fall n (base ^ k) (subst (λ (x : ℕ). n < x) (pow-suc base k) l)

  pub digits_more : (k n : ℕ) → n < base ^ k → digits base mark (suc k) n ≡ digits base mark k n
  digits_more k zero l = digits_zero base mark (suc k) ∙ sym (digits_zero base mark k)
  digits_more zero (suc n) l = absurd (let m : suc n < 1 = subst (λ (x : ℕ). suc n < x) (pow-zero base) l in omega arith)
  digits_more (suc k) (suc n) l =
      digits_suc base mark (suc k) (suc n) (omega arith)
      ∙ ap (λ (x : List ℕ). x ++ (mark + suc n % base) ∷ []) (digits_more k (suc n / base) (falls (suc n) k l))
      ∙ sym (digits_suc base mark k (suc n) (omega arith))

fall128 : (n p : ℕ) → n < p * 128 → n / 128 < p
fall128 n p l = omega arith

pub positive : (n : ℕ) → (n ≡ 0 → ⊥) → 0 < n
positive zero h = absurd (h refl)
positive (suc n) h = omega arith

-- ---- base 128

step_more : (limit high b n : ℕ) (bytes : List ℕ) → high < limit → 128 ≤ b → b < 256 → high * 128 + (b - 128) ≡ n → digits_at limit high (b ∷ bytes) ≡ digits_at limit n bytes
unfolding digits_at
step_more limit high b n bytes p q r e = rw (lt-ltb high limit p, le-ltb b 128 q, lt-ltb b 256 r, e) refl

step_last : (limit high b n : ℕ) (bytes : List ℕ) → high < limit → b < 128 → high * 128 + b ≡ n → digits_at limit high (b ∷ bytes) ≡ Some (n, bytes)
unfolding digits_at
step_last limit high b n bytes p q e = rw (lt-ltb high limit p, lt-ltb b 128 q, e) refl

digits_again : (limit k n : ℕ) (bytes : List ℕ) → n < 128 ^ k → n < limit → digits_at limit 0 (digits 128 128 k n ++ bytes) ≡ digits_at limit n bytes
digits_again limit k zero bytes l m = ap (λ (x : List ℕ). digits_at limit 0 (x ++ bytes)) (digits_zero 128 128 k)
digits_again limit zero (suc n) bytes l m = absurd (omega arith)
digits_again limit (suc k) (suc n) bytes l m =
    let x : ℕ = 128 + suc n % 128 in
    ap (λ (y : List ℕ). digits_at limit 0 (y ++ bytes)) (digits_suc 128 128 k (suc n) (omega arith))
    ∙ ap (digits_at limit 0) (append_assoc (digits 128 128 k (suc n / 128)) ((128 + suc n % 128) ∷ []) bytes)
    ∙ digits_again limit k (suc n / 128) ((128 + suc n % 128) ∷ bytes) (falls 128 128 fall128 (suc n) k l) (omega arith)
    ∙ step_more limit (suc n / 128) (128 + suc n % 128) (suc n) bytes (omega arith) (omega arith) (omega arith) (omega arith)

lead_digits : (k n : ℕ) (bytes : List ℕ) → 0 < n → n < 128 ^ k → lead 128 (digits 128 128 k n ++ bytes) ≡ 128 → ⊥
lead_digits k zero bytes p l e = omega arith
lead_digits zero (suc n) bytes p l e = omega arith
lead_digits (suc k) (suc n) bytes p l e =
    let f : lead 128 (digits 128 128 k (suc n / 128) ++ ((128 + suc n % 128) ∷ bytes)) ≡ 128 =
    sym (ap (λ (y : List ℕ). lead 128 (y ++ bytes)) (digits_suc 128 128 k (suc n) (omega arith)) ∙ ap (lead 128) (append_assoc (digits 128 128 k (suc n / 128)) ((128 + suc n % 128) ∷ []) bytes)) ∙ e in
    elim (cases_eq (suc n / 128) 0) [
      | inl e0 ↦ let q : lead 128 (digits 128 128 k 0 ++ ((128 + suc n % 128) ∷ bytes)) ≡ 128 = ap (λ (x : ℕ). lead 128 (digits 128 128 k x ++ ((128 + suc n % 128) ∷ bytes))) (sym e0) ∙ f in
          let r : 128 + suc n % 128 ≡ 128 = ap (λ (y : List ℕ). lead 128 (y ++ ((128 + suc n % 128) ∷ bytes))) (sym (digits_zero 128 128 k)) ∙ q in omega arith
      | inr ne ↦ lead_digits k (suc n / 128) ((128 + suc n % 128) ∷ bytes) (positive (suc n / 128) ne) (falls 128 128 fall128 (suc n) k l) f
    ]

pub base128_at_is : (limit : ℕ) (bytes : List ℕ) → (lead 128 bytes ≡ 128 → ⊥) → base128_at limit bytes ≡ digits_at limit 0 bytes
unfolding base128_at
base128_at_is limit [] h = absurd (h refl)
base128_at_is limit (b ∷ bytes) h = rw (ne_eqb b 128 h) refl

lead_base128 : (n : ℕ) (bytes : List ℕ) → n / 128 < 128 ^ 9 → lead 128 (digits 128 128 9 (n / 128) ++ ((n % 128) ∷ bytes)) ≡ 128 → ⊥
lead_base128 n bytes l e =
    elim (cases_eq (n / 128) 0) [
      | inl e0 ↦ let q : lead 128 (digits 128 128 9 0 ++ ((n % 128) ∷ bytes)) ≡ 128 = ap (λ (x : ℕ). lead 128 (digits 128 128 9 x ++ ((n % 128) ∷ bytes))) (sym e0) ∙ e in
          let r : n % 128 ≡ 128 = ap (λ (y : List ℕ). lead 128 (y ++ ((n % 128) ∷ bytes))) (sym (digits_zero 128 128 9)) ∙ q in omega arith
      | inr ne ↦ lead_digits 9 (n / 128) ((n % 128) ∷ bytes) (positive (n / 128) ne) l e
    ]

pub base128_again : (limit n : ℕ) (bytes : List ℕ) → n / 128 < limit → n / 128 < 128 ^ 9 → base128_at limit (base128 n ++ bytes) ≡ Some (n, bytes)
base128_again limit n bytes l m =
    ap (base128_at limit) (append_assoc (digits 128 128 9 (n / 128)) ((n % 128) ∷ []) bytes)
    ∙ base128_at_is limit (digits 128 128 9 (n / 128) ++ ((n % 128) ∷ bytes)) (lead_base128 n bytes m)
    ∙ digits_again limit 9 (n / 128) ((n % 128) ∷ bytes) m l
    ∙ step_last limit (n / 128) (n % 128) n bytes l (omega arith) (omega arith)

pub record Read128 (limit high : ℕ) (bytes : List ℕ) (n : ℕ) (rest : List ℕ) : Type 0 where
  pub front : List ℕ
  pub parts : bytes ≡ front ++ rest
  pub one_element : digits 128 128 9 high ++ front ≡ base128 n
  pub below : n < limit * 128

digits_last : (limit high b n : ℕ) (bytes rest : List ℕ) → high < limit → b < 128 → ◌≡◌ {A = Option (ℕ × List ℕ)} (Some (high * 128 + b, bytes)) (Some (n, rest)) → Read128 limit high (b ∷ bytes) n rest
digits_last limit high b n bytes rest l m e =
    let same : ◌≡◌ {A = ℕ × List ℕ} (high * 128 + b, bytes) (n, rest) = some_is (high * 128 + b, bytes) (n, rest) e in
    let n-is : high * 128 + b ≡ n = ap (λ (p : ℕ × List ℕ). p.0) same in
    let r-is : bytes ≡ rest = ap (λ (p : ℕ × List ℕ). p.1) same in
    let q : n / 128 ≡ high = omega arith in
    let r : n % 128 ≡ b = omega arith in
    record {
      front = b ∷ [];
      parts = ap (λ (x : List ℕ). b ∷ x) r-is;
      one_element = ap (λ (x : ℕ). digits 128 128 9 high ++ x ∷ []) (sym r) ∙ ap (λ (x : ℕ). digits 128 128 9 x ++ (n % 128) ∷ []) (sym q);
      below = omega arith;
    }

digits_on : (limit high b n : ℕ) (bytes rest : List ℕ) → limit ≤ 128 ^ 8 → high < limit → 128 ≤ b → b < 256 → (high ≡ 0 → b ≡ 128 → ⊥) → Read128 limit (high * 128 + (b - 128)) bytes n rest → Read128 limit high (b ∷ bytes) n rest
digits_on limit high b n bytes rest lim l p q z r =
    let h : ℕ = high * 128 + (b - 128) in
    let up : 0 < high * 128 + (b - 128) = positive (high * 128 + (b - 128)) (λ e. z (omega arith) (omega arith)) in
    let d : (high * 128 + (b - 128)) / 128 ≡ high = omega arith in
    let m : 128 + (high * 128 + (b - 128)) % 128 ≡ b = omega arith in
    let below : high < 128 ^ 8 = omega arith in
    let w : digits 128 128 9 (high * 128 + (b - 128)) ≡ digits 128 128 9 high ++ b ∷ [] =
    digits_suc 128 128 8 (high * 128 + (b - 128)) up
    ∙ ap (λ (x : ℕ). digits 128 128 8 ((high * 128 + (b - 128)) / 128) ++ x ∷ []) m
    ∙ ap (λ (x : ℕ). digits 128 128 8 x ++ b ∷ []) d
    ∙ ap (λ (x : List ℕ). x ++ b ∷ []) (sym (digits_more 128 128 fall128 8 high below)) in
    record {
      front = b ∷ r.front;
      parts = ap (λ (x : List ℕ). b ∷ x) r.parts;
      one_element = sym (append_assoc (digits 128 128 9 high) (b ∷ []) r.front) ∙ ap (λ (x : List ℕ). x ++ r.front) (sym w) ∙ r.one_element;
      below = r.below;
    }

digits_takes : (limit high : ℕ) (bytes : List ℕ) (n : ℕ) (rest : List ℕ) → limit ≤ 128 ^ 8 → (high ≡ 0 → lead 128 bytes ≡ 128 → ⊥) → digits_at limit high bytes ≡ Some (n, rest) → Read128 limit high bytes n rest
unfolding digits_at
digits_takes limit high [] n rest l z e = absurd cc
digits_takes limit high (b ∷ bytes) n rest l z e =
    let g = kept (nat_lt high limit) (cond (nat_lt b 128) (Some (high * 128 + b, bytes)) (cond (nat_lt b 256) (digits_at limit (high * 128 + (b - 128)) bytes) None)) (n, rest) e in
    let below = ltb-true high limit g.0 in
    elim (nat_lt b 128) as (λ t. nat_lt b 128 ≡ t → cond t (Some (high * 128 + b, bytes)) (cond (nat_lt b 256) (digits_at limit (high * 128 + (b - 128)) bytes) None) ≡ Some (n, rest) → Read128 limit high (b ∷ bytes) n rest) [
      | true ↦ λ t f. digits_last limit high b n bytes rest below (ltb-true b 128 t) f
      | false ↦ λ t f.
          let k = kept (nat_lt b 256) (digits_at limit (high * 128 + (b - 128)) bytes) (n, rest) f in
          let low = ltb-false b 128 t in
          digits_on limit high b n bytes rest l below low (ltb-true b 256 k.0) z
          (digits_takes limit (high * 128 + (b - 128)) bytes n rest l (λ h0. absurd (z (omega arith) (omega arith))) k.1)
    ] refl g.1

pub base128_takes : (limit : ℕ) (bytes : List ℕ) (n : ℕ) (rest : List ℕ) → limit ≤ 128 ^ 8 → base128_at limit bytes ≡ Some (n, rest) → (bytes ≡ base128 n ++ rest) × (n < limit * 128)
unfolding base128_at
base128_takes limit [] n rest l e = absurd cc
base128_takes limit (b ∷ bytes) n rest l e =
    let k = kept_unless (b == 128) (digits_at limit 0 (b ∷ bytes)) (n, rest) e in
    let r = digits_takes limit 0 (b ∷ bytes) n rest l (λ h. eqb-false b 128 k.0) k.1 in
    (r.parts ∙ ap (λ (x : List ℕ). x ++ rest) (ap (λ (x : List ℕ). x ++ r.front) (sym (digits_zero 128 128 9)) ∙ r.one_element), r.below)
