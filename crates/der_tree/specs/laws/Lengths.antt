-- Lengths, written and read.
use Rattle.std.specs.Prelude.{List, None, Option, Some, cond, drop, false, length, nat_lt, refl, suc, take, true, zero, ℕ, [], ◌%◌, ◌*◌, ◌++◌, ◌+◌, ◌-◌}
use Rattle.std.specs.Prelude.{◌/◌, ◌<◌, ◌==◌, ◌^◌, ◌∷◌, ◌≡◌, ◌≤◌}
use Rattle.std.proofs.Common.{ap, append_assoc, arith, inl, inr, subst, sym, ◌∙◌}
use Rattle.std.proofs.lemmas.Bool.{cases_eq, eqb-false, le-ltb, lt-ltb, ltb-false, ltb-true, ne_eqb}
use Rattle.std.proofs.lemmas.List.{append-nil, drop_at, length-append, length-take-le, take-append-drop, take_at}
use Rattle.asn1_core.specs.Base128.{digits, digits_more, digits_suc, digits_zero, falls, lead, positive}
use Rattle.asn1_core.specs.Binds.{bind_some, kept_unless, kept, some_is, ◌>>=◌}
use Rattle.der_tree.specs.Element.{length_at, length_octets, length_of, number_octets, number_of}

fall256 : (n p : ℕ) → n < p * 256 → n / 256 < p
fall256 n p l = omega arith

pub number_step : (high b n : ℕ) (bytes : List ℕ) → high < 2 ^ 56 → b < 256 → high * 256 + b ≡ n → number_of high (b ∷ bytes) ≡ number_of n bytes
unfolding number_of
number_step high b n bytes p q e = rw (lt-ltb high (2 ^ 56) p, lt-ltb b 256 q, e) refl

pub number_nil : (n : ℕ) → number_of n [] ≡ Some n
unfolding number_of
number_nil n = refl

number_again : (k n : ℕ) (bytes : List ℕ) → n < 256 ^ k → n < 2 ^ 64 → number_of 0 (digits 256 0 k n ++ bytes) ≡ number_of n bytes
number_again k zero bytes l m = ap (λ (x : List ℕ). number_of 0 (x ++ bytes)) (digits_zero 256 0 k)
number_again zero (suc n) bytes l m = absurd (omega arith)
number_again (suc k) (suc n) bytes l m =
    ap (λ (y : List ℕ). number_of 0 (y ++ bytes)) (digits_suc 256 0 k (suc n) (omega arith))
    ∙ ap (number_of 0) (append_assoc (digits 256 0 k (suc n / 256)) ((0 + suc n % 256) ∷ []) bytes)
    ∙ number_again k (suc n / 256) ((0 + suc n % 256) ∷ bytes) (falls 256 0 fall256 (suc n) k l) (omega arith)
    ∙ number_step (suc n / 256) (0 + suc n % 256) (suc n) bytes (omega arith) (omega arith) (omega arith)

pub lead_number : (k n : ℕ) (bytes : List ℕ) → 0 < n → n < 256 ^ k → lead 0 (digits 256 0 k n ++ bytes) ≡ 0 → ⊥
lead_number k zero bytes p l e = omega arith
lead_number zero (suc n) bytes p l e = omega arith
lead_number (suc k) (suc n) bytes p l e =
    let f : lead 0 (digits 256 0 k (suc n / 256) ++ ((0 + suc n % 256) ∷ bytes)) ≡ 0 =
    sym (ap (λ (y : List ℕ). lead 0 (y ++ bytes)) (digits_suc 256 0 k (suc n) (omega arith))
    ∙ ap (lead 0) (append_assoc (digits 256 0 k (suc n / 256)) ((0 + suc n % 256) ∷ []) bytes)) ∙ e in
    elim (cases_eq (suc n / 256) 0) [
      | inl e0 ↦ let q : lead 0 (digits 256 0 k 0 ++ ((0 + suc n % 256) ∷ bytes)) ≡ 0 =
          ap (λ (x : ℕ). lead 0 (digits 256 0 k x ++ ((0 + suc n % 256) ∷ bytes))) (sym e0) ∙ f in
          let r : 0 + suc n % 256 ≡ 0 = ap (λ (y : List ℕ). lead 0 (y ++ ((0 + suc n % 256) ∷ bytes))) (sym (digits_zero 256 0 k)) ∙ q in omega arith
      | inr ne ↦ lead_number k (suc n / 256) ((0 + suc n % 256) ∷ bytes) (positive (suc n / 256) ne) (falls 256 0 fall256 (suc n) k l) f
    ]

pub length_of_is : (bytes : List ℕ) (n : ℕ) → (lead 0 bytes ≡ 0 → ⊥) → number_of 0 bytes ≡ Some n → 128 ≤ n → length_of bytes ≡ Some n
unfolding length_of
length_of_is [] n h e l = absurd (h refl)
length_of_is (b ∷ bytes) n h e l = rw (ne_eqb b 0 h, e, le-ltb n 128 l) refl

length_of_again : (n : ℕ) → 128 ≤ n → n < 2 ^ 64 → length_of (number_octets n) ≡ Some n
length_of_again n l m =
    length_of_is (number_octets n) n
    (λ e. lead_number 8 n [] (omega arith) (omega arith) (ap (lead 0) (append-nil (digits 256 0 8 n)) ∙ e))
    (ap (number_of 0) (sym (append-nil (digits 256 0 8 n))) ∙ number_again 8 n [] (omega arith) m ∙ number_nil n) l

pub long_again : (front rest : List ℕ) (n : ℕ) → length_of front ≡ Some n → length_at ((128 + length front) ∷ (front ++ rest)) ≡ Some (n, rest)
unfolding length_at
long_again front rest n e =
    let k : (128 + length front) - 128 ≡ length front = omega arith in
    rw (
      le-ltb (128 + length front) 128 (omega arith),
      k,
      le-ltb (length (front ++ rest)) (length front) (omega (arith, length-append front rest)),
      take_at front rest (length front) refl,
      drop_at front rest (length front) refl,
      e,
    ) refl

pub length_again : (n : ℕ) (rest : List ℕ) → n < 2 ^ 64 → length_at (length_octets n ++ rest) ≡ Some (n, rest)
unfolding length_octets length_at
length_again n rest l =
    elim (nat_lt n 128) as (λ t. nat_lt n 128 ≡ t → length_at (cond t (n ∷ []) ((128 + length (number_octets n)) ∷ number_octets n) ++ rest)
    ≡ Some (n, rest)) [
      | true ↦ λ t. rw t refl
      | false ↦ λ t. long_again (number_octets n) rest n (length_of_again n (ltb-false n 128 t) l)
    ] refl

number_takes : (high : ℕ) (bytes : List ℕ) (n : ℕ) → high < 2 ^ 64 → (high ≡ 0 → lead 0 bytes ≡ 0 → ⊥) → number_of high bytes ≡ Some n
    → (digits 256 0 8 high ++ bytes ≡ digits 256 0 8 n) × (n < 2 ^ 64)
unfolding number_of
number_takes high [] n l z e =
    let same : high ≡ n = some_is high n e in
    (append-nil (digits 256 0 8 high) ∙ ap (digits 256 0 8) same, omega arith)
number_takes high (b ∷ bytes) n l z e =
    let g = kept (nat_lt high (2 ^ 56)) (cond (nat_lt b 256) (number_of (high * 256 + b) bytes) None) n e in
    let k = kept (nat_lt b 256) (number_of (high * 256 + b) bytes) n g.1 in
    let p = ltb-true high (2 ^ 56) g.0 in
    let q = ltb-true b 256 k.0 in
    let up : 0 < high * 256 + b = positive (high * 256 + b) (λ h. z (omega arith) (omega arith)) in
    let d : (high * 256 + b) / 256 ≡ high = omega arith in
    let m : 0 + (high * 256 + b) % 256 ≡ b = omega arith in
    let below : high < 256 ^ 7 = omega arith in
    let w : digits 256 0 8 (high * 256 + b) ≡ digits 256 0 8 high ++ b ∷ [] =
    digits_suc 256 0 7 (high * 256 + b) up
    ∙ ap (λ (x : ℕ). digits 256 0 7 ((high * 256 + b) / 256) ++ x ∷ []) m
    ∙ ap (λ (x : ℕ). digits 256 0 7 x ++ b ∷ []) d
    ∙ ap (λ (x : List ℕ). x ++ b ∷ []) (sym (digits_more 256 0 fall256 7 high below)) in
    let r = number_takes (high * 256 + b) bytes n (omega arith) (λ h. absurd (omega arith)) k.1 in
    (sym (append_assoc (digits 256 0 8 high) (b ∷ []) bytes) ∙ ap (λ (x : List ℕ). x ++ bytes) (sym w) ∙ r.0, r.1)

length_of_takes : (bytes : List ℕ) (n : ℕ) → length_of bytes ≡ Some n → (bytes ≡ number_octets n) × (128 ≤ n) × (n < 2 ^ 64)
unfolding length_of
length_of_takes [] n e = absurd cc
length_of_takes (b ∷ bytes) n e =
    let k = kept_unless (b == 0) (number_of 0 (b ∷ bytes) >>= λ n. cond (nat_lt n 128) None (Some n)) n e in
    let x = bind_some (number_of 0 (b ∷ bytes)) (λ n. cond (nat_lt n 128) None (Some n)) n k.1 in
    let g = kept_unless (nat_lt x.0 128) (Some x.0) n x.2 in
    let same : x.0 ≡ n = some_is x.0 n g.1 in
    let t = number_takes 0 (b ∷ bytes) x.0 (omega arith) (λ h. eqb-false b 0 k.0) x.1 in
    let low = ltb-false x.0 128 g.0 in (
      ap (λ (y : List ℕ). y ++ b ∷ bytes) (sym (digits_zero 256 0 8)) ∙ t.0
          ∙ ap number_octets same,
      subst (λ (y : ℕ). 128 ≤ y) same low,
      subst (λ (y : ℕ). y < 2 ^ 64) same t.1,
    )

pub short_octets : (n : ℕ) → n < 128 → length_octets n ≡ n ∷ []
unfolding length_octets
short_octets n l = rw (lt-ltb n 128 l) refl

pub long_octets : (n : ℕ) → 128 ≤ n → length_octets n ≡ (128 + length (number_octets n)) ∷ number_octets n
unfolding length_octets
long_octets n l = rw (le-ltb n 128 l) refl

long_takes : (b : ℕ) (bytes : List ℕ) (n : ℕ) (rest : List ℕ) → 128 ≤ b → b - 128 ≤ length bytes → length_of (take (b - 128) bytes) ≡ Some n
    → drop (b - 128) bytes ≡ rest → (b ∷ bytes ≡ length_octets n ++ rest) × (n < 2 ^ 64)
long_takes b bytes n rest l m e f =
    let t = length_of_takes (take (b - 128) bytes) n e in
    let len : length (number_octets n) ≡ b - 128 = ap length (sym t.0) ∙ length-take-le (b - 128) bytes m in
    let head : b ≡ 128 + length (number_octets n) = omega arith in
    let tail : bytes ≡ number_octets n ++ rest = sym (take-append-drop (b - 128) bytes) ∙ ap (λ (x : List ℕ). x ++ drop (b - 128) bytes) t.0
    ∙ ap (λ (x : List ℕ). number_octets n ++ x) f in (
      ap (λ (x : ℕ). x ∷ bytes) head ∙ ap (λ (x : List ℕ). (128 + length (number_octets n)) ∷ x) tail
          ∙ ap (λ (x : List ℕ). x ++ rest) (sym (long_octets n t.1)),
      t.2,
    )

pub length_takes : (bytes : List ℕ) (n : ℕ) (rest : List ℕ) → length_at bytes ≡ Some (n, rest) → (bytes ≡ length_octets n ++ rest) × (n < 2 ^ 64)
unfolding length_at
length_takes [] n rest e = absurd cc
length_takes (b ∷ bytes) n rest e =
    elim (nat_lt b 128) as (λ t. nat_lt b 128 ≡ t → ◌≡◌ {A = Option (ℕ × List ℕ)}
    (cond t (Some (b, bytes)) (cond (nat_lt (length bytes) (b - 128)) None (length_of (take (b - 128) bytes) >>= λ n. Some (n, drop (b - 128) bytes))))
    (Some (n, rest)) → (b ∷ bytes ≡ length_octets n ++ rest) × (n < 2 ^ 64)) [
      | true ↦ λ t f.
          let same : ◌≡◌ {A = ℕ × List ℕ} (b, bytes) (n, rest) = some_is (b, bytes) (n, rest) f in
          let low = ltb-true b 128 t in
          subst (λ (p : ℕ × List ℕ). (b ∷ bytes ≡ length_octets p.0 ++ p.1) × (p.0 < 2 ^ 64)) same
          (ap (λ (x : List ℕ). x ++ bytes) (sym (short_octets b low)), omega arith)
      | false ↦ λ t f.
          let k = kept_unless (nat_lt (length bytes) (b - 128)) (length_of (take (b - 128) bytes) >>= λ n. Some (n, drop (b - 128) bytes)) (n, rest) f in
          let x = bind_some (length_of (take (b - 128) bytes)) (λ n. Some (n, drop (b - 128) bytes)) (n, rest) k.1 in
          let same : ◌≡◌ {A = ℕ × List ℕ} (x.0, drop (b - 128) bytes) (n, rest) = some_is (x.0, drop (b - 128) bytes) (n, rest) x.2 in
          subst (λ (p : ℕ × List ℕ). (b ∷ bytes ≡ length_octets p.0 ++ p.1) × (p.0 < 2 ^ 64)) same
          (long_takes b bytes x.0 (drop (b - 128) bytes) (ltb-false b 128 t) (ltb-false (length bytes) (b - 128) k.0) x.1 refl)
    ] refl e
