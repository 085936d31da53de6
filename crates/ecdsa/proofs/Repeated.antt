-- Multiples of points: they are sums of so many points, and two of them are found in one pass.
use Rattle.std.proofs.Common.{◌≡◌, ℕ, zero, suc, ◌+◌, ◌-◌, ◌/◌, ◌%◌, ◌^◌, ◌<◌, ◌≤◌, Bool, true, false, ◌||◌, eqb, inl, inr, refl, sym, ◌∙◌, ap, arith}
use Rattle.std.proofs.Math.Nat.{pow-zero, pow-suc}
use Rattle.std.proofs.lemmas.Bool.{cases_eq, eq-eqb, ne_eqb}
use Rattle.ecdsa.specs.Group.{Point, Infinity, add, next, multiple, repeated, IsChosen, IsOn, IsCurve}
use Rattle.ecdsa.proofs.Sums.{sum_first, sum_second}
use Rattle.ecdsa.proofs.Multiples.{multiple_none, multiple_more}
use Rattle.ecdsa.proofs.Associativity.{commutes, closed, associative}

pub next_on : {p a b : ℕ} → IsCurve p a b → (digit : Bool) (P Q : Point) → IsOn p a b P → IsOn p a b Q → IsOn p a b (next p a digit P Q)
next_on {p} {a} {b} e true P Q h k = closed e (add p a P P) Q (closed e P P h h) k
next_on {p} {a} {b} e false P Q h k = closed e P P h h

pub multiple_on : {p a b : ℕ} → IsCurve p a b → (digits k : ℕ) (P : Point) → IsOn p a b P → IsOn p a b (multiple p a digits k P)
unfolding multiple IsOn
multiple_on {p} {a} {b} e zero k P h = tt
multiple_on {p} {a} {b} e (suc digits) k P h = next_on e (eqb (k % 2) 1) (multiple p a digits (k / 2) P) P (multiple_on e digits (k / 2) P h) h

-- ---- sums of sums
-- (A + B) + (C + D) is (A + C) + (B + D)
pub exchanged : {p a b : ℕ} → IsCurve p a b → (A B C D : Point) → IsOn p a b A → IsOn p a b B → IsOn p a b C → IsOn p a b D
    → add p a (add p a A B) (add p a C D) ≡ add p a (add p a A C) (add p a B D)
exchanged {p} {a} {b} e A B C D ha hb hc hd =
    let cd = closed e C D hc hd in
    let bd = closed e B D hb hd in
    associative e A B (add p a C D) ha hb cd
    ∙ ap (add p a A) (sym (associative e B C D hb hc hd) ∙ ap (λ (T : Point). add p a T D) (commutes e B C hb hc) ∙ associative e C B D hc hb hd)
    ∙ sym (associative e A C (add p a B D) ha hc bd)

-- A + B twice, and C more
with_first : {p a b : ℕ} → IsCurve p a b → (A B C : Point) → IsOn p a b A → IsOn p a b B → IsOn p a b C
    → add p a (add p a A B) C ≡ add p a (add p a A C) B
with_first {p} {a} {b} e A B C ha hb hc =
    associative e A B C ha hb hc ∙ ap (add p a A) (commutes e B C hb hc) ∙ sym (associative e A C B ha hc hb)

-- a step of two multiples in one pass
pub chosen_both : (p a : ℕ) (i j : Bool) (P Q T : Point) → i ≡ true → j ≡ true → T ≡ add p a P Q → IsChosen p a i j P Q T
unfolding IsChosen
chosen_both p a i j P Q T h k e = rw (h, k) e

pub chosen_first : (p a : ℕ) (i j : Bool) (P Q T : Point) → i ≡ true → j ≡ false → T ≡ P → IsChosen p a i j P Q T
unfolding IsChosen
chosen_first p a i j P Q T h k e = rw (h, k) e

either_second : (p a : ℕ) (j : Bool) (P Q T : Point) → T ≡ Q → IsChosen p a false j P Q T
unfolding IsChosen
either_second p a true P Q T e = e
either_second p a false P Q T e = tt

pub chosen_second : (p a : ℕ) (i j : Bool) (P Q T : Point) → i ≡ false → T ≡ Q → IsChosen p a i j P Q T
chosen_second p a i j P Q T h e = rw h (either_second p a j P Q T e)

pub joint_next : {p a b : ℕ} → IsCurve p a b → (i j : Bool) (A B P Q T : Point) → IsOn p a b A → IsOn p a b B → IsOn p a b P → IsOn p a b Q
    → IsChosen p a i j P Q T → next p a (i || j) (add p a A B) T ≡ add p a (next p a i A P) (next p a j B Q)
unfolding IsChosen
joint_next {p} {a} {b} e true true A B P Q T ha hb hp hq t =
    let aa = closed e A A ha ha in
    let bb = closed e B B hb hb in
    ap (λ (S : Point). add p a S T) (exchanged e A B A B ha hb ha hb) ∙ ap (add p a (add p a (add p a A A) (add p a B B))) t
    ∙ exchanged e (add p a A A) (add p a B B) P Q aa bb hp hq
joint_next {p} {a} {b} e true false A B P Q T ha hb hp hq t =
    let aa = closed e A A ha ha in
    let bb = closed e B B hb hb in
    ap (λ (S : Point). add p a S T) (exchanged e A B A B ha hb ha hb) ∙ ap (add p a (add p a (add p a A A) (add p a B B))) t
    ∙ with_first e (add p a A A) (add p a B B) P aa bb hp
joint_next {p} {a} {b} e false true A B P Q T ha hb hp hq t =
    let aa = closed e A A ha ha in
    let bb = closed e B B hb hb in
    ap (λ (S : Point). add p a S T) (exchanged e A B A B ha hb ha hb) ∙ ap (add p a (add p a (add p a A A) (add p a B B))) t
    ∙ associative e (add p a A A) (add p a B B) Q aa bb hq
joint_next {p} {a} {b} e false false A B P Q T ha hb hp hq t = exchanged e A B A B ha hb ha hb

-- before the first step
pub joint_none : (p a digits j k : ℕ) (P Q : Point) → add p a (multiple p a (digits - digits) j P) (multiple p a (digits - digits) k Q) ≡ Infinity
joint_none p a digits j k P Q =
    ap (λ (S : Point). add p a S (multiple p a (digits - digits) k Q)) (multiple_none p a digits j P)
    ∙ ap (add p a Infinity) (multiple_none p a digits k Q) ∙ sym (sum_first p a Infinity)

-- a step at a place
pub joint_more : {p a b : ℕ} → IsCurve p a b → (digits place j k : ℕ) (P Q T : Point) → 0 < place → place ≤ digits → IsOn p a b P → IsOn p a b Q
    → IsChosen p a (eqb (j / 2 ^ (place - 1) % 2) 1) (eqb (k / 2 ^ (place - 1) % 2) 1) P Q T
    → next p a (eqb (j / 2 ^ (place - 1) % 2) 1 || eqb (k / 2 ^ (place - 1) % 2) 1)
    (add p a (multiple p a (digits - place) (j / 2 ^ place) P) (multiple p a (digits - place) (k / 2 ^ place) Q)) T
    ≡ add p a (multiple p a (digits - (place - 1)) (j / 2 ^ (place - 1)) P) (multiple p a (digits - (place - 1)) (k / 2 ^ (place - 1)) Q)
joint_more {p} {a} {b} e digits place j k P Q T pos l hp hq t =
    let A = multiple p a (digits - place) (j / 2 ^ place) P in
    let B = multiple p a (digits - place) (k / 2 ^ place) Q in
    let d = eqb (k / 2 ^ (place - 1) % 2) 1 in
    joint_next e (eqb (j / 2 ^ (place - 1) % 2) 1) d A B P Q T
    (multiple_on e (digits - place) (j / 2 ^ place) P hp) (multiple_on e (digits - place) (k / 2 ^ place) Q hq) hp hq t
    ∙ ap (λ (S : Point). add p a S (next p a d B Q)) (multiple_more p a digits place j P pos l)
    ∙ ap (add p a (multiple p a (digits - (place - 1)) (j / 2 ^ (place - 1)) P)) (multiple_more p a digits place k Q pos l)

-- ---- the sum of k points
pub repeated_on : {p a b : ℕ} → IsCurve p a b → (k : ℕ) (P : Point) → IsOn p a b P → IsOn p a b (repeated p a k P)
unfolding repeated IsOn
repeated_on {p} {a} {b} e zero P h = tt
repeated_on {p} {a} {b} e (suc k) P h = closed e (repeated p a k P) P (repeated_on e k P h) h

repeated_suc : (p a k : ℕ) (P : Point) → repeated p a (suc k) P ≡ add p a (repeated p a k P) P
unfolding repeated
repeated_suc p a k P = refl

pub repeated_sum : {p a b : ℕ} → IsCurve p a b → (j k : ℕ) (P : Point) → IsOn p a b P
    → repeated p a (j + k) P ≡ add p a (repeated p a j P) (repeated p a k P)
unfolding repeated
repeated_sum {p} {a} {b} e j zero P h =
    let z : j + 0 ≡ j = omega arith in
    ap (λ (n : ℕ). repeated p a n P) z ∙ sum_second p a (repeated p a j P)
repeated_sum {p} {a} {b} e j (suc k) P h =
    let s : j + suc k ≡ suc (j + k) = omega arith in
    ap (λ (n : ℕ). repeated p a n P) s ∙ ap (λ (S : Point). add p a S P) (repeated_sum e j k P h)
    ∙ associative e (repeated p a j P) (repeated p a k P) P (repeated_on e j P h) (repeated_on e k P h) h

next_odd : (p a k : ℕ) (P Q : Point) → k % 2 ≡ 1 → next p a (eqb (k % 2) 1) P Q ≡ add p a (add p a P P) Q
next_odd p a k P Q h = ap (λ (b : Bool). next p a b P Q) (eq-eqb (k % 2) 1 h)

next_even : (p a k : ℕ) (P Q : Point) → (k % 2 ≡ 1 → ⊥) → next p a (eqb (k % 2) 1) P Q ≡ add p a P P
next_even p a k P Q h = ap (λ (b : Bool). next p a b P Q) (ne_eqb (k % 2) 1 h)

pub multiple_is : {p a b : ℕ} → IsCurve p a b → (digits k : ℕ) (P : Point) → IsOn p a b P → k < 2 ^ digits → multiple p a digits k P ≡ repeated p a k P
unfolding multiple repeated
multiple_is {p} {a} {b} e zero k P h l =
    let o = pow-zero 2 in
    let z : k ≡ 0 = omega (arith, l, o) in
    ap (λ (n : ℕ). repeated p a n P) (sym z)
multiple_is {p} {a} {b} e (suc digits) k P h l =
    let o = pow-suc 2 digits in
    let m : k / 2 < 2 ^ digits = omega (arith, l, o) in
    let R = repeated p a (k / 2) P in
    let i : multiple p a digits (k / 2) P ≡ R = multiple_is e digits (k / 2) P h m in
    let t : add p a R R ≡ repeated p a (k / 2 + k / 2) P = sym (repeated_sum e (k / 2) (k / 2) P h) in
    ap (λ (S : Point). next p a (eqb (k % 2) 1) S P) i ∙
    elim (cases_eq (k % 2) 1) [
      | inl q ↦
          let d : suc (k / 2 + k / 2) ≡ k = omega arith in
          next_odd p a k R P q ∙ ap (λ (S : Point). add p a S P) t ∙ sym (repeated_suc p a (k / 2 + k / 2) P) ∙ ap (λ (n : ℕ). repeated p a n P) d
      | inr n ↦
          let d : k / 2 + k / 2 ≡ k = omega arith in
          next_even p a k R P n ∙ t ∙ ap (λ (z : ℕ). repeated p a z P) d
    ]
