-- Contents octets of INTEGERs that aren't negative.
use Rattle.std.specs.Prelude.{Bool, List, cond, false, length, not, pos, refl, true, ℕ, [], ◌&&◌, ◌-ℤ◌, ◌<◌, ◌==◌, ◌^◌, ◌∷◌, ◌≡◌, ◌≤◌, nat_lt}
use Rattle.std.specs.Int.Digits.{AllBelowBase}
use Rattle.std.proofs.Common.{arith, inl, inr}
use Rattle.std.proofs.Math.Nat.{pow-le-pow_right}
use Rattle.std.proofs.lemmas.Bool.{cases_lt, le-ltb, lt-ltb, ltb-false, ltb-true, ne_eqb, not-true}
use Rattle.std.proofs.lemmas.Int.{ints}
use Rattle.std.proofs.lemmas.Int.Digits.{number_lt}
use Rattle.asn1_core.specs.Binds.{and_true, neither}
use Rattle.asn1_core.specs.Twos.{is_negative, is_shortest, number, signed}
use Rattle.ecdsa.specs.Der.{IsInteger}
use Rattle.ecdsa.specs.Signature.{is_natural, number_of_octets}
use Rattle.ecdsa.proofs.OneForm.{natural_least}

-- ---- their form

pub natural_is : (contents : List ℕ) → is_natural contents ≡ true → (is_shortest contents ≡ true) × (is_negative contents ≡ false)
natural_is [] h = absurd cc
natural_is (x ∷ []) h =
    let l = ltb-true x 128 h in
    (refl, le-ltb 127 x (omega arith))
natural_is (x ∷ y ∷ ys) h =
    let p = and_true (nat_lt x 128) (not (x == 0 && nat_lt y 128)) h in
    let l = ltb-true x 128 p.0 in
    (rw (not-true (x == 0 && nat_lt y 128) p.1, ne_eqb x 255 (λ e. omega arith)) refl, le-ltb 127 x (omega arith))

natural_from : (contents : List ℕ) → is_shortest contents ≡ true → is_negative contents ≡ false → is_natural contents ≡ true
natural_from [] h k = absurd cc
natural_from (x ∷ []) h k =
    let l = ltb-false 127 x k in
    lt-ltb x 128 (omega arith)
natural_from (x ∷ y ∷ ys) h k =
    let l = ltb-false 127 x k in
    rw (lt-ltb x 128 (omega arith), (neither (x == 0 && nat_lt y 128) (x == 255 && nat_lt 127 y) h).0) refl

-- ---- their numbers

pub signed_is : (contents : List ℕ) → is_negative contents ≡ false → signed contents ≡ pos (number contents)
signed_is contents e = rw e refl

not_both : (n m r : ℕ) → n < m → pos n -ℤ pos m ≡ pos r → ⊥
not_both n m r l e = omega (arith, ints)

number_by : (b : Bool) (n m r : ℕ) → n < m → cond b (pos n -ℤ pos m) (pos n) ≡ pos r → (b ≡ false) × (n ≡ r)
number_by true n m r l e = absurd (not_both n m r l e)
number_by false n m r l e = (refl, cc)

pub integer_is : (contents : List ℕ) (x : ℕ) → AllBelowBase 256 contents → is_shortest contents ≡ true → signed contents ≡ pos x → IsInteger x contents
integer_is contents x below h e =
    let n = number_by (is_negative contents) (number contents) (256 ^ length contents) x (number_lt 256 contents below) e in
    record { shortest = natural_from contents h n.0; number = n.1 }

pub integer_short : (contents : List ℕ) (x : ℕ) → IsInteger x contents → x < 2 ^ 521 → length contents < 68
integer_short [] x h l = omega arith
integer_short (a ∷ []) x h l = omega arith
integer_short (a ∷ b ∷ ys) x h l =
    let m = natural_least a b ys h.shortest in
    let e : number_of_octets (a ∷ b ∷ ys) ≡ x = h.number in
    elim (cases_lt (length ys) 66) [
      | inl k ↦ omega arith
      | inr k ↦
          let p : 256 ^ 66 ≤ 256 ^ length ys = pow-le-pow_right {n = 256} (omega arith) k in
          absurd (omega (arith, m, p, e, l))
    ]
