-- The group's addition by coordinates, as the code comes to it.
use Rattle.std.proofs.Common.{◌≡◌, ℕ, ◌+◌, ◌-◌, ◌*◌, ◌%◌, ◌^◌, ◌<◌, refl, sym, ◌∙◌, ap, arith}
use Rattle.std.proofs.Math.Nat.{mod-eq_of_lt}
use Rattle.std.proofs.lemmas.Bool.{ne_eqb, eq-eqb}
use Rattle.ecdsa.specs.Group.{Point, Infinity, Affine, difference, inverse, line_x, line_y, chord, tangent, add}
use Rattle.ecdsa.proofs.Congruences.{Same, same_trans, same_from, same_mod, same_add, same_mul, square}

pub three_is : (p one two t : ℕ) → 3 < p → one ≡ 1 → two ≡ 2 * one % p → t ≡ (two + one) % p → t ≡ 3
three_is p one two t more h k l =
    let a : two ≡ 2 = k ∙ ap (λ (x : ℕ). 2 * x % p) h ∙ mod-eq_of_lt (omega arith) in
    l ∙ ap (λ (x : ℕ). (x + one) % p) a ∙ ap (λ (x : ℕ). (2 + x) % p) h ∙ mod-eq_of_lt more

pub tangent_is : (p x y three square' triple rise run i r : ℕ) → three ≡ 3 → square' ≡ x * x % p → triple ≡ three * square' % p
    → rise ≡ difference p triple three → run ≡ 2 * y % p → i ≡ inverse p run → r ≡ rise * i % p → r ≡ tangent p (p - 3) x y
tangent_is p x y three square' triple rise run i r ht hs hp hr hu hi h =
    let st : Same p triple (3 * x ^ 2) =
    same_trans (same_from hp) (same_trans (same_mod p (three * square'))
    (same_mul (same_from ht) (same_trans (same_from hs) (same_trans (same_mod p (x * x)) (same_from (sym (square x))))))) in
    let sr : Same p rise (3 * x ^ 2 + (p - 3)) =
    same_trans (same_from hr) (same_trans (same_mod p (triple + (p - three)))
    (same_add st (same_from (ap (λ (z : ℕ). p - z) ht)))) in
    h ∙ (same_mul sr (same_from (hi ∙ ap (λ (z : ℕ). inverse p z) hu))).remainders

pub sum_chord : (p a x1 y1 x2 y2 m x3 y3 : ℕ) → (x1 ≡ x2 → ⊥) → m ≡ chord p x1 y1 x2 y2
    → x3 ≡ line_x p m x1 x2 → y3 ≡ line_y p m x1 y1 x3
    → Affine x3 y3 ≡ add p a (Affine x1 y1) (Affine x2 y2)
unfolding add
sum_chord p a x1 y1 x2 y2 m x3 y3 n hm hx hy = rw (ne_eqb x1 x2 n, hy, hx, hm) refl

pub sum_tangent : (p a x1 y1 x2 y2 m x3 y3 : ℕ) → x1 ≡ x2 → ((y1 + y2) % p ≡ 0 → ⊥) → m ≡ tangent p a x1 y1
    → x3 ≡ line_x p m x1 x2 → y3 ≡ line_y p m x1 y1 x3
    → Affine x3 y3 ≡ add p a (Affine x1 y1) (Affine x2 y2)
unfolding add
sum_tangent p a x1 y1 x2 y2 m x3 y3 e n hm hx hy = rw (eq-eqb x1 x2 e, ne_eqb ((y1 + y2) % p) 0 n, hy, hx, hm) refl

pub sum_none : (p a x1 y1 x2 y2 : ℕ) → x1 ≡ x2 → (y1 + y2) % p ≡ 0 → Infinity ≡ add p a (Affine x1 y1) (Affine x2 y2)
unfolding add
sum_none p a x1 y1 x2 y2 e z = rw (eq-eqb x1 x2 e, eq-eqb ((y1 + y2) % p) 0 z) refl

pub sum_first : (p a : ℕ) (Q : Point) → Q ≡ add p a Infinity Q
unfolding add
sum_first p a Q = refl

pub sum_second : (p a : ℕ) (P : Point) → P ≡ add p a P Infinity
unfolding add
sum_second p a Infinity = refl
sum_second p a (Affine x y) = refl
