-- The steps of the verification.
use Rattle.std.proofs.Common.{◌≡◌, ℕ, ◌-◌, ◌*◌, ◌/◌, ◌%◌, ◌^◌, ◌<◌, Bool, true, Option, Some, List, length, sym, ◌∙◌, ap}
use Rattle.std.proofs.Math.Nat.{mod-eq_of_lt}
use Rattle.std.proofs.lemmas.Nat.{mul-mod_first}
use Rattle.ecdsa.specs.declared.Curve.{Curve}
use Rattle.ecdsa.specs.Group.{Point, inverse}
use Rattle.ecdsa.specs.Curves.{order, order_bits, base_point, sum, times}
use Rattle.ecdsa.specs.Signature.{number_of_octets}
use Rattle.ecdsa.specs.Ecdsa.{accepts, has_abscissa, is_in_range, is_signature, leftmost_bits}

-- the product of an element and the inverse of s modulo n
scalar_is : (n s s' w x x' u v : ℕ) → s < n → s' ≡ s % n → w ≡ inverse n s' → x' ≡ x % n → u ≡ x' * w % n → v ≡ u → v ≡ x * inverse n s % n
scalar_is n s s' w x x' u v l hs hw hx hu hv =
    let i : w ≡ inverse n s = hw ∙ ap (λ (z : ℕ). inverse n z) (hs ∙ mod-eq_of_lt l) in
    hv ∙ hu ∙ ap (λ (z : ℕ). z * w % n) hx ∙ mul-mod_first x w n ∙ ap (λ (z : ℕ). x * z % n) i

pub accepted_is : (curve : Curve) (result : Bool) (n e r s e' r' s' w x1 x2 u1 u2 : ℕ) (Q R : Point) → n ≡ order curve → r < n → s < n
    → s' ≡ s % n → w ≡ inverse n s' → r' ≡ r % n → e' ≡ e % n → x1 ≡ e' * w % n → u1 ≡ x1 → x2 ≡ r' * w % n → u2 ≡ x2
    → R ≡ sum curve (times curve u1 (base_point curve)) (times curve u2 Q)
    → result ≡ has_abscissa curve r' R → result ≡ accepts curve e Q r s
unfolding accepts
accepted_is curve result n e r s e' r' s' w x1 x2 u1 u2 Q R hn lr ls hs hw hr he h1 k1 h2 k2 hR h =
    let a : u1 ≡ e * inverse (order curve) s % order curve =
    rw hn at (scalar_is n s s' w e e' x1 u1 ls hs hw he h1 k1) in
    let b : u2 ≡ r * inverse (order curve) s % order curve =
    rw hn at (scalar_is n s s' w r r' x2 u2 ls hs hw hr h2 k2) in
    let q : r' ≡ r = hr ∙ mod-eq_of_lt lr in
    h ∙ ap (λ (z : ℕ). has_abscissa curve z R) q
    ∙ ap (λ (P : Point). has_abscissa curve r P) (hR ∙ ap (λ (z : ℕ). sum curve (times curve z (base_point curve)) (times curve u2 Q)) a
    ∙ ap (λ (z : ℕ). sum curve (times curve (e * inverse (order curve) s % order curve) (base_point curve)) (times curve z Q)) b)

pub leftmost_is : (curve : Curve) (digest : List ℕ) (v k digits : ℕ) → v ≡ number_of_octets digest / 2 ^ (8 * (length digest - k))
    → 8 * length digest - digits ≡ 8 * (length digest - k) → digits ≡ order_bits curve → v ≡ leftmost_bits curve digest
unfolding leftmost_bits
leftmost_is curve digest v k digits h e d =
    h ∙ ap (λ (x : ℕ). number_of_octets digest / 2 ^ x) (sym e ∙ ap (λ (x : ℕ). 8 * length digest - x) d)

pub signature_is : (curve : Curve) (result : Bool) (e e' r r' s s' : ℕ) (Q : Point) (key : Option Point) (signature : Option (ℕ × ℕ))
    → key ≡ Some Q → signature ≡ Some (r, s) → is_in_range curve r ≡ true → is_in_range curve s ≡ true → r' ≡ r → s' ≡ s → e' ≡ e
    → result ≡ accepts curve e' Q r' s' → result ≡ is_signature curve e key signature
signature_is curve result e e' r r' s s' Q key signature hk hs kr ks er es ee h =
    rw (hk, hs, kr, ks) (h ∙ ap (λ (z : ℕ). accepts curve z Q r' s') ee ∙ ap (λ (z : ℕ). accepts curve e Q z s') er
    ∙ ap (λ (z : ℕ). accepts curve e Q r z) es)
