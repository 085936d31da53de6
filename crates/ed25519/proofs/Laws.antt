-- The laws about points, in the specification's form of the curve's equation.
use Rattle.std.proofs.Common.{◌≡◌, ◌≢◌, ℕ, ◌*◌, ◌%◌, ◌<◌, List, refl, sym, ◌∙◌, ap, Some}
use Rattle.std.proofs.Math.Nat.{zero-mod}
use Rattle.ed25519.specs.Field.{p, plus, minus}
use Rattle.ed25519.specs.Curve.{Point, IsOnCurve, d, add, decode_point}
use Rattle.ed25519.proofs.Roots.{square_is}
use Rattle.ed25519.proofs.Complete.{OnCurve, first_denominator, second_denominator}
use Rattle.ed25519.proofs.Agreement.{decoded_shown, denominator_1, denominator_2, sum_on}

from_law : (P : Point) → IsOnCurve P → OnCurve P.x P.y
unfolding IsOnCurve OnCurve
from_law P h = rw (square_is P.x, square_is P.y) at h

to_law : (P : Point) → OnCurve P.x P.y → IsOnCurve P
unfolding IsOnCurve OnCurve
to_law P h = rw (square_is P.x, square_is P.y) h

pub denominators : (P Q : Point) → IsOnCurve P → IsOnCurve Q
    → (plus 1 ((d * P.x * Q.x * P.y * Q.y) % p) ≢ 0) × (minus 1 ((d * P.x * Q.x * P.y * Q.y) % p) ≢ 0)
denominators P Q h k =
    let e : ℕ = d * P.x * Q.x * P.y * Q.y in (
      λ z. first_denominator P.x P.y Q.x Q.y e (from_law P h) (from_law Q k) refl (sym (denominator_1 e) ∙ ap (λ y. y % p) z ∙ zero-mod p),
      λ z. second_denominator P.x P.y Q.x Q.y e (from_law P h) (from_law Q k) refl (sym (denominator_2 e) ∙ ap (λ y. y % p) z ∙ zero-mod p),
    )

pub sum_is_on : (P Q : Point) → IsOnCurve P → IsOnCurve Q → IsOnCurve (add P Q)
sum_is_on P Q h k = to_law (add P Q) (sum_on P Q (from_law P h) (from_law Q k))

pub decoded_is_on : (octets : List ℕ) (P : Point) → decode_point octets ≡ Some P → IsOnCurve P × (P.x < p) × (P.y < p)
decoded_is_on octets P h =
    let s = decoded_shown octets P h in
    (to_law P s.on_curve, s.represents.x_below, s.represents.y_below)
