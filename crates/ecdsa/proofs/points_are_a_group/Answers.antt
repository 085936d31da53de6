use Rattle.std.proofs.Common.{◌-◌, sym}
use Rattle.ecdsa.specs.Curves.{field_prime, coefficient_a, coefficient_b, sum, order_bits}
use Rattle.ecdsa.proofs.Sums.{sum_first}
use Rattle.ecdsa.proofs.Associativity.{minus, minus_is_on, opposites, closed, commutes, associative}
use Rattle.ecdsa.proofs.Repeated.{multiple_is}
use Rattle.ecdsa.proofs.Points.{is_curve, point_on, on_point}
use Rattle.ecdsa.proofs.points_are_a_group.Goals as goal

pub returns-clause-closed : goal.returns-clause-closed
returns-clause-closed c = λ curve P Q h k. on_point curve (sum curve P Q) (closed (is_curve curve) P Q (point_on curve P h) (point_on curve Q k))

pub returns-clause-neutral : goal.returns-clause-neutral
returns-clause-neutral c = λ curve P. sym (sum_first (field_prime curve) (coefficient_a curve) P)

pub returns-clause-opposite : goal.returns-clause-opposite
returns-clause-opposite c = λ curve P h.
    let p = field_prime curve in
    let a = coefficient_a curve in
    let b = coefficient_b curve in
    let o = point_on curve P h in
    (minus p P, (on_point curve (minus p P) (minus_is_on p a b P o), opposites p a b P o))

pub returns-clause-commutative : goal.returns-clause-commutative
returns-clause-commutative c = λ curve P Q h k. commutes (is_curve curve) P Q (point_on curve P h) (point_on curve Q k)

pub returns-clause-associative : goal.returns-clause-associative
returns-clause-associative c = λ curve P Q R h k l. associative (is_curve curve) P Q R (point_on curve P h) (point_on curve Q k) (point_on curve R l)

pub returns-clause-multiple : goal.returns-clause-multiple
returns-clause-multiple c = λ curve k P h l. multiple_is (is_curve curve) (order_bits curve) k P (point_on curve P h) l
