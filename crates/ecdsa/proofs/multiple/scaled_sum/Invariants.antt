use Rattle.std.proofs.Common.{ℕ, ◌-◌, ◌/◌, ◌^◌}
use Rattle.modular.specs.Numbers.{value}
use Rattle.ecdsa.specs.Group.{add, multiple, IsCurve, IsOn}
use Rattle.ecdsa.specs.Elements.{affine_of, OptionElements, OptionFor}
use Rattle.ecdsa.proofs.multiple.scaled_sum.Given as goal

abbrev pub invariant-loop-place : goal.invariant-loop-place
invariant-loop-place g l =
    let p = value l.field.modulus.limbs.now in
    record {
      elements : OptionElements {N = g.row.N} p l.sum;
      stands : (b : ℕ) → IsCurve p (p - 3) b → IsOn p (p - 3) b (affine_of p l.first) → IsOn p (p - 3) b (affine_of p l.second)
          → OptionFor {N = g.row.N} p l.sum (add p (p - 3)
          (multiple p (p - 3) (l.digits - l.place) (value l.first_factor / 2 ^ l.place) (affine_of p l.first))
          (multiple p (p - 3) (l.digits - l.place) (value l.second_factor / 2 ^ l.place) (affine_of p l.second)));
    }
