use Rattle.std.proofs.Common.{◌-◌, ◌/◌, ◌^◌}
use Rattle.modular.specs.Numbers.{value}
use Rattle.ecdsa.specs.Group.{multiple}
use Rattle.ecdsa.specs.Elements.{affine_of, OptionElements, OptionFor}
use Rattle.ecdsa.proofs.multiple.scaled_multiple.Given as goal

abbrev pub invariant-loop-place : goal.invariant-loop-place
invariant-loop-place g l =
    let p = value l.field.modulus.limbs.now in
    record {
      elements : OptionElements {N = g.row.N} p l.sum;
      stands : OptionFor {N = g.row.N} p l.sum (multiple p (p - 3) (l.digits - l.place) (value l.factor / 2 ^ l.place) (affine_of p l.point));
    }
