use Rattle.std.proofs.Common.{◌≡◌, ◌-◌, ◌/◌, ◌^◌}
use Rattle.modular.specs.Numbers.{value}
use Rattle.ed25519.specs.Extended.{extended_multiple}
use Rattle.ed25519.specs.Elements.{coordinates, completed_coordinates}
use Rattle.ed25519.proofs.point.ExtendedPoint.multiple.Given as goal

abbrev pub invariant-loop-i : goal.invariant-loop-i
invariant-loop-i l = completed_coordinates l.sum ≡ extended_multiple (l.digits - l.i) (value l.factor / 2 ^ l.i) (coordinates l.self)
