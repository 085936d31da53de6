use Rattle.std.proofs.Common.{◌≡◌, ◌^◌, ◌-◌, min, take}
use Rattle.std.specs.List.{sum_by}
use Rattle.path_revocation.specs.Limits.{point_size}
use Rattle.path_revocation.proofs.limits.points_size.Given as goal

abbrev pub invariant-loop-point : goal.invariant-loop-point
invariant-loop-point l = l.size ≡ min (sum_by (point_size l.issuer) (take l.point-index l.points)) (2 ^ 64 - 1)
