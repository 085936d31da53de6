use Rattle.std.proofs.Common.{◌≡◌, ◌^◌, ◌-◌, min, take}
use Rattle.std.specs.List.{sum_by}
use Rattle.path_revocation.specs.Limits.{point_count}
use Rattle.path_revocation.proofs.limits.points_count.Given as goal

abbrev pub invariant-loop-point : goal.invariant-loop-point
invariant-loop-point l = l.count ≡ min (sum_by point_count (take l.point-index l.points)) (2 ^ 64 - 1)
