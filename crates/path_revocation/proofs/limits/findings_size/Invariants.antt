use Rattle.std.proofs.Common.{◌≡◌, ◌^◌, ◌-◌, min, take}
use Rattle.std.specs.List.{sum_by}
use Rattle.path_revocation.specs.Limits.{finding_size}
use Rattle.path_revocation.proofs.limits.findings_size.Given as goal

abbrev pub invariant-loop-finding : goal.invariant-loop-finding
invariant-loop-finding l = l.size ≡ min (sum_by finding_size (take l.finding-index l.findings)) (2 ^ 64 - 1)
