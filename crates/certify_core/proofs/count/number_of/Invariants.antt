use Rattle.std.proofs.Common.{◌≡◌, ◌≤◌, length}
use Rattle.certify_core.specs.Counts.{with_digits}
use Rattle.certify_core.proofs.count.number_of.Given as goal

-- what is read on from here is the whole
abbrev pub invariant-loop-rest : goal.invariant-loop-rest
invariant-loop-rest l = record {
  same : with_digits l.number l.rest ≡ with_digits 0 l.digits;
  small : l.number ≤ 100_000;
}

abbrev pub decreases-loop-rest : goal.decreases-loop-rest
decreases-loop-rest l = length l.rest
