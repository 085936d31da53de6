use Rattle.std.proofs.Common.{◌≡◌, length}
use Rattle.rcgen_text.specs.Strings.{is_universal}
use Rattle.rcgen_text.proofs.string.universal.is_universal.Given as goal

abbrev pub invariant-loop-rest : goal.invariant-loop-rest
invariant-loop-rest l = is_universal l.rest ≡ is_universal l.octets

abbrev pub decreases-loop-rest : goal.decreases-loop-rest
decreases-loop-rest l = length l.rest
