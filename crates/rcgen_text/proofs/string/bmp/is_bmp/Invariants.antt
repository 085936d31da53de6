use Rattle.std.proofs.Common.{◌≡◌, length}
use Rattle.rcgen_text.specs.Strings.{is_bmp}
use Rattle.rcgen_text.proofs.string.bmp.is_bmp.Given as goal

abbrev pub invariant-loop-rest : goal.invariant-loop-rest
invariant-loop-rest l = is_bmp l.rest ≡ is_bmp l.octets

abbrev pub decreases-loop-rest : goal.decreases-loop-rest
decreases-loop-rest l = length l.rest
