use Rattle.std.proofs.Common.{◌≡◌, ◌+◌, ◌*◌, ◌≤◌, length}
use Rattle.std.specs.List.{prefix_len}
use Rattle.asn1_core.specs.StringTypes.{scalar, pairs}
use Rattle.asn1_core.proofs.text.sets.BmpStringType.valid_len.Given as goal

abbrev pub invariant-loop-rest : goal.invariant-loop-rest
invariant-loop-rest l = (length l.octets + 2 * prefix_len scalar (pairs l.rest) ≡ 2 * prefix_len scalar (pairs l.octets) + length l.rest) × (length l.rest ≤ length l.octets)

abbrev pub decreases-loop-rest : goal.decreases-loop-rest
decreases-loop-rest l = length l.rest
