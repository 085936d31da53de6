use Rattle.std.proofs.Common.{◌≡◌, ◌^◌, length}
use Rattle.asn1_core.specs.Base128.{digits_at}
use Rattle.der_tree.specs.Incomplete.{digits_go_on}
use Rattle.der_tree.proofs.window.digits_at.Given as goal

abbrev pub invariant-loop-high : goal.invariant-loop-high
invariant-loop-high l = (digits_at (2 ^ 25) l.high l.rest ≡ digits_at (2 ^ 25) 0 l.bytes) × (digits_go_on (2 ^ 25) l.high l.rest ≡ digits_go_on (2 ^ 25) 0 l.bytes)

abbrev pub decreases-loop-high : goal.decreases-loop-high
decreases-loop-high l = length l.rest
