use Rattle.std.proofs.Common.{◌≡◌, ◌≤◌, ◌^◌, None, length}
use Rattle.std.specs.Option.{IfSome}
use Rattle.asn1_core.specs.Dotted.{arcs_from}
use Rattle.asn1_core.proofs.Dotted.{followed}
use Rattle.asn1_core.proofs.oid.arcs_of.Given as goal

-- what is read on from here is the whole
abbrev pub invariant-loop-rest : goal.invariant-loop-rest
invariant-loop-rest l = (followed l.arcs.items (arcs_from l.number l.rest) ≡ arcs_from None l.text) × IfSome l.number (λ n. n ≤ 2 ^ 32)

abbrev pub decreases-loop-rest : goal.decreases-loop-rest
decreases-loop-rest l = length l.rest
