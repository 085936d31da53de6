use Rattle.std.proofs.Common.{length}
use Rattle.chain_check.specs.Answers.{AreViews}
use Rattle.chain_check.proofs.chain.chain_views.Given as goal

-- the views so far are those of what comes before the rest
abbrev pub invariant-loop-rest : goal.invariant-loop-rest
invariant-loop-rest l = AreViews l.views.items l.chain l.rest

abbrev pub decreases-loop-rest : goal.decreases-loop-rest
decreases-loop-rest l = length l.rest
