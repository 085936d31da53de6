use Rattle.std.proofs.Common.{◌≤◌, length, drop}
use Rattle.der_tree.specs.View.{depth, plain, plain_list}
use Rattle.der_tree.proofs.Measuring.{Measured}
use Rattle.der_tree.proofs.measure.+push_sizes.Given as goal

abbrev pub decreases-push_sizes : goal.decreases-push_sizes
decreases-push_sizes g l = depth (plain l.tree.now)

abbrev pub invariant-loop-left : goal.invariant-loop-left
invariant-loop-left g l = record {
  within : l.left ≤ length l.items;
  measured : Measured (plain_list (drop l.left l.items)) l.initial.sizes.items l.sizes.items l.size l.initial.steps l.steps;
}

abbrev pub decreases-loop-left : goal.decreases-loop-left
decreases-loop-left g l = l.left
