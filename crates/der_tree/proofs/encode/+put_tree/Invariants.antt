use Rattle.std.proofs.Common.{◌≡◌, drop}
use Rattle.der_tree.specs.View.{depth, plain, plain_list}
use Rattle.der_tree.proofs.Measuring.{Written}
use Rattle.der_tree.proofs.encode.+put_tree.Given as goal

abbrev pub decreases-put_tree : goal.decreases-put_tree
decreases-put_tree g l = depth (plain l.tree.now)

abbrev pub invariant-loop-child : goal.invariant-loop-child
invariant-loop-child g l = record {
  room : l.out.room ≡ l.initial.out.room;
  moved : l.out.moved ≡ l.initial.out.moved;
  written : Written (plain_list (drop l.child-index l.child-items)) (plain_list l.child-items) l.initial.out.items l.out.items l.initial.steps l.steps l.sizes.items l.initial.before l.before;
}
