use Rattle.std.proofs.Common.{◌≡◌, ◌^◌, ◌-◌, min, take}
use Rattle.std.specs.List.{sum_by}
use Rattle.path_validation.specs.Names.{base_size}
use Rattle.path_validation.proofs.names.subtrees_size.Given as goal

abbrev pub invariant-loop-subtree : goal.invariant-loop-subtree
invariant-loop-subtree l = l.size ≡ min (sum_by base_size (take l.subtree-index l.subtrees)) (2 ^ 64 - 1)
