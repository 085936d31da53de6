use Rattle.std.specs.Prelude.{◌≡◌, map}
use Rattle.rcgen_certificate.specs.NameConstraints.{base_of}
use Rattle.profile_params.specs.Constraints.{subtree_of_profile}
use Rattle.profile_params.proofs.constraints.general_subtrees.Given as goal

abbrev pub invariant-loop-subtree : goal.invariant-loop-subtree
invariant-loop-subtree l = map base_of l.list.items ≡ map subtree_of_profile l.yielded
