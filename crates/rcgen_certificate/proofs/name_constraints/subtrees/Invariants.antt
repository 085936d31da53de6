use Rattle.std.specs.Prelude.{◌≡◌, true, take, map}
use Rattle.std.specs.List.{list_all}
use Rattle.pkix_cert.specs.Constraints.{general_subtree}
use Rattle.rcgen_certificate.specs.NameConstraints.{base_of, subtree_value}
use Rattle.rcgen_certificate.proofs.name_constraints.subtrees.Given as goal

abbrev pub invariant-loop-subtree : goal.invariant-loop-subtree
invariant-loop-subtree l = record {
  values : l.values ≡ map (λ s. subtree_value (base_of s)) (take l.subtree-index l.list);
  formed : list_all general_subtree.has_tree l.values ≡ true;
}
