use Rattle.path_names.proofs.Subtrees.{excluded_alike, permitted_alike, unprocessed_alike, within_alike}
use Rattle.path_names.proofs.subtree.matching_names_are_constrained_alike.Goals as goal

pub returns : goal.returns
returns c = record {
  within = λ t m n h. within_alike m n h t;
  permitted = λ ts m n h. permitted_alike m n h ts;
  excluded = λ ts m n h. excluded_alike m n h ts;
  unprocessed = λ ts m n h. unprocessed_alike m n h ts;
}
