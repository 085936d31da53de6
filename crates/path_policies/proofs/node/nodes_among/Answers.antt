use Rattle.std.proofs.Common.{rules}
use Rattle.std.proofs.lemmas.Fn.{filter_same}
use Rattle.path_policies.specs.Policies.{is_among}
use Rattle.path_policies.proofs.node.nodes_among.Goals as goal

pub returns : goal.returns
returns c = filter_same _ (λ v. is_among v.valid_policy c.args.parents.now) _ (λ x b f' k. search rules) _ _ c.retain.ensures.filtered
