use Rattle.std.proofs.Common.{rules, not}
use Rattle.std.proofs.lemmas.Fn.{filter_same}
use Rattle.path_policies.specs.Levels.{is_mapped}
use Rattle.path_policies.proofs.mapping.unmapped.Goals as goal

pub returns : goal.returns
returns c = filter_same _ (λ v. not (is_mapped c.args.mappings.now v.valid_policy)) _ (λ x b f' k. search rules) _ _ c.retain.ensures.filtered
