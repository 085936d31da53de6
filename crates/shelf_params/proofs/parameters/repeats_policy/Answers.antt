use Rattle.std.proofs.Common.{ap, not, sym, ◌∙◌}
use Rattle.extension_lookup.specs.Lookup.{are_distinct}
use Rattle.shelf_params.proofs.Repeating.{repeats_is}
use Rattle.shelf_params.proofs.parameters.repeats_policy.Goals as goal

pub returns : goal.returns
returns c =
    ap not (c.are_distinct_arcs.ensures ∙ ap are_distinct c.in_ok-ids.ensures) ∙ sym (repeats_is c.args.policies.now)
