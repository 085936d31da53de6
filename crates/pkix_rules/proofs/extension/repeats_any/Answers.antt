use Rattle.std.proofs.Common.{ap, not, sym, ◌∙◌}
use Rattle.pkix_rules.proofs.Repeating.{repeats_is}
use Rattle.pkix_rules.proofs.extension.repeats_any.Goals as goal

pub returns : goal.returns
returns c = ap not c.in_ok-distinct.ensures ∙ sym (repeats_is c.args.extensions.now)
