use Rattle.std.proofs.Common.{sym, ◌∙◌}
use Rattle.pkix_rules.proofs.OfOctets.{of_request}
use Rattle.pkix_rules.proofs.request.request_rules.Goals as goal

pub returns : goal.returns
returns c =
    of_request c.args.message.now c.in-Some.info _ c.in_ok-found.found.items
    (sym c.in_ok-info.ensures ∙ c.in-Some.is) c.is_strict.ensures c.in_ok-found.ensures
