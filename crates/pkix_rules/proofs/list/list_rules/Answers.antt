use Rattle.std.proofs.Common.{sym, ◌∙◌}
use Rattle.pkix_rules.proofs.OfOctets.{of_list}
use Rattle.pkix_rules.proofs.list.list_rules.Goals as goal

pub returns : goal.returns
returns c =
    of_list c.args.message.now _ c.in-Some.list c.in_ok-key.key _ c.in_ok-found.found.items
    (sym c.in_ok-list.ensures ∙ c.in-Some.is) c.in_ok-key.ensures c.is_strict.ensures c.in_ok-found.ensures
