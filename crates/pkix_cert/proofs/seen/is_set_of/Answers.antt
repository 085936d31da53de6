use Rattle.std.proofs.Common.{sym, ◌∙◌}
use Rattle.der_tree.specs.SetOf.{next_set}
use Rattle.pkix_cert.proofs.Seeing.{set_whole}
use Rattle.pkix_cert.proofs.seen.is_set_of.Goals as goal

pub returns-in-Some : goal.returns-in-Some
unfolding next_set
returns-in-Some g c =
    c.are_shown_in_order.ensures ∙ sym (set_whole g.T.Form.codec c.args.min _ c.in-Some.elements.complete c.in-Some.elements.elements c.in-Some.ensures)
