use Rattle.std.proofs.Common.{sym, ◌∙◌}
use Rattle.der_tree.specs.SequenceOf.{next_list}
use Rattle.pkix_cert.proofs.Seeing.{list_whole}
use Rattle.pkix_cert.proofs.seen.is_sequence_of.Goals as goal

pub returns-in-Some : goal.returns-in-Some
unfolding next_list
returns-in-Some g c =
    c.are_shown.ensures ∙ sym (list_whole g.T.Form.codec c.args.min _ c.in-Some.elements.complete c.in-Some.elements.elements c.in-Some.ensures)
