use Rattle.std.proofs.Common.{ap, ◌∙◌, sym}
use Rattle.name_parts.proofs.Found.{arcs_of_first, its_arcs}
use Rattle.name_parts.proofs.types.arcs_in.Goals as goal

pub returns-in-Some : goal.returns-in-Some
returns-in-Some c = ap its_arcs (sym c.in-Some.is ∙ c.row_named.ensures) ∙ arcs_of_first c.args.table.now c.args.name.now

pub returns-in-None : goal.returns-in-None
returns-in-None c = ap its_arcs (sym c.in-None.is ∙ c.row_named.ensures) ∙ arcs_of_first c.args.table.now c.args.name.now
