use Rattle.std.proofs.Common.{ap, ◌∙◌, sym}
use Rattle.name_parts.proofs.Found.{kind_of_first, its_kind}
use Rattle.name_parts.proofs.types.kind_in.Goals as goal

pub returns-in-Some : goal.returns-in-Some
returns-in-Some c = ap its_kind (sym c.in-Some.is ∙ c.row_of.ensures) ∙ kind_of_first c.args.table.now c.args.arcs.now

pub returns-in-None : goal.returns-in-None
returns-in-None c = ap its_kind (sym c.in-None.is ∙ c.row_of.ensures) ∙ kind_of_first c.args.table.now c.args.arcs.now
