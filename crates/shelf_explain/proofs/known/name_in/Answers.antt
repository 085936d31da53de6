use Rattle.std.proofs.Common.{ap, ◌∙◌, sym}
use Rattle.shelf_explain.proofs.Found.{name_of_first, named}
use Rattle.shelf_explain.proofs.known.name_in.Goals as goal

pub returns-in-Some : goal.returns-in-Some
returns-in-Some c = ap named (sym c.in-Some.is ∙ c.first_row.ensures) ∙ name_of_first c.args.table.now c.args.arcs.now

pub returns-in-None : goal.returns-in-None
returns-in-None c = ap named (sym c.in-None.is ∙ c.first_row.ensures) ∙ name_of_first c.args.table.now c.args.arcs.now
