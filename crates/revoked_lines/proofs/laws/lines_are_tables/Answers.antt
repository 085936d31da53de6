use Rattle.revoked_lines.proofs.Tables.{lines_are_tables}
use Rattle.revoked_lines.proofs.laws.lines_are_tables.Goals as goal

pub returns : goal.returns
returns c = lines_are_tables
