-- Fields that are pushed one after another.
use Rattle.std.proofs.Common.{◌≡◌, ◌++◌, List, [], ◌∷◌, map, refl, ap}
use Rattle.std.proofs.lemmas.List.{append_assoc, drop_more, drop_all}
use Rattle.shelf_explain.specs.FieldParts.{other_at}
use Rattle.shelf_explain.specs.PartTexts.{parts_text}
use Rattle.shelf_explain.specs.Parts.{Place}
use Rattle.shelf_explain.specs.Rows.{rows_lines, step_left, step_lines}
use Rattle.shelf_explain.specs.Tables.{as_row}
use Rattle.shelf_explain.specs.declared.row.FieldRow.{FieldRow}

pub at_row : (row : FieldRow) (rows : List FieldRow) (ps : List Place)
    → rows_lines (map as_row (row ∷ rows)) ps ≡ step_lines (as_row row) ps ++ rows_lines (map as_row rows) (step_left (as_row row) ps)
unfolding rows_lines
at_row row rows ps = refl

pub at_rows_end : (rows : List FieldRow) (ps : List Place) → rows ≡ [] → rows_lines (map as_row rows) ps ≡ parts_text [] other_at ps
unfolding rows_lines
at_rows_end rows ps e = ap (λ (r : List FieldRow). rows_lines (map as_row r) ps) e

pub ruleset rows = (at_row, at_rows_end, drop_more, drop_all, append_assoc)
