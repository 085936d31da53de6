-- The fields of what is signed, one by one: each by its place, and one that may be left out by its identifier octet too.
use Rattle.std.specs.Prelude.{ℕ, Bool, true, false, cond, List, [], ◌∷◌, ◌++◌, ◌==◌, codes}
use Rattle.std.specs.List.{list_any}
use Rattle.shelf_explain.specs.FieldParts.{field_lines, other_at}
use Rattle.shelf_explain.specs.Lines.{line}
use Rattle.shelf_explain.specs.PartTexts.{parts_text}
use Rattle.shelf_explain.specs.Parts.{Place, begins_with}
use Rattle.shelf_explain.specs.Tables.{Row}

abbrev pub is_one_of : List ℕ → List ℕ → Bool
is_one_of starts octets = list_any (begins_with octets) starts

-- the element may be that of a field that begins so; a required field has no such octets
unfoldable pub is_of : List ℕ → List ℕ → Bool
is_of [] octets = true
is_of (start ∷ starts) octets = is_one_of (start ∷ starts) octets

unfoldable pub missing_of : List ℕ → List ℕ → List ℕ
missing_of name [] = line (codes "  ") name (codes "missing")
missing_of name (start ∷ starts) = []

unfoldable pub missing_line : Row → List ℕ
missing_line row = missing_of row.name row.starts

unfoldable pub row_lines : Row → Place → List ℕ
row_lines row p = field_lines row.field row.name p

-- the field, where the next element is one, or that it is missing
unfoldable pub step_lines : Row → List Place → List ℕ
step_lines row [] = missing_line row
step_lines row (p ∷ ps) = cond (is_of row.starts p.octets) (row_lines row p) []

-- the elements after it
unfoldable pub step_left : Row → List Place → List Place
step_left row [] = []
step_left row (p ∷ ps) = cond (is_of row.starts p.octets) ps (p ∷ ps)

-- the fields that are left, and the elements that are left
unfoldable pub rows_lines : List Row → List Place → List ℕ
rows_lines [] ps = parts_text [] other_at ps
rows_lines (row ∷ rows) ps = step_lines row ps ++ rows_lines rows (step_left row ps)
