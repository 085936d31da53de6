-- The values of columns that borrow their octets.
use Rattle.std.specs.Prelude.{[], ◌∷◌}
use Rattle.sqlite_value.specs.Order.{Row}
use Rattle.sqlite_value.specs.Value.{owned}
use Rattle.register_rows.specs.declared.writing.Columns.{Columns}

abbrev pub given : Columns → Row
given c = owned c.kind ∷ owned c.detail ∷ owned c.serial ∷ owned c.number ∷ owned c.time ∷ owned c.until ∷ owned c.body ∷ []
