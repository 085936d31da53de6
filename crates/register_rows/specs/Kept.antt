-- What a store shows that keeps events.
use Rattle.std.specs.Prelude.{◌≡◌, List, IsTrue}
use Rattle.sqlite_trees.specs.View.{View, IsClean}
use Rattle.sqlite_trees.specs.declared.store.Shape.TheVariants.{Table}
use Rattle.register_record.specs.declared.event.Event.{Event}
use Rattle.register_rows.specs.Rows.{rows_of}

-- nothing is pending, and table 0 has the rows of these events and no other
pub record Holds (v : View) (es : List Event) : Type 0 where
  pub shape : v.shape 0 ≡ Table
  pub rows : v.trees 0 ≡ rows_of es
  pub settled : v.trees ≡ v.committed
  pub shapes : v.shape ≡ v.committed_shape
  pub reals : v.reals ≡ v.committed_reals

-- the same of a store that is clean and open
abbrev pub Keeps : View → List Event → Type 0
Keeps v es = IsClean v → IsTrue v.is_open → Holds v es
