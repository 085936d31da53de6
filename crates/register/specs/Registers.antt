-- What a store shows that keeps the events of a record.
use Rattle.std.specs.Prelude.{◌≡◌, Bool, true, false, List}
use Rattle.sqlite_value.specs.Order.{Row}
use Rattle.sqlite_trees.specs.View.{View}
use Rattle.register_record.specs.Laws.{is_record}
use Rattle.register_record.specs.Records.{State, record_of}
use Rattle.register_record.specs.declared.event.Event.{Event}
use Rattle.register_rows.specs.Kept.{Keeps}
use Rattle.register_rows.specs.Rows.{rows_of}

-- these are the rows of a record, and it comes to this state
pub record HasRecord (rows : List Row) (s : State) : Type 0 where
  pub events : List Event
  pub rows_are : rows ≡ rows_of events
  pub goes : is_record events ≡ true
  pub state : record_of events ≡ s

-- the store keeps events, which are a record that comes to this state
pub record IsRegister (v : View) (s : State) : Type 0 where
  pub events : List Event
  pub keeps : Keeps v events
  pub goes : is_record events ≡ true
  pub state : record_of events ≡ s

-- unless it is closed
abbrev pub IsOpenRegister : Bool → View → State → Type 0
IsOpenRegister closed v s = closed ≡ false → IsRegister v s
