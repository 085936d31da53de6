-- What is found in a store that is opened.
use Rattle.std.specs.Prelude.{◌≡◌, ◌≢◌, ℕ, true, false, List, ◌∷◌, ◌++◌, length, Some}
use Rattle.sqlite_value.specs.Order.{Row}
use Rattle.sqlite_trees.specs.View.{View, IsClean}
use Rattle.sqlite_trees.specs.declared.store.Shape.TheVariants.{Table}
use Rattle.register_record.specs.Following.{may_follow}
use Rattle.register_record.specs.Laws.{is_record}
use Rattle.register_record.specs.Records.{State, after, record_of}
use Rattle.register_record.specs.declared.event.Event.{Event}
use Rattle.register_rows.specs.Rows.{is_kept, row_of, rows_of}
use Rattle.register.specs.declared.error.OpenError.{OpenError}
use Rattle.register.specs.declared.error.OpenError.TheVariants as failure

-- why the record that comes to s ends before this row, which so many others come before
abbrev pub EndsAt : ℕ → Row → State → OpenError → Type 0
EndsAt before row s (failure.NoEvent n) = (n ≡ before) × ((e : Event) → is_kept e ≡ true → row ≢ row_of before e)
EndsAt before row s (failure.NotNext n) = (n ≡ before) × ((e : Event) × ((row ≡ row_of before e) × (may_follow s e ≡ false)))
EndsAt before row s _ = Unit {0}

-- an event may follow, whose row this is
abbrev pub GoesOn : ℕ → Row → State → State → Type 0
GoesOn before row s t = (e : Event) × ((row ≡ row_of before e) × ((may_follow s e ≡ true) × (t ≡ after s e)))

-- the rows so far are those of these events, and nothing but cursors has changed
pub record IsReading (old new : View) (es : List Event) : Type 0 where
  pub same : new ≡ record old { cursors = new.cursors }
  pub shape : old.shape 0 ≡ Table
  pub rest : List Row
  pub cursor : new.cursors 0 ≡ Some rest
  pub rows : rows_of es ++ rest ≡ old.trees 0

-- all rows are those of these events, and nothing but cursors has changed
pub record HasRead (old new : View) (es : List Event) : Type 0 where
  pub same : new ≡ record old { cursors = new.cursors }
  pub shape : new.shape 0 ≡ Table
  pub rows : new.trees 0 ≡ rows_of es

-- events that are a record, which comes to this state
pub record IsRecordOf (es : List Event) (s : State) : Type 0 where
  pub goes : is_record es ≡ true
  pub state : record_of es ≡ s

-- so far, so many events of a record were read
pub record ReadsRecord (old new : View) (count : ℕ) (s : State) : Type 0 where
  pub events : List Event
  pub found : IsRecordOf events s
  pub count_is : length events ≡ count
  pub reading : IsClean new → IsReading old new events

-- the events of a record were read, and no row is left
pub record FoundRecord (old new : View) (s : State) : Type 0 where
  pub events : List Event
  pub found : IsRecordOf events s
  pub read : IsClean new → HasRead old new events

-- the first rows are those of so many events, which are a record that comes to this state, and this row comes after them
pub record GoesTo (rows : List Row) (count : ℕ) (s : State) (row : Row) : Type 0 where
  pub events : List Event
  pub found : IsRecordOf events s
  pub count_is : length events ≡ count
  pub rest : List Row
  pub rows_are : rows ≡ rows_of events ++ row ∷ rest

-- why these rows aren't those of a record
abbrev pub Refuses : List Row → OpenError → Type 0
Refuses rows (failure.NoEvent n) = (s : State) × (row : Row) × GoesTo rows n s row × ((e : Event) → is_kept e ≡ true → row ≢ row_of n e)
Refuses rows (failure.NotNext n) = (s : State) × (row : Row) × GoesTo rows n s row × ((e : Event) × ((row ≡ row_of n e) × (may_follow s e ≡ false)))
Refuses rows _ = Unit {0}
