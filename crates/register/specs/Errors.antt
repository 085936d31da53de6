-- Why an event isn't added, and what errors become.
use Rattle.std.specs.Prelude.{◌≡◌, ◌≤◌, ◌^◌, Bool, true, false}
use Rattle.register_record.specs.Following.{may_follow}
use Rattle.register_record.specs.Records.{State}
use Rattle.register_record.specs.declared.event.Event.{Event}
use Rattle.register_rows.specs.Rows.{is_kept}
use Rattle.register_record.specs.declared.record.PushError.{PushError}
use Rattle.register_record.specs.declared.record.PushError.TheVariants as push
use Rattle.register.specs.declared.error.AppendError.{AppendError}
use Rattle.register.specs.declared.error.AppendError.TheVariants as append
use Rattle.register_rows.specs.declared.error.RowError.{RowError}
use Rattle.register_rows.specs.declared.error.RowError.TheVariants as row

abbrev pub of_row : RowError → AppendError
of_row row.NumberTooLarge = append.NumberTooLarge
of_row row.OutOfMemory = append.OutOfMemory

abbrev pub of_push : PushError → AppendError
of_push push.NotNext = append.NotNext
of_push push.Full = append.Full
of_push push.OutOfMemory = append.OutOfMemory

-- the store and memory may fail at any time
abbrev pub ExplainsAppend : Bool → State → Event → AppendError → Type 0
ExplainsAppend closed s e append.NotNext = may_follow s e ≡ false
ExplainsAppend closed s e append.NumberTooLarge = is_kept e ≡ false
ExplainsAppend closed s e append.Full = 2 ^ 62 ≤ s.count
ExplainsAppend closed s e append.Closed = closed ≡ true
ExplainsAppend closed s e (append.Store error) = Unit {0}
ExplainsAppend closed s e append.OutOfMemory = Unit {0}
