-- What is recorded of a step before anything of it is written.
use Rattle.std.specs.Prelude.{◌≡◌, ℕ, Bool, true, false, List, codes, Option, Some, None}
use Rattle.register.specs.declared.error.AppendError.{AppendError}
use Rattle.register.specs.declared.error.AppendError.TheVariants as append
use Rattle.register_record.specs.Following.{may_follow}
use Rattle.register_record.specs.Records.{State, after}
use Rattle.register_record.specs.declared.event.Event.{Event}

-- the record has the step's event, which may follow; it is the same record where the step has none
abbrev pub IsRecorded : Option Event → State → State → Type 0
IsRecorded None old new = new ≡ old
IsRecorded (Some e) old new = (may_follow old e ≡ true) × (new ≡ after old e)

-- the store has what is recorded, since a register whose store lacks it is closed; it is closed or open as before where the step has no event
abbrev pub IsStillOpen : Option Event → Bool → Bool → Type 0
IsStillOpen None old new = new ≡ old
IsStillOpen (Some e) old new = new ≡ false

-- nothing was written, and no file was touched
pub record IsUntouched (held_old held_new : Option (List ℕ → Option (List ℕ))) (output_old output_new : Option (List ℕ)) : Type 0 where
  pub held : held_new ≡ held_old
  pub output : output_new ≡ output_old

-- why an event isn't recorded
abbrev pub append_text : AppendError → List ℕ
append_text append.NotNext = codes "register: the event may not follow; nothing is recorded\n"
append_text append.NumberTooLarge = codes "register: the number of the list is too large\n"
append_text append.Full = codes "register: there is no room for another event\n"
append_text append.Closed = codes "register: a write failed before\n"
append_text (append.Store error) = codes "register: it can't be written; run shelf register check\n"
append_text append.OutOfMemory = codes "memory was refused\n"
