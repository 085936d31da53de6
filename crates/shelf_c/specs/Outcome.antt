-- What a call leaves in the buffer of its caller.
use Rattle.std.specs.Prelude.{◌≡◌, ◌⊎◌, ◌≤◌, ◌<◌, ◌++◌, ℕ, List, drop, length}
use Rattle.command_files.specs.Run.{all_limit}
use Rattle.command_run.specs.Status.{exit_code, status_of}
use Rattle.command_run.specs.declared.status.Ending.{Ending}
use Rattle.command_run.specs.declared.status.Status.{Status}
use Rattle.command_run.specs.declared.status.Status.TheVariants.{OutOfMemory, TooLong}
use Rattle.shelf_c.specs.declared.outcome.Outcome.{Outcome}

-- the octets are at the front of the buffer, and after them what was there before; the number is that of the status
pub record IsPut (octets old new : List ℕ) (status : Status) (number : ℕ) : Type 0 where
  pub fits : length octets ≤ length old
  pub ends : number ≡ exit_code status
  pub there : new ≡ octets ++ drop (length octets) old

-- there is too little room for the octets, the buffer is as it was, and the number is 8
pub record IsLeftOut (octets old new : List ℕ) (number : ℕ) : Type 0 where
  pub beyond : length old < length octets
  pub ends : number ≡ 8
  pub kept : new ≡ old

-- an answer's text, and after it its complaint, each counted
pub record IsPutAnswer (ending : Ending) (text complaint old new : List ℕ) (o : Outcome) : Type 0 where
  pub count : o.length ≡ length text
  pub told : o.told ≡ length complaint
  pub put : IsPut (text ++ complaint) old new (status_of ending) o.status ⊎ IsLeftOut (text ++ complaint) old new o.status

-- an answer
pub record IsAnswered (Gives : Ending → List ℕ → List ℕ → Type 0) (old new : List ℕ) (o : Outcome) : Type 0 where
  pub ending : Ending
  pub text : List ℕ
  pub complaint : List ℕ
  pub given : Gives ending text complaint
  pub put : IsPutAnswer ending text complaint old new o

-- none, with this status, and the buffer is as it was
pub record IsUnanswered (status : Status) (old new : List ℕ) (o : Outcome) : Type 0 where
  pub ends : o.status ≡ exit_code status
  pub count : o.length ≡ 0
  pub told : o.told ≡ 0
  pub kept : new ≡ old

-- an answer, unless memory runs out
abbrev pub IsAnsweredOrNot : (Ending → List ℕ → List ℕ → Type 0) → List ℕ → List ℕ → Outcome → Type 0
IsAnsweredOrNot Gives old new o = IsUnanswered OutOfMemory old new o ⊎ IsAnswered Gives old new o

-- the inputs, with so many octets in all, are too long, or are answered unless memory runs out
abbrev pub EndsSo : (Ending → List ℕ → List ℕ → Type 0) → ℕ → List ℕ → List ℕ → Outcome → Type 0
EndsSo Gives size old new o = ((all_limit < size) × IsUnanswered TooLong old new o) ⊎ ((size ≤ all_limit) × IsAnsweredOrNot Gives old new o)
