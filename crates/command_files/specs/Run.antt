-- What a run over files does.
use Rattle.std.specs.Prelude.{◌≡◌, ◌⊎◌, ℕ, ◌+◌, ◌≤◌, ◌<◌, Bool, List, [], length, sum_by, slice_get, take, Option, Some, None, ⊤}
use Rattle.std.specs.List.{AllZip}
use Rattle.std.specs.Io.KnownBytes.{Appends}
use Rattle.command_run.specs.Io.{AppendsFront}
use Rattle.command_run.specs.declared.status.Ending.{Ending}
use Rattle.command_run.specs.declared.status.Ending.TheVariants.{Done, BadProfile, Refused}
use Rattle.command_files.specs.Files.{IsLongerThan, IsStored, Replaces}

-- ---- what is read

-- an input that a command reads: its name, and how many bytes it may have
pub record Named : Type 0 where
  pub name : List ℕ
  pub limit : ℕ

-- all inputs of a run may have so many bytes: 256 MiB
abbrev pub all_limit : ℕ
all_limit = 268_435_456

-- how many bytes these inputs have
abbrev pub sum_of : List (List ℕ) → ℕ
sum_of inputs = sum_by length inputs

-- the bytes are what is stored under the name, and not too many
abbrev pub Is : (List ℕ → Option (List ℕ)) → Named → List ℕ → Type 0
Is stored named bytes = IsStored (stored named.name) bytes × (length bytes ≤ named.limit)

-- each input is what is stored under its name, none has too many bytes, nor have all of them
pub record AreRead (stored : List ℕ → Option (List ℕ)) (names : List Named) (inputs : List (List ℕ)) : Type 0 where
  pub each : AllZip (Is stored) names inputs
  pub all : sum_of inputs ≤ all_limit

-- the same, where what is stored under each name is known
abbrev pub IsKnown : (List ℕ → Option (List ℕ)) → Named → List ℕ → Type 0
IsKnown stored named bytes = (stored named.name ≡ Some bytes) × (length bytes ≤ named.limit)

pub record AreKnown (stored : List ℕ → Option (List ℕ)) (names : List Named) (inputs : List (List ℕ)) : Type 0 where
  pub each : AllZip (IsKnown stored) names inputs
  pub all : sum_of inputs ≤ all_limit

-- an input is longer than its own limit, or than those that were read before it leave
pub record IsTooMuch (stored : List ℕ → Option (List ℕ)) (names : List Named) : Type 0 where
  pub place : ℕ
  pub named : Named
  pub before : List (List ℕ)
  pub room : ℕ
  pub there : slice_get names place ≡ Some named
  pub read : AllZip (Is stored) (take place names) before
  pub own_or_all : (room ≡ named.limit) ⊎ (room + sum_of before ≡ all_limit)
  pub longer : IsLongerThan room (stored named.name)

-- reading one of the inputs may fail
abbrev pub IsUnreadable : (List ℕ → Type 0) → List Named → Type 0
IsUnreadable may_fail names = (place : ℕ) × (named : Named) × (slice_get names place ≡ Some named) × may_fail named.name

-- ---- the command that is asked for

-- there is a command, with its inputs by I, and P holds of the two
pub record OnInputs {C : Type 0} (asked : Option C) (I P : C → List (List ℕ) → Type 0) : Type 0 where
  pub command : C
  pub inputs : List (List ℕ)
  pub named : asked ≡ Some command
  pub has : I command inputs
  pub holds : P command inputs

-- there is a command of which P holds
abbrev pub OnCommand : {C : Type 0} → Option C → (C → Type 0) → Type 0
OnCommand {C} asked P = (command : C) × (asked ≡ Some command) × P command

-- every answer has this ending
abbrev pub Decides : (Ending → List ℕ → List ℕ → Type 0) → Ending → Type 0
Decides Gives wanted = (ending : Ending) (text complaint : List ℕ) → Gives ending text complaint → ending ≡ wanted

-- ---- what is written

-- the text went to the file that is named, and standard output is as it was; or it went to standard output, and no file was touched
abbrev pub Puts : Option (List ℕ) → Option (List ℕ → Option (List ℕ)) → Option (List ℕ → Option (List ℕ)) → Option (List ℕ) → Option (List ℕ)
    → List ℕ → Type 0
Puts (Some name) held_old held_new output_old output_new text = Replaces held_old held_new name text × (output_new ≡ output_old)
Puts None held_old held_new output_old output_new text = Appends output_old output_new text × (held_new ≡ held_old)

-- a file takes the text of an answer that is done alone
abbrev pub target_at : Ending → Option (List ℕ) → Option (List ℕ)
target_at Done target = target
target_at BadProfile target = None
target_at Refused target = None

-- an answer was delivered whole: its complaint, and then its text
pub record Delivers (Gives : List ℕ → List ℕ → Type 0) (target : Option (List ℕ)) (held_old held_new : Option (List ℕ → Option (List ℕ)))
    (output_old output_new complaints_old complaints_new : Option (List ℕ)) : Type 0 where
  pub text : List ℕ
  pub complaint : List ℕ
  pub given : Gives text complaint
  pub complaints : Appends complaints_old complaints_new complaint
  pub put : Puts target held_old held_new output_old output_new text

-- some front of its complaint and of its text were written, maybe nothing, and no file was touched
pub record IsCutShort (Gives : List ℕ → List ℕ → Type 0) (held_old held_new : Option (List ℕ → Option (List ℕ)))
    (output_old output_new complaints_old complaints_new : Option (List ℕ)) : Type 0 where
  pub text : List ℕ
  pub complaint : List ℕ
  pub given : Gives text complaint
  pub complaints : AppendsFront complaints_old complaints_new complaint
  pub output : AppendsFront output_old output_new text
  pub held : held_new ≡ held_old
