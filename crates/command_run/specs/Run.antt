-- What a run does.
use Rattle.std.specs.Prelude.{◌≡◌, ℕ, ◌≤◌, ◌<◌, ◌+◌, Bool, List, [], length, Option, Some, true, false}
use Rattle.std.specs.Bool.{MatchBool}
use Rattle.std.specs.Io.KnownBytes.{Appends, Consumes, IsAtEnd}
use Rattle.command_run.specs.Io.{AppendsFront}
use Rattle.command_run.specs.declared.status.Ending.{Ending}

-- ---- what is read

-- at most so many bytes are taken as an input
abbrev pub input_limit : ℕ
input_limit = 1_048_576

-- of the bytes that were left at most so many were taken, from the front
abbrev pub ReadsUpTo : ℕ → Option (List ℕ) → Option (List ℕ) → Type 0
ReadsUpTo most old new = (front : List ℕ) × Consumes old new front × (length front ≤ most)

-- at most the input limit and one more
abbrev pub ReadsSome : Option (List ℕ) → Option (List ℕ) → Type 0
ReadsSome = ReadsUpTo (input_limit + 1)

-- the input was read, to the end, and it has at most so many bytes
pub record ReadsWithin (most : ℕ) (old new : Option (List ℕ)) (input : List ℕ) : Type 0 where
  pub taken : Consumes old new input
  pub at_end : IsAtEnd new
  pub within : length input ≤ most

-- one byte more than so many was taken, and no further one
pub record ReadsBeyond (most : ℕ) (old new : Option (List ℕ)) (front : List ℕ) : Type 0 where
  pub taken : Consumes old new front
  pub beyond : length front ≡ most + 1

-- the input was read, to the end, and it isn't too long
abbrev pub ReadsWhole : Option (List ℕ) → Option (List ℕ) → List ℕ → Type 0
ReadsWhole = ReadsWithin input_limit

-- so many bytes were taken that the input is too long, and no more
abbrev pub ReadsTooLong : Option (List ℕ) → Option (List ℕ) → List ℕ → Type 0
ReadsTooLong = ReadsBeyond input_limit

-- the input was taken for a command, which reads or doesn't; one that doesn't has an empty input
abbrev pub Takes : Option (List ℕ) → Option (List ℕ) → Bool → List ℕ → Type 0
Takes old new reads input = MatchBool reads (ReadsWhole old new input) (input ≡ [])

-- the input is all that the source tells as left, and it isn't too long
abbrev pub Has : Option (List ℕ) → Bool → List ℕ → Type 0
Has left reads input = MatchBool reads ((left ≡ Some input) × (length input ≤ input_limit)) (input ≡ [])

-- ---- the command that is asked for

-- there is a command, which has its input by I, and P holds of the two
pub record OnInput {C : Type 0} (asked : Option C) (I P : C → List ℕ → Type 0) : Type 0 where
  pub command : C
  pub input : List ℕ
  pub named : asked ≡ Some command
  pub has : I command input
  pub holds : P command input

-- there is a command that doesn't read
abbrev pub ReadsNothing : {C : Type 0} → Option C → (C → Bool) → Type 0
ReadsNothing {C} asked reads = (command : C) × (asked ≡ Some command) × (reads command ≡ false)

-- there is a command that reads, and what the source tells as left is too long
pub record HasTooMuch {C : Type 0} (asked : Option C) (reads : C → Bool) (left : Option (List ℕ)) : Type 0 where
  pub command : C
  pub bytes : List ℕ
  pub named : asked ≡ Some command
  pub has : reads command ≡ true
  pub told : left ≡ Some bytes
  pub beyond : input_limit < length bytes

-- every answer has this ending
abbrev pub Decides : (Ending → List ℕ → List ℕ → Type 0) → Ending → Type 0
Decides Gives wanted = (ending : Ending) (text complaint : List ℕ) → Gives ending text complaint → ending ≡ wanted

-- ---- what is written

-- the output and the complaints grew by exactly a text and a complaint of which P holds
pub record AppendsBoth (output_old output_new complaints_old complaints_new : Option (List ℕ)) (P : List ℕ → List ℕ → Type 0) : Type 0 where
  pub text : List ℕ
  pub complaint : List ℕ
  pub given : P text complaint
  pub output : Appends output_old output_new text
  pub complaints : Appends complaints_old complaints_new complaint

-- they grew by some fronts of such a text and complaint, maybe by nothing
pub record AppendsFronts (output_old output_new complaints_old complaints_new : Option (List ℕ)) (P : List ℕ → List ℕ → Type 0) : Type 0 where
  pub text : List ℕ
  pub complaint : List ℕ
  pub given : P text complaint
  pub output : AppendsFront output_old output_new text
  pub complaints : AppendsFront complaints_old complaints_new complaint
