-- What a run with a register has done.
use Rattle.std.specs.Prelude.{◌≡◌, ◌⊎◌, ℕ, ℤ, Bool, true, false, List, Option, Some}
use Rattle.std.specs.Io.KnownBytes.{Appends}
use Rattle.command_files.specs.Run.{Puts}
use Rattle.command_run.specs.Io.{AppendsFront}
use Rattle.register_driver.specs.Recorded.{IsUntouched}
use Rattle.register_record.specs.Laws.{is_record}
use Rattle.register_record.specs.Records.{State, record_of}
use Rattle.register_record.specs.declared.event.Event.{Event}
use Rattle.shelf_register.specs.Commands.{help_word_of, word_of}
use Rattle.shelf_register.specs.Taken.{IsCarriedOut, IsMade}
use Rattle.shelf_register.specs.Texts.{word_help}
use Rattle.shelf_register.specs.declared.options.Given.{Given}
use Rattle.shelf_register.specs.declared.word.Word.{Word}
use Rattle.shelf_register.specs.declared.word.Word.TheVariants as word

-- the state is that of a record
pub record IsKnown (s : State) : Type 0 where
  pub events : List Event
  pub goes : is_record events ≡ true
  pub state : record_of events ≡ s

-- a step of the subcommand on a record; the record has its event
pub record HasStepped (w : Word) : Type 0 where
  pub given : List Given
  pub random : List ℕ
  pub now : ℤ
  pub inputs : List (List ℕ)
  pub old : State
  pub new : State
  pub known : IsKnown old
  pub made : IsMade w given random now inputs old new

-- the same, and its text is written
pub record HasWritten (w : Word) (held_old held_new : Option (List ℕ → Option (List ℕ))) (output_old output_new : Option (List ℕ)) : Type 0 where
  pub given : List Given
  pub random : List ℕ
  pub now : ℤ
  pub inputs : List (List ℕ)
  pub old : State
  pub new : State
  pub known : IsKnown old
  pub carried : IsCarriedOut w given random now inputs old new held_old held_new output_old output_new

-- some text is written
pub record HasTold (held_old held_new : Option (List ℕ → Option (List ℕ))) (output_old output_new : Option (List ℕ)) : Type 0 where
  pub target : Option (List ℕ)
  pub text : List ℕ
  pub put : Puts target held_old held_new output_old output_new text

-- the subcommand is a step on the record; those of `register` are not
abbrev pub is_step : Word → Bool
is_step word.New = false
is_step word.Import = false
is_step word.Export = false
is_step word.Check = false
is_step word.Tbs = true
is_step word.Seal = true
is_step word.Revoke = true
is_step word.List = true
is_step word.Find = true
is_step word.Renew = true

-- at any status, nothing is written of a step before it is recorded
abbrev pub Begins : Bool → Word → Option (List ℕ → Option (List ℕ)) → Option (List ℕ → Option (List ℕ)) → Option (List ℕ) → Option (List ℕ) → Type 0
Begins false w held_old held_new output_old output_new = Unit {0}
Begins true w held_old held_new output_old output_new = IsUntouched held_old held_new output_old output_new ⊎ HasStepped w

-- with status 0 it is written too
abbrev pub Ends : Bool → Word → Option (List ℕ → Option (List ℕ)) → Option (List ℕ → Option (List ℕ)) → Option (List ℕ) → Option (List ℕ) → Type 0
Ends false w held_old held_new output_old output_new = HasTold held_old held_new output_old output_new
Ends true w held_old held_new output_old output_new = HasWritten w held_old held_new output_old output_new

-- a run over these words, at any status: it wrote nothing, or a front of the help on a subcommand, or it began what the words ask for
abbrev pub RunBegins : List (List ℕ) → Option (List ℕ → Option (List ℕ)) → Option (List ℕ → Option (List ℕ)) → Option (List ℕ) → Option (List ℕ) → Type 0
RunBegins words held_old held_new output_old output_new =
    IsUntouched held_old held_new output_old output_new
    ⊎ (((w : Word) × (help_word_of words ≡ Some w) × AppendsFront output_old output_new (word_help w) × (held_new ≡ held_old))
    ⊎ ((w : Word) × (word_of words ≡ Some w) × Begins (is_step w) w held_old held_new output_old output_new))

-- a run over these words with status 0: it wrote the help on a subcommand, or did what the words ask for
abbrev pub RunEnds : List (List ℕ) → Option (List ℕ → Option (List ℕ)) → Option (List ℕ → Option (List ℕ)) → Option (List ℕ) → Option (List ℕ) → Type 0
RunEnds words held_old held_new output_old output_new =
    ((w : Word) × (help_word_of words ≡ Some w) × Appends output_old output_new (word_help w) × (held_new ≡ held_old))
    ⊎ ((w : Word) × (word_of words ≡ Some w) × Ends (is_step w) w held_old held_new output_old output_new)
