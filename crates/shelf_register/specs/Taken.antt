-- What a step does to a record, and what is written of it.
use Rattle.std.specs.Prelude.{◌≡◌, ℕ, ℤ, List, Option}
use Rattle.command_files.specs.Run.{Puts}
use Rattle.register_driver.specs.Recorded.{IsRecorded}
use Rattle.register_record.specs.Records.{State}
use Rattle.register_record.specs.declared.event.Event.{Event}
use Rattle.shelf_register.specs.Steps.{IsStep}
use Rattle.shelf_register.specs.declared.options.Given.{Given}
use Rattle.shelf_register.specs.declared.word.Word.{Word}

-- the record has the event of a step of the subcommand, where the step has one
pub record IsMade (word : Word) (given : List Given) (random : List ℕ) (now : ℤ) (inputs : List (List ℕ)) (old new : State) : Type 0 where
  pub event : Option Event
  pub text : List ℕ
  pub step : IsStep word given old random now inputs event text
  pub recorded : IsRecorded event old new

-- the same, and the text of the step is in a file or went to standard output, and to nothing else
pub record IsCarriedOut (word : Word) (given : List Given) (random : List ℕ) (now : ℤ) (inputs : List (List ℕ)) (old new : State)
    (held_old held_new : Option (List ℕ → Option (List ℕ))) (output_old output_new : Option (List ℕ)) : Type 0 where
  pub event : Option Event
  pub text : List ℕ
  pub step : IsStep word given old random now inputs event text
  pub recorded : IsRecorded event old new
  pub target : Option (List ℕ)
  pub put : Puts target held_old held_new output_old output_new text
