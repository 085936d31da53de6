-- A step that is recorded and written.
use Rattle.std.proofs.Common.{◌≡◌, ◌⊎◌, inl, inr, ℕ, ℤ, List, Option}
use Rattle.command_files.specs.Run.{Puts}
use Rattle.register_driver.specs.Recorded.{IsRecorded, IsUntouched}
use Rattle.register_record.specs.Records.{State}
use Rattle.register_record.specs.declared.event.Event.{Event}
use Rattle.shelf_register.specs.Steps.{IsStep}
use Rattle.shelf_register.specs.Taken.{IsCarriedOut, IsMade}
use Rattle.shelf_register.specs.declared.options.Given.{Given}
use Rattle.shelf_register.specs.declared.word.Word.{Word}

pub made : (word : Word) (given : List Given) (random : List ℕ) (now : ℤ) (inputs : List (List ℕ)) (old new : State) (event : Option Event) (text : List ℕ)
    (held_old held_new : Option (List ℕ → Option (List ℕ))) (output_old output_new : Option (List ℕ)) → IsStep word given old random now inputs event text
    → IsUntouched held_old held_new output_old output_new ⊎ IsRecorded event old new
    → IsUntouched held_old held_new output_old output_new ⊎ IsMade word given random now inputs old new
made word given random now inputs old new event text held_old held_new output_old output_new step (inl untouched) = inl untouched
made word given random now inputs old new event text held_old held_new output_old output_new step (inr recorded) =
    inr (record { event = event; text = text; step = step; recorded = recorded })

pub carried : (word : Word) (given : List Given) (random : List ℕ) (now : ℤ) (inputs : List (List ℕ)) (old new : State) (event : Option Event) (text : List ℕ)
    (target : Option (List ℕ)) (held_old held_new : Option (List ℕ → Option (List ℕ))) (output_old output_new : Option (List ℕ))
    → IsStep word given old random now inputs event text → IsRecorded event old new → Puts target held_old held_new output_old output_new text
    → IsCarriedOut word given random now inputs old new held_old held_new output_old output_new
carried word given random now inputs old new event text target held_old held_new output_old output_new step recorded put = record {
  event = event;
  text = text;
  step = step;
  recorded = recorded;
  target = target;
  put = put;
}
