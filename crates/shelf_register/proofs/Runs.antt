-- What a run has done.
use Rattle.std.proofs.Common.{◌≡◌, ◌⊎◌, inl, inr, ℕ, ℤ, Bool, true, false, List, Option, Some}
use Rattle.std.specs.Io.KnownBytes.{Appends}
use Rattle.sqlite_trees.specs.View.{View}
use Rattle.command_files.specs.Run.{Puts}
use Rattle.command_run.specs.Io.{AppendsFront}
use Rattle.register.specs.Registers.{IsOpenRegister}
use Rattle.register_driver.specs.Recorded.{IsUntouched}
use Rattle.register_record.specs.Records.{State}
use Rattle.shelf_register.specs.Commands.{help_word_of, word_of}
use Rattle.shelf_register.specs.Runs.{Begins, Ends, HasStepped, HasTold, HasWritten, IsKnown, RunBegins, RunEnds, is_step}
use Rattle.shelf_register.specs.Taken.{IsCarriedOut, IsMade}
use Rattle.shelf_register.specs.Texts.{word_help}
use Rattle.shelf_register.specs.declared.options.Given.{Given}
use Rattle.shelf_register.specs.declared.word.Word.{Word}

pub known : (closed : Bool) (v : View) (s : State) → closed ≡ false → IsOpenRegister closed v s → IsKnown s
known closed v s e is = let k = is e in record { events = k.events; goes = k.goes; state = k.state }

pub stepped : (w : Word) (given : List Given) (random : List ℕ) (now : ℤ) (inputs : List (List ℕ)) (old new : State) (held_old held_new : Option (List ℕ → Option (List ℕ)))
    (output_old output_new : Option (List ℕ)) → IsKnown old
    → IsUntouched held_old held_new output_old output_new ⊎ IsMade w given random now inputs old new
    → IsUntouched held_old held_new output_old output_new ⊎ HasStepped w
stepped w given random now inputs old new held_old held_new output_old output_new k (inl untouched) = inl untouched
stepped w given random now inputs old new held_old held_new output_old output_new k (inr made) =
    inr (record { given = given; random = random; now = now; inputs = inputs; old = old; new = new; known = k; made = made })

pub wrote : (w : Word) (given : List Given) (random : List ℕ) (now : ℤ) (inputs : List (List ℕ)) (old new : State) (held_old held_new : Option (List ℕ → Option (List ℕ)))
    (output_old output_new : Option (List ℕ)) → IsKnown old → IsCarriedOut w given random now inputs old new held_old held_new output_old output_new
    → HasWritten w held_old held_new output_old output_new
wrote w given random now inputs old new held_old held_new output_old output_new k carried =
    record { given = given; random = random; now = now; inputs = inputs; old = old; new = new; known = k; carried = carried }

pub began : (b : Bool) (w : Word) (held_old held_new : Option (List ℕ → Option (List ℕ))) (output_old output_new : Option (List ℕ)) → b ≡ true
    → IsUntouched held_old held_new output_old output_new ⊎ HasStepped w → Begins b w held_old held_new output_old output_new
began true w held_old held_new output_old output_new e h = h
began false w held_old held_new output_old output_new e h = tt

pub began_otherwise : (b : Bool) (w : Word) (held_old held_new : Option (List ℕ → Option (List ℕ))) (output_old output_new : Option (List ℕ)) → b ≡ false
    → Begins b w held_old held_new output_old output_new
began_otherwise true w held_old held_new output_old output_new e = absurd (cc)
began_otherwise false w held_old held_new output_old output_new e = tt

pub not_begun : (b : Bool) (w : Word) (held_old held_new : Option (List ℕ → Option (List ℕ))) (output_old output_new : Option (List ℕ))
    → IsUntouched held_old held_new output_old output_new → Begins b w held_old held_new output_old output_new
not_begun true w held_old held_new output_old output_new untouched = inl untouched
not_begun false w held_old held_new output_old output_new untouched = tt

pub ended : (b : Bool) (w : Word) (held_old held_new : Option (List ℕ → Option (List ℕ))) (output_old output_new : Option (List ℕ)) → b ≡ true
    → HasWritten w held_old held_new output_old output_new → Ends b w held_old held_new output_old output_new
ended true w held_old held_new output_old output_new e h = h
ended false w held_old held_new output_old output_new e h = absurd (cc)

pub ended_otherwise : (b : Bool) (w : Word) (target : Option (List ℕ)) (held_old held_new : Option (List ℕ → Option (List ℕ)))
    (output_old output_new : Option (List ℕ)) (text : List ℕ) → b ≡ false → Puts target held_old held_new output_old output_new text
    → Ends b w held_old held_new output_old output_new
ended_otherwise true w target held_old held_new output_old output_new text e put = absurd (cc)
ended_otherwise false w target held_old held_new output_old output_new text e put = record { target = target; text = text; put = put }

-- ---- a run over words

pub run_untouched : (words : List (List ℕ)) (held_old held_new : Option (List ℕ → Option (List ℕ))) (output_old output_new : Option (List ℕ))
    → IsUntouched held_old held_new output_old output_new → RunBegins words held_old held_new output_old output_new
run_untouched words held_old held_new output_old output_new untouched = inl untouched

pub run_helps : (words : List (List ℕ)) (w : Word) (held_old held_new : Option (List ℕ → Option (List ℕ))) (output_old output_new : Option (List ℕ))
    → help_word_of words ≡ Some w → AppendsFront output_old output_new (word_help w) → held_new ≡ held_old
    → RunBegins words held_old held_new output_old output_new
run_helps words w held_old held_new output_old output_new is front same = inr (inl (w, is, front, same))

pub run_begins : (words : List (List ℕ)) (w : Word) (held_old held_new : Option (List ℕ → Option (List ℕ))) (output_old output_new : Option (List ℕ))
    → word_of words ≡ Some w → Begins (is_step w) w held_old held_new output_old output_new → RunBegins words held_old held_new output_old output_new
run_begins words w held_old held_new output_old output_new is begun = inr (inr (w, is, begun))

pub run_helped : (words : List (List ℕ)) (w : Word) (held_old held_new : Option (List ℕ → Option (List ℕ))) (output_old output_new : Option (List ℕ))
    → help_word_of words ≡ Some w → Appends output_old output_new (word_help w) → held_new ≡ held_old
    → RunEnds words held_old held_new output_old output_new
run_helped words w held_old held_new output_old output_new is whole same = inl (w, is, whole, same)

pub run_ends : (words : List (List ℕ)) (w : Word) (held_old held_new : Option (List ℕ → Option (List ℕ))) (output_old output_new : Option (List ℕ))
    → word_of words ≡ Some w → Ends (is_step w) w held_old held_new output_old output_new → RunEnds words held_old held_new output_old output_new
run_ends words w held_old held_new output_old output_new is ended = inr (w, is, ended)
