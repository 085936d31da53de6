-- How a run over the program's commands ends, in the program's own words.
use Rattle.std.proofs.Common.{◌≡◌, ◌⊎◌, ℕ, List, [], Option, None, inl, inr, sym, ◌∙◌, ap, refl, arith}
use Rattle.command_run.specs.Io.{Rose}
use Rattle.command_run.specs.Run.{AppendsBoth, AppendsFronts, Decides as DecidesEnding}
use Rattle.command_run.specs.Status.{EndsWith, status_of as ending_status}
use Rattle.command_run.specs.declared.status.Ending.{Ending}
use Rattle.command_run.specs.declared.status.Ending.TheVariants as endings
use Rattle.command_run.specs.declared.status.Status.{Status}
use Rattle.command_run.specs.declared.status.Status.TheVariants.{Done, ReadFault, WriteFault, TooLong, BadProfile, Refused, Usage, OutOfMemory}
use Rattle.certify_core.specs.Answer.{Answered, AnswersWith, CutShort}
use Rattle.certify_core.specs.Command.{Gives, spec}
use Rattle.certify_core.specs.Lines.{bad_profile_line, refused_line}
use Rattle.certify_core.specs.Outcome.{Outcome, done, bad_profile, refused, status_of, IsAnswer, Decides, ComesToOne, HasOneAnswer}
use Rattle.certify_core.specs.Run.{Takes, Has, OnInput, ReadsNothing}
use Rattle.certify_core.specs.laws.CommandSpec.{comes_to_one}
use Rattle.certify_core.proofs.Silent.{nothing_against as silent_does}

-- ---- one answer

-- the text that is written of an outcome
abbrev written_of : Outcome → List ℕ
written_of (done text) = text
written_of (bad_profile reason) = bad_profile_line reason
written_of (refused name) = refused_line name

-- what an answer with the status says
outcome_of : (P : Outcome → Type 0) (status : Status) (text : List ℕ) → IsAnswer P status text
    → (o : Outcome) × P o × (status_of o ≡ status) × (written_of o ≡ text)
outcome_of P Done text a = (done text, a, refl, refl)
outcome_of P BadProfile text a = (bad_profile a.0, a.1, refl, sym a.2)
outcome_of P Refused text a = (refused a.0, a.1, refl, sym a.2)
outcome_of P ReadFault text a = absurd a
outcome_of P WriteFault text a = absurd a
outcome_of P TooLong text a = absurd a
outcome_of P Usage text a = absurd a
outcome_of P OutOfMemory text a = absurd a

-- an input that comes to one outcome has one answer
pub one_answer : (P : Outcome → Type 0) → ComesToOne P → HasOneAnswer P
one_answer P one status other text another a b =
    let x = outcome_of P status text a in
    let y = outcome_of P other another b in
    let same : x.0 ≡ y.0 = one x.0 y.0 x.1 y.1 in
    (sym x.2 ∙ ap status_of same ∙ y.2, sym x.3 ∙ ap written_of same ∙ y.3)

nothing_against : (P : Outcome → Type 0) (o : Outcome) → Decides P Done → P o → status_of o ≡ Done
nothing_against P (done text) d h = refl
nothing_against P (bad_profile reason) d h = absurd (d.0 reason h)
nothing_against P (refused name) d h = absurd (d.1 name h)

decided : (P : Outcome → Type 0) → ComesToOne P → (o : Outcome) (wanted : Status) → P o → Decides P wanted → status_of o ≡ wanted
decided P one o Done h d = nothing_against P o d h
decided P one o BadProfile h d = ap status_of (one o (bad_profile d.0) h d.1)
decided P one o Refused h d = ap status_of (one o (refused d.0) h d.1)
decided P one o ReadFault h d = absurd d
decided P one o WriteFault h d = absurd d
decided P one o TooLong h d = absurd d
decided P one o Usage h d = absurd d
decided P one o OutOfMemory h d = absurd d

-- an answer has the status that is decided
pub answers_as : (P : Outcome → Type 0) → ComesToOne P → (status wanted : Status) (text : List ℕ) → Decides P wanted → IsAnswer P status text → status ≡ wanted
answers_as P one status wanted text d a =
    let x = outcome_of P status text a in
    sym x.2 ∙ decided P one x.0 wanted x.1 d

-- ---- what was written

-- a sink that keeps nothing has no faults
pub other_fault : {A : Type 0} → A ⊎ Rose 0 0 → A
other_fault (inl a) = a
other_fault (inr (inl h)) = absurd (omega (arith, h))
other_fault (inr (inr h)) = absurd (omega (arith, h))

pub answered : (words : List (List ℕ)) (left_old left_new written_old written_new : Option (List ℕ)) (ending : Ending)
    → OnInput words (Takes left_old left_new) (λ command input. AppendsBoth written_old written_new None None (AnswersWith command input ending))
    → Answered words left_old left_new written_old written_new (ending_status ending)
answered words left_old left_new written_old written_new ending q = record {
  command = q.command;
  input = q.input;
  named = q.named;
  has = q.has;
  holds = (q.holds.text, q.holds.given.0, q.holds.output);
}

pub cut_short : (words : List (List ℕ)) (left_old left_new written_old written_new : Option (List ℕ))
    → OnInput words (Takes left_old left_new)
    (λ command input. (ending : Ending) × AppendsFronts written_old written_new None None (AnswersWith command input ending))
    → CutShort words left_old left_new written_old written_new
cut_short words left_old left_new written_old written_new q = record {
  command = q.command;
  input = q.input;
  named = q.named;
  has = q.has;
  holds = (ending_status q.holds.0, (q.holds.1.text, q.holds.1.given.0, q.holds.1.output));
}

-- ---- what decides how it ends

one_ending : (a b : Ending) → ending_status a ≡ ending_status b → a ≡ b
one_ending endings.Done endings.Done e = refl
one_ending endings.BadProfile endings.BadProfile e = refl
one_ending endings.Refused endings.Refused e = refl
one_ending endings.Done endings.BadProfile e = absurd cc
one_ending endings.Done endings.Refused e = absurd cc
one_ending endings.BadProfile endings.Done e = absurd cc
one_ending endings.BadProfile endings.Refused e = absurd cc
one_ending endings.Refused endings.Done e = absurd cc
one_ending endings.Refused endings.BadProfile e = absurd cc

ending_of : (P : Outcome → Type 0) (wanted : Status) → Decides P wanted → (ending : Ending) × (ending_status ending ≡ wanted)
ending_of P Done d = (endings.Done, refl)
ending_of P BadProfile d = (endings.BadProfile, refl)
ending_of P Refused d = (endings.Refused, refl)
ending_of P ReadFault d = absurd d
ending_of P WriteFault d = absurd d
ending_of P TooLong d = absurd d
ending_of P Usage d = absurd d
ending_of P OutOfMemory d = absurd d

-- where a status is decided, so is the ending
pub decides_ending : (words : List (List ℕ)) (left : Option (List ℕ)) (wanted : Status)
    → OnInput words (Has left) (λ command input. Decides (Gives command input) wanted)
    → (ending : Ending) × (ending_status ending ≡ wanted) × OnInput words (Has left) (λ command input. DecidesEnding (AnswersWith command input) ending)
decides_ending words left wanted q =
    let P = Gives q.command q.input in
    let e = ending_of P wanted q.holds in (
      e.0,
      e.1,
      record {
        command = q.command;
        input = q.input;
        named = q.named;
        has = q.has;
        holds = λ ending text complaint a. one_ending ending e.0
            (answers_as P (comes_to_one (spec q.command q.input)) (ending_status ending) wanted text q.holds a.0 ∙ sym e.1);
      },
    )

-- a command that reads nothing does what it is asked for
pub silent_is_done : (words : List (List ℕ)) (left : Option (List ℕ)) → ReadsNothing words
    → OnInput words (Has left) (λ command input. DecidesEnding (AnswersWith command input) endings.Done)
silent_is_done words left q = record {
  command = q.0;
  input = [];
  named = q.1;
  has = rw q.2 refl;
  holds = λ ending text complaint a. one_ending ending endings.Done
      (answers_as (Gives q.0 []) (comes_to_one (spec q.0 [])) (ending_status ending) Done text (silent_does q.0 [] q.2) a.0);
}

-- where no read fails
pub unread : (result wanted : Status) → (result ≡ ReadFault → ⊥) → (result ≡ ReadFault) ⊎ (result ≡ WriteFault) ⊎ EndsWith wanted result
    → (result ≡ WriteFault) ⊎ EndsWith wanted result
unread result wanted read (inl e) = absurd (read e)
unread result wanted read (inr e) = e

-- where no write fails
pub unwritten : (result wanted : Status) → (result ≡ WriteFault → ⊥) → (result ≡ WriteFault) ⊎ EndsWith wanted result → EndsWith wanted result
unwritten result wanted wrote (inl e) = absurd (wrote e)
unwritten result wanted wrote (inr e) = e
