-- What comes to exactly one outcome has exactly one answer.
use Rattle.std.specs.Prelude.{◌≡◌, ◌⊎◌, ℕ, List, [], refl}
use Rattle.std.proofs.Common.{◌∙◌, ap, inl, inr, subst, sym}
use Rattle.command_run.specs.declared.status.Ending.{Ending}
use Rattle.command_run.specs.declared.status.Ending.TheVariants as ending
use Rattle.shelf_core.specs.Outcome.{IsAnswer, Outcome, done, ending_of, faulty, refused, stopped}
use Rattle.shelf_fault.specs.declared.fault.Fault.{Fault}
use Rattle.word_outcomes.specs.Answers.{ComesToOne, HasOneAnswer}

abbrev ending_by : Outcome → Ending
ending_by (done text told) = ending.Done
ending_by (refused text) = ending.Refused
ending_by (stopped told) = ending.Refused
ending_by (faulty fault) = ending_of fault

abbrev text_by : Outcome → List ℕ
text_by (done text told) = text
text_by (refused text) = text
text_by (stopped told) = []
text_by (faulty fault) = []

-- the message about a fault is free
abbrev IsSaid : Outcome → List ℕ → Type 0
IsSaid (done text told) complaint = complaint ≡ told
IsSaid (refused text) complaint = complaint ≡ []
IsSaid (stopped told) complaint = complaint ≡ told
IsSaid (faulty fault) complaint = Unit {0}

-- an answer is that of an outcome
record IsBy (P : Outcome → Type 0) (e : Ending) (text complaint : List ℕ) : Type 0 where
  outcome : Outcome
  comes : P outcome
  ends : e ≡ ending_by outcome
  writes : text ≡ text_by outcome
  says : IsSaid outcome complaint

by_outcome : (P : Outcome → Type 0) (e : Ending) (text complaint : List ℕ) → IsAnswer P e text complaint → IsBy P e text complaint
by_outcome P e text complaint (inl d) = record { outcome = done text complaint; comes = d.comes; ends = d.ending; writes = refl; says = refl }
by_outcome P e text complaint (inr (inl r)) = record { outcome = refused text; comes = r.comes; ends = r.ending; writes = refl; says = r.no_complaint }
by_outcome P e text complaint (inr (inr (inl s))) = record { outcome = stopped complaint; comes = s.comes; ends = s.ending; writes = s.no_text; says = refl }
by_outcome P e text complaint (inr (inr (inr f))) = record { outcome = faulty f.fault; comes = f.comes; ends = f.ending; writes = f.no_text; says = tt }

there : (P : Outcome → Type 0) (x : Outcome) → P x → (complaint : List ℕ) × IsAnswer P (ending_by x) (text_by x) complaint × IsSaid x complaint
there P (done text told) h = (told, inl (record { ending = refl; comes = h }), refl)
there P (refused text) h = ([], inr (inl (record { ending = refl; comes = h; no_complaint = refl })), refl)
there P (stopped told) h = (told, inr (inr (inl (record { ending = refl; comes = h; no_text = refl }))), refl)
there P (faulty f) h = ([], inr (inr (inr (record { fault = f; comes = h; ending = refl; no_text = refl }))), tt)

said_once : (P : Outcome → Type 0) (x : Outcome) (a b : List ℕ) → P x → IsSaid x a → IsSaid x b → (a ≡ b) ⊎ ((fault : Fault) × P (faulty fault))
said_once P (done text told) a b h p q = inl (p ∙ sym q)
said_once P (refused text) a b h p q = inl (p ∙ sym q)
said_once P (stopped told) a b h p q = inl (p ∙ sym q)
said_once P (faulty f) a b h p q = inr (f, h)

pub answered : (P : Outcome → Type 0) → ComesToOne P → HasOneAnswer P
answered P one =
    let x = one.outcome in
    let a = there P x one.comes in
    record {
      ending = ending_by x;
      text = text_by x;
      complaint = a.0;
      is_answer = a.1;
      no_other = λ e t c h.
          let b = by_outcome P e t c h in
          let same = one.no_other b.outcome b.comes in (
            b.ends ∙ ap ending_by same,
            b.writes ∙ ap text_by same,
            said_once P x c a.0 one.comes (subst (λ (o : Outcome). IsSaid o c) same b.says) a.2,
          );
    }
