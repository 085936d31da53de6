-- Outcomes that are there.
use Rattle.std.specs.Prelude.{◌≡◌, ℕ, List, Result, Ok, Err, refl}
use Rattle.shelf_core.specs.Outcome.{OfMessage, OfOrder, OnPass, Outcome, faulty}
use Rattle.shelf_fault.specs.declared.fault.Fault.{Fault}
use Rattle.shelf_job.specs.Jobs.{IsMessage, ready}
use Rattle.shelf_job.specs.declared.job.Job.{Job}
use Rattle.word_outcomes.specs.Limits.{OfJob}

abbrev pub There : (Outcome → Type 0) → Type 0
There P = (x : Outcome) × P x

pub on_pass : (r : Result (Unit {0}) Fault) (P : Outcome → Type 0) → (r ≡ Ok tt → There P) → There (OnPass r P)
on_pass (Ok tt) P there = there refl
on_pass (Err f) P there = (faulty f, refl)

-- of what there is to be signed for a job
pub record Made (j : Job) (P : List ℕ → Outcome → Type 0) : Type 0 where
  pub message : List ℕ
  pub is_message : IsMessage j message
  pub comes : There (P message)

pub of_message : (j : Job) (P : List ℕ → Outcome → Type 0) → (ready j ≡ Ok tt → Made j P) → There (OfMessage j P)
of_message j P made =
    on_pass (ready j) (λ x. (message : List ℕ) × IsMessage j message × P message x)
    (λ r. let m = made r in (m.comes.0, (m.message, m.is_message, m.comes.1)))

pub of_order : (P : Job → Outcome → Type 0) (Q : Job → Type 0) → ((j : Job) → Q j → There (P j)) → (found : Result Job Fault) → OfJob Q found
    → There (OfOrder P found)
of_order P Q each (Ok j) w = each j w
of_order P Q each (Err f) w = (faulty f, refl)
