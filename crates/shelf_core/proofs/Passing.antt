-- Faults and outcomes that are passed on.
use Rattle.std.proofs.Common.{◌≡◌, ◌≢◌, ◌∙◌, Result, Ok, Err, IfErr, IsErrAnd, refl, subst, sym}
use Rattle.shelf_fault.specs.Faults.{Gets, MayFail, and_then}
use Rattle.shelf_fault.specs.declared.fault.Fault.{Fault}
use Rattle.shelf_fault.specs.declared.fault.Fault.TheVariants.{OutOfMemory}
use Rattle.shelf_job.specs.declared.job.Job.{Job}
use Rattle.shelf_core.specs.Outcome.{OfOrder, OnPass, Outcome, faulty}
use Rattle.shelf_core.specs.declared.answer.Text.{Text}

-- the fault of a step is that of what goes on after it
pub passed : {A B X : Type 0} (view : X → B) (found : Result A Fault) (next : A → Result B Fault) (r : Result X Fault) (f : Fault)
    → IsErrAnd r (λ e. e ≡ f) → MayFail found f → Gets view (and_then found next) r
passed view found next (Ok x) f p h = absurd p
passed view found next (Err e) f p h = λ n. let k : found ≡ Err f = h (λ q. n (p ∙ q)) in rw (k, p) refl

-- what comes where a step passes, and its fault
pub on_pass : (p : Result (Unit {0}) Fault) (P : Outcome → Type 0) (x : Outcome) → p ≡ Ok tt → P x → OnPass p P x
on_pass p P x e h = subst (λ (q : Result (Unit {0}) Fault). OnPass q P x) (sym e) h

pub on_fault : (p : Result (Unit {0}) Fault) (P : Outcome → Type 0) (f : Fault) → p ≡ Err f → OnPass p P (faulty f)
on_fault p P f e = subst (λ (q : Result (Unit {0}) Fault). OnPass q P (faulty f)) (sym e) refl

-- a fault that is passed on
pub told_on : (P : Outcome → Type 0) (r : Result Text Fault) (f : Fault) → (f ≢ OutOfMemory → P (faulty f)) → IsErrAnd r (λ e. e ≡ f)
    → IfErr r (λ fault. fault ≢ OutOfMemory → P (faulty fault))
told_on P (Ok t) f h p = absurd p
told_on P (Err e) f h p = λ n. subst (λ (g : Fault). P (faulty g)) (sym p) (h (λ q. n (p ∙ q)))

-- what comes of an order comes of the inputs that say it
pub of_order : (Comes : Job → Outcome → Type 0) (found : Result Job Fault) (j : Job) (x : Outcome) → found ≡ Ok j → Comes j x → OfOrder Comes found x
of_order Comes found j x e h = subst (λ (f : Result Job Fault). OfOrder Comes f x) (sym e) h

-- the fault of the inputs
pub of_fault : (Comes : Job → Outcome → Type 0) (found : Result Job Fault) (f : Fault) → found ≡ Err f → OfOrder Comes found (faulty f)
of_fault Comes found f e = subst (λ (x : Result Job Fault). OfOrder Comes x (faulty f)) (sym e) refl
