-- `tbs` and `seal` with one order and the same files.
use Rattle.std.proofs.Common.{◌≡◌, ℕ, Bool, true, false, List, ◌∷◌, Result, Ok, Err, if◌then◌else◌, refl, subst, sym}
use Rattle.shelf_fault.specs.declared.fault.Fault.{Fault}
use Rattle.shelf_input.specs.Signatures.{signature_in}
use Rattle.shelf_job.specs.Jobs.{IsMessage, broken_rules, ready}
use Rattle.shelf_job.specs.Once.{HasOneMessage}
use Rattle.shelf_job.specs.declared.job.Job.{Job}
use Rattle.shelf_core.specs.Both.{HasOneMessageForBoth}
use Rattle.shelf_core.specs.Outcome.{OfOrder, OnPass, Outcome, Seals, SealsOver, Tells, done, ordered_with, stopped, stops, unless_stopped}
use Rattle.rule_table.specs.declared.rule.Rule.{Rule}
use Rattle.rule_texts.specs.Lines.{finding_lines}

-- a text that isn't stopped is the text
text_if : (stops : Bool) (lines text told a b : List ℕ) → done a b ≡ (if stops then stopped lines else done text told) → a ≡ text
text_if false lines text told a b e = cc
text_if true lines text told a b e = cc

text_is : (strict : Bool) (broken : List Rule) (text told a b : List ℕ) → done a b ≡ unless_stopped strict broken text told → a ≡ text
text_is strict broken text told a b e = text_if (stops strict broken) (finding_lines broken) text told a b e

-- what is read of `tbs`
record IsTold (j : Job) (message : List ℕ) : Type 0 where
  ready : ready j ≡ Ok tt
  is_message : IsMessage j message

told : (strict : Bool) (j : Job) (message noticed : List ℕ) (r : Result (Unit {0}) Fault) → ready j ≡ r
    → OnPass r (λ x. (m : List ℕ) × IsMessage j m × (x ≡ unless_stopped strict (broken_rules j m) m (finding_lines (broken_rules j m)))) (done message noticed) → IsTold j message
told strict j message noticed (Ok tt) e h =
    record { ready = e; is_message = subst (IsMessage j) (sym (text_is strict (broken_rules j h.0) h.0 (finding_lines (broken_rules j h.0)) message noticed h.2)) h.1 }
told strict j message noticed (Err f) e h = cc

of_order : (P : Job → Outcome → Type 0) (found : Result Job Fault) (j : Job) (x : Outcome) → found ≡ Ok j → OfOrder P found x → P j x
of_order P found j x e h = subst (λ (f : Result Job Fault). OfOrder P f x) e h

pub one_message_for_both : HasOneMessage → HasOneMessageForBoth
one_message_for_both once strict strict' is_der has_revoked order file signature message noticed inputs j x t s o g =
    let tells : Tells strict' j (done message noticed) = of_order (Tells strict') (ordered_with has_revoked order inputs) j (done message noticed) o t in
    let seals : Seals strict is_der (signature_in file) j x = of_order (Seals strict is_der (signature_in file)) (ordered_with has_revoked order inputs) j x o s in
    let given : Seals strict is_der (Ok signature) j x = subst (λ (r : Result (List ℕ) Fault). Seals strict is_der r j x) g seals in
    let is = told strict' j message noticed (ready j) refl tells in
    let over : (m : List ℕ) × IsMessage j m × SealsOver strict is_der j signature m x =
    subst (λ (r : Result (Unit {0}) Fault). OnPass r (λ y. (m : List ℕ) × IsMessage j m × SealsOver strict is_der j signature m y) x) is.ready given in
    subst (λ (m : List ℕ). SealsOver strict is_der j signature m x) (once j over.0 message over.1 is.is_message) over.2
