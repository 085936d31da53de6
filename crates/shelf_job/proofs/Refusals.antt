-- The errors of what issues, as faults of orders.
use Rattle.std.proofs.Common.{◌≡◌, ◌∙◌, Option, Result, Err, sym, ap}
use Rattle.attr_issue.specs.AttributeCauses.{AttributeCause, ExplainsAttribute, ExplainsRefused}
use Rattle.attr_issue.specs.declared.error.AttrError.{AttrError}
use Rattle.attr_issue.specs.declared.error.AttrError.TheVariants as error
use Rattle.rcgen_read.specs.Reading.{MayRead}
use Rattle.rcgen_text.specs.Causes.{Cause, Explains, Origin, cause, key, memory, origin_of}
use Rattle.shelf_fault.specs.Faults.{MayFail, by_cause, fault_by, no_cause}
use Rattle.shelf_fault.specs.declared.fault.Fault.{Fault}
use Rattle.shelf_job.specs.Jobs.{fault_by_attribute_error, no_attribute_cause}

explained : (found : Option Cause) (R : Type 0) (o : Origin) (f : Fault) → (R → ⊥) → Explains found R o → f ≡ fault_by o → MayFail (no_cause found) f
explained found R memory f never h e = λ n. absurd (n e)
explained found R key f never h e = λ n. absurd (never h.1)
explained found R (cause c) f never h e = λ n. ap no_cause h ∙ ap (λ (x : Fault). Err x) (sym e)

-- what isn't read has the fault of its cause
pub read : {A : Type 0} (found : Result A Cause) (o : Origin) (f : Fault) → MayRead found o → f ≡ fault_by o → MayFail (by_cause found) f
read found memory f h e = λ n. absurd (n e)
read found key f h e = absurd h
read found (cause c) f h e = λ n. ap by_cause h ∙ ap (λ (x : Fault). Err x) (sym e)

-- a key that isn't asked to sign refuses nothing
pub told : (found : Option Cause) (o : Origin) (f : Fault) → Explains found ⊥ o → f ≡ fault_by o → MayFail (no_cause found) f
told found o f h e = explained found ⊥ o f (λ r. r) h e

-- ---- attribute certificates

by_refusal : (found : Option AttributeCause) (R : Type 0) (o : Origin) (f : Fault) → (R → ⊥) → ExplainsRefused found R o → f ≡ fault_by o
    → MayFail (no_attribute_cause found) f
by_refusal found R memory f never h e = absurd h
by_refusal found R key f never h e = absurd (never h.1)
by_refusal found R (cause c) f never h e = λ n. ap no_attribute_cause h ∙ ap (λ (x : Fault). Err x) (sym e)

by_error : (found : Option AttributeCause) (R : Type 0) (e : AttrError) (f : Fault) → (R → ⊥) → ExplainsAttribute found R e
    → f ≡ fault_by_attribute_error e → MayFail (no_attribute_cause found) f
by_error found R error.NoAttributes f never h e = λ n. ap no_attribute_cause h ∙ ap (λ (x : Fault). Err x) (sym e)
by_error found R error.RepeatedAttribute f never h e = λ n. ap no_attribute_cause h ∙ ap (λ (x : Fault). Err x) (sym e)
by_error found R (error.Refused r) f never h e = by_refusal found R (origin_of r) f never h e
by_error found R error.OutOfMemory f never h e = λ n. absurd (n e)

pub attribute_told : (found : Option AttributeCause) (e : AttrError) (f : Fault) → ExplainsAttribute found ⊥ e → f ≡ fault_by_attribute_error e
    → MayFail (no_attribute_cause found) f
attribute_told found e f h is = by_error found ⊥ e f (λ r. r) h is
