-- What is made of an input, and why nothing is.
use Rattle.std.proofs.Common.{◌≡◌, ◌∙◌, ℕ, List, Option, Result, ap, refl, sym, subst}
use Rattle.rcgen_read.specs.Reading.{MayRead}
use Rattle.rcgen_text.specs.Causes.{Cause, Explains, Origin, memory, key as of_key, cause, origin_of}
use Rattle.rcgen_text.specs.declared.error.Error.{Error}
use Rattle.certify_core.specs.CommandSpec.{IsMade, CommandSpec, SpecGives, coming_to, named, of_der}
use Rattle.certify_core.specs.Outcome.{HasRefusal, done, refusal_by, refusal_of}

-- a text that is always the same
pub always_made : (t text : List ℕ) → text ≡ t → IsMade (coming_to (done t)) text
always_made t text h = record { params = tt; says = tt; written = ap done h; no_cause = refl }

by_origin : (m : CommandSpec) (params : m.Params) (R : Type 0) (found : Option Cause) (o : Origin) → m.first_cause params ≡ named found
    → m.Says params → (R → ⊥) → Explains found R o → HasRefusal (SpecGives m) (refusal_by o)
by_origin m params R found memory h s n x = tt
by_origin m params R found of_key h s n x = absurd (n x.1)
by_origin m params R found (cause c) h s n x = record { params = params; says = s; first = h ∙ ap named x }

-- an error that comes of the parameters is a refusal, by a key that refuses nothing
pub refused : (m : CommandSpec) (params : m.Params) (R : Type 0) (found : Option Cause) (e : Error) → m.first_cause params ≡ named found
    → m.Says params → (R → ⊥) → Explains found R (origin_of e) → HasRefusal (SpecGives m) (refusal_of e)
refused m params R found e h s n x = by_origin m params R found (origin_of e) h s n x

unread_by : {A : Type 0} (spec : A → CommandSpec) (found : Result A Cause) (o : Origin) → MayRead found o
    → HasRefusal (SpecGives (of_der spec found)) (refusal_by o)
unread_by spec found memory m = tt
unread_by spec found of_key m = absurd m
unread_by {A} spec found (cause c) m =
    subst (λ (f : Result A Cause). HasRefusal (SpecGives (of_der spec f)) (refusal_by (cause c))) (sym m) (record { params = tt; says = tt; first = refl })

-- so is an error of reading what a document holds
pub unread : {A : Type 0} (spec : A → CommandSpec) (found : Result A Cause) (e : Error) → MayRead found (origin_of e)
    → HasRefusal (SpecGives (of_der spec found)) (refusal_of e)
unread spec found e m = unread_by spec found (origin_of e) m
