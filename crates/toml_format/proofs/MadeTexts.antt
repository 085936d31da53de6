-- What is left of an answer of rcgen's makers where memory didn't run out.
use Rattle.std.proofs.Common.{◌≡◌, Bool, true, false, not, cond, Option, Some, None, Result, Ok, Err, refl, ap, ◌∙◌}
use Rattle.std.specs.Result.{result_ok}
use Rattle.rcgen_text.specs.Causes.{Cause, Origin, memory, key as of_key, cause, origin_of, when, TakesMemory, MayAnswer, Makes}
use Rattle.rcgen_text.proofs.Origins.{memory_alone}
use Rattle.rcgen_text.specs.declared.error.Error.{Error}
use Rattle.rcgen_text.specs.declared.error.Error.TheVariants as error

-- what fits is made
fits_made : {A : Type 0} (fits : Bool) (c : Cause) (x y : A) → y ≡ x → when (not fits) c ≡ None → Some y ≡ cond fits (Some x) None
fits_made true c x y e none = ap Some e
fits_made false c x y e none = absurd cc

-- what is refused, and not for lack of memory, doesn't fit
refused_unfit : {A : Type 0} (fits : Bool) (c : Cause) (x : A) (e : Error) (o : Origin) → origin_of e ≡ o → (e ≡ error.OutOfMemory → ⊥)
    → MayAnswer TakesMemory (when (not fits) c) o → None ≡ cond fits (Some x) None
refused_unfit fits c x e memory s m answers = absurd (m (memory_alone e s))
refused_unfit fits c x e of_key s m answers = absurd answers
refused_unfit true c x e (cause d) s m answers = absurd cc
refused_unfit false c x e (cause d) s m answers = refl

-- what is left is the value where it fits, and none where it doesn't
pub made_is : {A : Type 0} (fits : Bool) (c : Cause) (x : A) (answer : Result A Error) (found : Option A)
    → Makes TakesMemory (when (not fits) c) (λ made. made ≡ x) answer → (answer ≡ Err error.OutOfMemory → ⊥) → found ≡ result_ok answer
    → found ≡ cond fits (Some x) None
made_is fits c x (Ok y) found makes m e = e ∙ fits_made fits c x y makes.0 makes.1
made_is fits c x (Err why) found makes m e = e ∙ refused_unfit fits c x why (origin_of why) refl (λ s. m (ap Err s)) makes
