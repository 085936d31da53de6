-- That the reason which is reported is the least of all those that hold.
use Rattle.std.specs.Prelude.{◌≡◌, List, [], ◌∷◌, ◌++◌, Option, Some, None, Result, Ok, Err, option_to_list, refl}
use Rattle.std.specs.Option.{ok_or}
use Rattle.std.specs.Result.{result_err}
use Rattle.std.proofs.Common.{ap, sym, ◌∙◌, arith}
use Rattle.std.proofs.lemmas.Bool.Decides.{nat_tests}
use Rattle.std.proofs.lemmas.Grind.{common_steps}
use Rattle.toml_format.specs.Outcome.{both, and_then, mapped, reasons_in, later_reasons, TellsLeast}
use Rattle.toml_format.specs.Reason.{least, least_there, least_of}
use Rattle.toml_format.specs.declared.reason.Reason.{Reason}

pub least-least : (c d e : Reason) → least (least c d) e ≡ least c (least d e)
unfolding least
least-least c d e = grind (arith, nat_tests, common_steps)

least_there-least_there : (c d e : Option Reason) → least_there (least_there c d) e ≡ least_there c (least_there d e)
least_there-least_there None d e = refl
least_there-least_there (Some c) None e = refl
least_there-least_there (Some c) (Some d) None = refl
least_there-least_there (Some c) (Some d) (Some e) = ap Some (least-least c d e)

pub least_of-append : (xs ys : List Reason) → least_of (xs ++ ys) ≡ least_there (least_of xs) (least_of ys)
least_of-append [] ys = refl
least_of-append (x ∷ xs) ys =
    ap (λ o. least_there (Some x) o) (least_of-append xs ys) ∙ sym (least_there-least_there (Some x) (least_of xs) (least_of ys))

-- a single outcome
pub tells_one : {A : Type 0} (r : Result A Reason) → TellsLeast r (option_to_list (result_err r))
tells_one (Ok x) = refl
tells_one (Err e) = refl

err-both : {A B : Type 0} (r : Result A Reason) (s : Result B Reason) → result_err (both r s) ≡ least_there (result_err r) (result_err s)
unfolding both
err-both (Ok x) (Ok y) = refl
err-both (Ok x) (Err e) = refl
err-both (Err d) (Ok y) = refl
err-both (Err d) (Err e) = refl

pub tells_mapped : {A B : Type 0} (r : Result A Reason) (f : A → B) (rs : List Reason) → TellsLeast r rs → TellsLeast (mapped r f) rs
tells_mapped (Ok x) f rs h = h
tells_mapped (Err e) f rs h = h

-- two outcomes, and the reasons against both
pub tells_both : {A B : Type 0} (r : Result A Reason) (s : Result B Reason) (rs ss : List Reason)
    → TellsLeast r rs → TellsLeast s ss → TellsLeast (both r s) (rs ++ ss)
tells_both r s rs ss h k =
    err-both r s
    ∙ ap (λ o. least_there o (result_err s)) h
    ∙ ap (λ o. least_there (least_of rs) o) k
    ∙ sym (least_of-append rs ss)

pub tells_later : {A B : Type 0} (r : Result A Reason) (f : A → Result B Reason) (rs : List Reason)
    → TellsLeast r rs → TellsLeast (and_then r f) (rs ++ later_reasons r f)
tells_later (Ok x) f rs h =
    tells_one (f x)
    ∙ ap (λ o. least_there o (least_of (option_to_list (result_err (f x))))) h
    ∙ sym (least_of-append rs (option_to_list (result_err (f x))))
tells_later (Err e) f rs h = ap (λ o. least_there o None) h ∙ sym (least_of-append rs [])

-- what was read first has no reason
pub tells_next : {A C : Type 0} (choice : C) (s : Result A Reason) (rs ss : List Reason) → TellsLeast (Ok choice) rs → TellsLeast s ss → TellsLeast s (rs ++ ss)
unfolding both
tells_next choice (Ok x) rs ss h k = tells_mapped (both (Ok choice) (Ok x)) (λ y. y.1) (rs ++ ss) (tells_both (Ok choice) (Ok x) rs ss h k)
tells_next {A = A} {C = C} choice (Err e) rs ss h k = tells_both {A = C} {B = A} (Ok choice) (Err e) rs ss h k

pub tells_in : {A B : Type 0} (o : Option A) (e : Reason) (f : A → Result B Reason) (reasons : A → List Reason)
    → ((x : A) → TellsLeast (f x) (reasons x)) → TellsLeast (and_then (ok_or o e) f) (reasons_in o (e ∷ []) reasons)
tells_in None e f reasons h = refl
tells_in (Some x) e f reasons h = h x
