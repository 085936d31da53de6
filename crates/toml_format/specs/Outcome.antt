-- What comes out of reading: a value, or the least reason why there is none.
use Rattle.std.specs.Prelude.{◌≡◌, ◌≤◌, List, [], All, Contains, Option, Some, None, Result, Ok, Err, option_to_list}
use Rattle.std.specs.Result.{result_err}
use Rattle.toml_format.specs.Reason.{least, least_of, reason_number}
use Rattle.toml_format.specs.declared.reason.Reason.{Reason}

-- both values, or the least reason against them
unfoldable pub both : {A B : Type 0} → Result A Reason → Result B Reason → Result (A × B) Reason
both (Ok x) (Ok y) = Ok (x, y)
both (Ok x) (Err e) = Err e
both (Err d) (Ok y) = Err d
both (Err d) (Err e) = Err (least d e)

-- the next step, where this one gave a value
abbrev pub and_then : {A B : Type 0} → Result A Reason → (A → Result B Reason) → Result B Reason
and_then (Ok x) f = f x
and_then (Err e) f = Err e

-- what f makes of the value
abbrev pub mapped : {A B : Type 0} → Result A Reason → (A → B) → Result B Reason
mapped (Ok x) f = Ok (f x)
mapped (Err e) f = Err e

-- the reasons in what an option holds, or those against its being empty
abbrev pub reasons_in : {A : Type 0} → Option A → List Reason → (A → List Reason) → List Reason
reasons_in None absent reasons = absent
reasons_in (Some x) absent reasons = reasons x

-- the reasons of a later step, which is taken where the one before gave a value
abbrev pub later_reasons : {A B : Type 0} → Result A Reason → (A → Result B Reason) → List Reason
later_reasons (Ok x) f = option_to_list (result_err (f x))
later_reasons (Err e) f = []

-- the reason that is reported is the smallest of these
abbrev pub TellsLeast : {A : Type 0} → Result A Reason → List Reason → Type 0
TellsLeast r reasons = result_err r ≡ least_of reasons

-- no reason holds, or this one does, and none that holds has a smaller number
abbrev pub IsLeast : {A : Type 0} → Result A Reason → List Reason → Type 0
IsLeast (Ok x) reasons = reasons ≡ []
IsLeast (Err e) reasons = Contains reasons e × All (λ d. reason_number e ≤ reason_number d) reasons
