-- What is read, or the first fault.
use Rattle.std.specs.Prelude.{◌≡◌, ℕ, not, List, [], ◌∷◌, ◌++◌, Option, Some, None, Result, Ok, Err, ok_or}
use Rattle.std.specs.Str.{is_utf8}
use Rattle.der_tree.specs.Codec.{Codec}
use Rattle.der_tree.specs.Form.{value_of}
use Rattle.rcgen_text.specs.Causes.{Cause, Origin, memory, key, cause, origin_of, not_certificate, when}
use Rattle.rcgen_text.specs.declared.error.Error.{Error}

-- ---- what a table says

-- a step, and what goes on after it
abbrev pub and_then : {A B : Type 0} → Result A Cause → (A → Result B Cause) → Result B Cause
and_then (Ok x) f = f x
and_then (Err c) f = Err c

-- the value, where there is no cause against it
abbrev pub unless_cause : {A : Type 0} → Option Cause → A → Result A Cause
unless_cause None x = Ok x
unless_cause (Some c) x = Err c

-- the items in order, each onto what there is; the first fault is the answer
abbrev pub try_fold : {S A : Type 0} → (S → A → Result S Cause) → S → List A → Result S Cause
try_fold step s [] = Ok s
try_fold step s (x ∷ xs) = and_then (step s x) (λ t. try_fold step t xs)

-- each item is read, in order
abbrev pub read_each : {A B : Type 0} → (A → Result B Cause) → List B → List A → Result (List B) Cause
read_each read = try_fold (λ ys x. and_then (read x) (λ y. Ok (ys ++ y ∷ [])))

-- the value of which the bytes are exactly the form, and the cause where there is none
abbrev pub read_exactly : {A : Type 0} → Codec A → Cause → List ℕ → Result A Cause
read_exactly c otherwise bytes = ok_or (value_of c bytes) otherwise

-- octets that are no UTF-8
abbrev pub not_utf8 : List ℕ → Option Cause
not_utf8 octets = when (not (is_utf8 octets)) not_certificate

-- ---- what a call answers

-- Memory may run out at any time, no key is asked, and a cause is the first fault.
abbrev pub MayRead : {A : Type 0} → Result A Cause → Origin → Type 0
MayRead found memory = Unit {0}
MayRead found key = ⊥
MayRead found (cause c) = found ≡ Err c

-- what the table says, seen so
abbrev pub ReadsAs : {A X : Type 0} → (X → A) → Result A Cause → Result X Error → Type 0
ReadsAs view found (Ok x) = found ≡ Ok (view x)
ReadsAs view found (Err e) = MayRead found (origin_of e)

-- the same, where what is read is related to what the table says
abbrev pub Reads : {A X : Type 0} → (X → A → Type 0) → Result A Cause → Result X Error → Type 0
Reads IsRead found (Ok x) = (a : _) × (found ≡ Ok a) × IsRead x a
Reads IsRead found (Err e) = MayRead found (origin_of e)
