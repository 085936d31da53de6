-- A result that goes on where it is one.
use Rattle.std.specs.Prelude.{Err, Ok, Result}
use Rattle.der_tree.specs.declared.error.EncodeError.{EncodeError}

abbrev pub ok_then : {A B : Type 0} → Result A EncodeError → (A → Result B EncodeError) → Result B EncodeError
ok_then (Ok x) f = f x
ok_then (Err e) f = Err e

-- a result, with its error's type known
abbrev pub done : {A : Type 0} → A → Result A EncodeError
done x = Ok x
