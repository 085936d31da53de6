-- What is read of a value of a TOML document, and which reasons hold in its parts.
use Rattle.std.specs.Prelude.{ℕ, ◌&&◌, nat_le, if◌then◌else◌, Bool, List, [], ◌∷◌, ◌++◌, ℤ, pos, negsuc, Option, Some, None, Result, Ok}
use Rattle.std.specs.Option.{ok_or}
use Rattle.toml.specs.Data.{Data, Items, no_items, item, as_str, as_bool, as_integer, as_array}
use Rattle.toml_format.specs.Outcome.{both, and_then, mapped, reasons_in}
use Rattle.toml_format.specs.declared.reason.Reason.{Reason}
use Rattle.toml_format.specs.declared.reason.Reason.TheVariants.{WrongType, WrongValue}

unfoldable pub read_text : Data → Result (List ℕ) Reason
read_text d = ok_or (as_str d) WrongType

unfoldable pub read_text_as : {A : Type 0} → (List ℕ → Option A) → Data → Result A Reason
read_text_as value_of d = and_then (read_text d) (λ s. ok_or (value_of s) WrongValue)

unfoldable pub read_boolean : Data → Result Bool Reason
read_boolean d = ok_or (as_bool d) WrongType

-- an integer from low to high
abbrev pub within : ℕ → ℕ → ℤ → Option ℕ
within low high (pos n) = if nat_le low n && nat_le n high then Some n else None
within low high (negsuc n) = None

unfoldable pub read_number : ℕ → ℕ → Data → Result ℕ Reason
read_number low high d = and_then (ok_or (as_integer d) WrongType) (λ n. ok_or (within low high n) WrongValue)

-- each item by itself
abbrev pub read_items : {A : Type 0} → (Data → Result A Reason) → Items → Result (List A) Reason
read_items read no_items = Ok []
read_items read (item d ds) = mapped (both (read d) (read_items read ds)) (λ x. x.0 ∷ x.1)

abbrev pub item_reasons : (Data → List Reason) → Items → List Reason
item_reasons reasons no_items = []
item_reasons reasons (item d ds) = reasons d ++ item_reasons reasons ds

unfoldable pub read_array : {A : Type 0} → (Data → Result A Reason) → Data → Result (List A) Reason
read_array read d = and_then (ok_or (as_array d) WrongType) (read_items read)

abbrev pub array_reasons : (Data → List Reason) → Data → List Reason
array_reasons reasons d = reasons_in (as_array d) (WrongType ∷ []) (item_reasons reasons)
