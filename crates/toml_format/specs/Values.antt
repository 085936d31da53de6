-- Formats of values of a TOML document.
use Rattle.std.specs.Prelude.{ℕ, Bool, List, Option, Result, option_to_list}
use Rattle.std.specs.Result.{result_err}
use Rattle.toml.specs.Data.{Data}
use Rattle.toml_format.specs.Outcome.{TellsLeast, mapped}
use Rattle.toml_format.specs.ValueReading.{read_text, read_text_as, read_boolean, read_number, read_array, array_reasons}
use Rattle.toml_format.specs.declared.reason.Reason.{Reason}
use Rattle.toml_format.specs.laws.LeastReasons.{tells_one, tells_mapped}
use Rattle.toml_format.specs.laws.Values.{array_tells}

pub record ValueFormat (A : Type 0) : Type 0 where
  -- what the value represents, or the least reason against it
  pub read : Data → Result A Reason
  -- each reason that holds in some part of the value
  pub reasons : Data → List Reason
  pub tells : (d : Data) → TellsLeast (read d) (reasons d)

-- a value that is looked at as a whole
abbrev pub whole : {A : Type 0} → (Data → Result A Reason) → ValueFormat A
whole read = record { read = read; reasons = λ d. option_to_list (result_err (read d)); tells = λ d. tells_one (read d) }

-- any text
abbrev pub text : ValueFormat (List ℕ)
text = whole read_text

-- a text that represents a value
abbrev pub text_as : {A : Type 0} → (List ℕ → Option A) → ValueFormat A
text_as value_of = whole (read_text_as value_of)

-- true or false
abbrev pub boolean : ValueFormat Bool
boolean = whole read_boolean

-- an integer from low to high
abbrev pub number_within : ℕ → ℕ → ValueFormat ℕ
number_within low high = whole (read_number low high)

-- what f makes of the value
abbrev pub as_made : {A B : Type 0} → (A → B) → ValueFormat A → ValueFormat B
as_made f g = record {
  read = λ d. mapped (g.read d) f;
  reasons = g.reasons;
  tells = λ d. tells_mapped (g.read d) f (g.reasons d) (g.tells d);
}

-- an array of values of one format
abbrev pub array_of : {A : Type 0} → ValueFormat A → ValueFormat (List A)
array_of f = record { read = read_array f.read; reasons = array_reasons f.reasons; tells = array_tells f.read f.reasons f.tells }
