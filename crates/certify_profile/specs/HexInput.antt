-- Bytes in hexadecimal digits that are the input proper: a text that isn't hex has a reason of its own.
use Rattle.std.specs.Prelude.{ℕ, List, Result}
use Rattle.std.specs.List.{concat}
use Rattle.std.specs.Option.{ok_or}
use Rattle.toml.specs.Data.{Data}
use Rattle.toml_format.specs.Hex.{from_hex}
use Rattle.toml_format.specs.Outcome.{and_then}
use Rattle.toml_format.specs.ValueReading.{read_text}
use Rattle.toml_format.specs.Values.{ValueFormat, whole, array_of, as_made}
use Rattle.toml_format.specs.declared.reason.Reason.{Reason}
use Rattle.toml_format.specs.declared.reason.Reason.TheVariants.{NotHex}

unfoldable pub read_hex_input : Data → Result (List ℕ) Reason
read_hex_input d = and_then (read_text d) (λ s. ok_or (from_hex s) NotHex)

abbrev pub hex_input : ValueFormat (List ℕ)
hex_input = whole read_hex_input

-- the bytes of each text of an array, one after another
abbrev pub joined_hex : ValueFormat (List ℕ)
joined_hex = as_made concat (array_of hex_input)
