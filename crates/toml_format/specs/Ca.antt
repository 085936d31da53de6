-- Whether a certificate is that of an authority: one of three words, or a length of at most 255 of the paths below it.
use Rattle.std.specs.Prelude.{ℕ, List, [], ◌∷◌, codes, ℤ, Option, Some, None, Result, Err}
use Rattle.std.specs.Option.{ok_or, option_map}
use Rattle.toml.specs.Data.{Data, as_str, as_integer}
use Rattle.toml_format.specs.ValueReading.{within}
use Rattle.toml_format.specs.Words.{word_of}
use Rattle.rcgen_text.specs.declared.basic_constraints.BasicConstraints.TheVariants.{Unconstrained, Constrained}
use Rattle.rcgen_text.specs.declared.basic_constraints.IsCa.{IsCa}
use Rattle.rcgen_text.specs.declared.basic_constraints.IsCa.TheVariants.{NoCa, ExplicitNoCa, Ca}
use Rattle.toml_format.specs.declared.reason.Reason.{Reason}
use Rattle.toml_format.specs.declared.reason.Reason.TheVariants.{WrongType, WrongValue}

unfoldable pub ca_word : List ℕ → Option IsCa
ca_word = word_of ((codes "no", NoCa) ∷ (codes "explicit", ExplicitNoCa) ∷ (codes "unconstrained", Ca Unconstrained) ∷ [])

unfoldable pub path_length : ℤ → Option IsCa
path_length number = option_map (λ n. Ca (Constrained n)) (within 0 255 number)

abbrev pub ca_of : Option (List ℕ) → Option ℤ → Result IsCa Reason
ca_of (Some text) number = ok_or (ca_word text) WrongValue
ca_of None (Some number) = ok_or (path_length number) WrongValue
ca_of None None = Err WrongType

unfoldable pub ca : Data → Result IsCa Reason
ca d = ca_of (as_str d) (as_integer d)
