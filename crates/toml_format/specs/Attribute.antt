-- An entry of a name: `TYPE=value` or `TYPE:KIND=value`, where the value has the characters of its kind.
use Rattle.std.specs.Prelude.{ℕ, ◌==◌, if◌then◌else◌, List, [], ◌∷◌, codes, Option, Some, None}
use Rattle.std.specs.Option.{option_map}
use Rattle.asn1_core.specs.Binds.{◌>>=◌}
use Rattle.asn1_core.specs.StringTypes.{is_printable}
use Rattle.rcgen_text.specs.DnTypes.{Kind, country_name, locality_name, state_or_province_name, organization_name}
use Rattle.rcgen_text.specs.DnTypes.{organizational_unit_name, common_name, type_of_arcs}
use Rattle.rcgen_text.specs.DnValues.{Text, bmp_string, ia5_string, printable_string, teletex_string, universal_string, utf8_string}
use Rattle.rcgen_text.specs.Names.{Entry}
use Rattle.rcgen_text.specs.Strings.{is_ia5, is_teletex, utf32be}
use Rattle.toml_format.specs.Arcs.{arcs}
use Rattle.toml_format.specs.Separator.{at_separator}
use Rattle.toml_format.specs.Texts.{text_in_set, text_in_bmp}
use Rattle.toml_format.specs.Words.{word_of, word_or}

unfoldable pub attribute_type : List ℕ → Option Kind
attribute_type text = word_or (
    (codes "C", country_name)
    ∷ (codes "L", locality_name)
    ∷ (codes "ST", state_or_province_name)
    ∷ (codes "O", organization_name)
    ∷ (codes "OU", organizational_unit_name)
    ∷ (codes "CN", common_name)
    ∷ []
    ) (option_map type_of_arcs (arcs text)) text

-- a text of the kind that the word says
unfoldable pub text_of_kind : List ℕ → List ℕ → Option Text
text_of_kind kind text =
    word_of (
    (codes "bmp", option_map bmp_string (text_in_bmp text))
    ∷ (codes "ia5", option_map ia5_string (text_in_set is_ia5 text))
    ∷ (codes "printable", option_map printable_string (text_in_set is_printable text))
    ∷ (codes "teletex", option_map teletex_string (text_in_set is_teletex text))
    ∷ (codes "universal", Some (universal_string (utf32be text)))
    ∷ (codes "utf8", Some (utf8_string text))
    ∷ []
    ) kind >>= (λ found. found)

-- the text after the type and a separator; its kind is UTF-8 where none is given
unfoldable pub value_of : ℕ → List ℕ → Option Text
value_of separator text =
    if separator == 61 then Some (utf8_string text)
    else (at_separator text >>= λ x. if x.1 == 61 then text_of_kind x.0 x.2 else None)

unfoldable pub attribute : List ℕ → Option Entry
attribute text = do
  x ← at_separator text
  dn_type ← attribute_type x.0
  value ← value_of x.1 x.2
  Some (record { dn_type = dn_type; text = value })
