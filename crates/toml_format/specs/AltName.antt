-- An alternative name: `dns:`, `email:` or `uri:` and an ASCII text, `ip:` and the text of an address, or `other:ARCS:` and a text.
use Rattle.std.specs.Prelude.{ℕ, ◌==◌, if◌then◌else◌, List, [], ◌∷◌, codes, Option, Some, None}
use Rattle.std.specs.Option.{option_map}
use Rattle.asn1_core.specs.Binds.{◌>>=◌}
use Rattle.rcgen_text.specs.Strings.{is_ia5}
use Rattle.toml_format.specs.Addresses.{address}
use Rattle.toml_format.specs.Arcs.{arcs}
use Rattle.toml_format.specs.Separator.{at_separator}
use Rattle.toml_format.specs.Texts.{text_in_set}
use Rattle.toml_format.specs.Words.{word_of}
use Rattle.toml_format.specs.declared.alt_name.AltName.{AltName}
use Rattle.toml_format.specs.declared.alt_name.AltName.TheVariants.{Dns, Email, Uri, Ip, Other}

-- arcs hold no `=`, so the first separator is the next `:`
unfoldable pub other_name : List ℕ → Option AltName
other_name text = do
  x ← at_separator text
  oid ← arcs x.0
  if x.1 == 58 then Some (Other oid x.2) else None

unfoldable pub alt_name_of : List ℕ → List ℕ → Option AltName
alt_name_of kind text =
    word_of (
    (codes "dns", option_map Dns (text_in_set is_ia5 text))
    ∷ (codes "email", option_map Email (text_in_set is_ia5 text))
    ∷ (codes "uri", option_map Uri (text_in_set is_ia5 text))
    ∷ (codes "ip", option_map Ip (address.value_of text))
    ∷ (codes "other", other_name text)
    ∷ []
    ) kind >>= (λ found. found)

unfoldable pub alt_name : List ℕ → Option AltName
alt_name text = do
  x ← at_separator text
  if x.1 == 58 then alt_name_of x.0 x.2 else None
