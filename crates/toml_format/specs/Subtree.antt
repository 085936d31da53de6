-- A subtree of names: `dns:`, `email:` or `dir:` and a text, or `net:` and the text of a subnet.
use Rattle.std.specs.Prelude.{ℕ, ◌==◌, if◌then◌else◌, List, [], ◌∷◌, codes, Option, Some, None}
use Rattle.std.specs.Option.{option_map}
use Rattle.asn1_core.specs.Binds.{◌>>=◌}
use Rattle.toml_format.specs.Addresses.{subnet}
use Rattle.toml_format.specs.Separator.{at_separator}
use Rattle.toml_format.specs.Words.{word_of}
use Rattle.toml_format.specs.declared.subtree.Subtree.{Subtree}
use Rattle.toml_format.specs.declared.subtree.Subtree.TheVariants.{Dns, Email, Directory, Net}

unfoldable pub subtree_of : List ℕ → List ℕ → Option Subtree
subtree_of kind text =
    word_of (
    (codes "dns", Some (Dns text))
    ∷ (codes "email", Some (Email text))
    ∷ (codes "dir", Some (Directory text))
    ∷ (codes "net", option_map Net (subnet.value_of text))
    ∷ []
    ) kind >>= (λ found. found)

unfoldable pub subtree : List ℕ → Option Subtree
subtree text = do
  x ← at_separator text
  if x.1 == 58 then subtree_of x.0 x.2 else None
