-- How the identifier of a key is made: a hash function's word, or the bytes after `hex:`.
use Rattle.std.specs.Prelude.{ℕ, if◌then◌else◌, List, [], ◌∷◌, take, drop, codes, Option}
use Rattle.std.specs.Option.{option_map}
use Rattle.std.specs.Str.{bytes_eq}
use Rattle.toml_format.specs.Hex.{from_hex}
use Rattle.toml_format.specs.Words.{word_of}
use Rattle.toml_format.specs.declared.key_id.KeyId.{KeyId}
use Rattle.toml_format.specs.declared.key_id.KeyId.TheVariants.{Sha256, Sha384, Sha512, PreSpecified}

unfoldable pub key_id : List ℕ → Option KeyId
key_id text =
    if bytes_eq (take 4 text) (codes "hex:") then option_map PreSpecified (from_hex (drop 4 text))
    else word_of ((codes "sha256", Sha256) ∷ (codes "sha384", Sha384) ∷ (codes "sha512", Sha512) ∷ []) text
