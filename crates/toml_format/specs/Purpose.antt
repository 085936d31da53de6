-- A purpose of an extended key usage (RFC 5280, 4.2.1.12): its word, or arcs.
use Rattle.std.specs.Prelude.{ℕ, List, [], ◌∷◌, codes, Option}
use Rattle.std.specs.Option.{option_map}
use Rattle.toml_format.specs.Arcs.{arcs}
use Rattle.toml_format.specs.Words.{word_or}
use Rattle.toml_format.specs.declared.purpose.Purpose.{Purpose}
use Rattle.toml_format.specs.declared.purpose.Purpose.TheVariants.{Any, ServerAuth, ClientAuth, CodeSigning, EmailProtection}
use Rattle.toml_format.specs.declared.purpose.Purpose.TheVariants.{TimeStamping, OcspSigning, Other}

unfoldable pub purpose : List ℕ → Option Purpose
purpose text = word_or (
    (codes "any", Any)
    ∷ (codes "serverAuth", ServerAuth)
    ∷ (codes "clientAuth", ClientAuth)
    ∷ (codes "codeSigning", CodeSigning)
    ∷ (codes "emailProtection", EmailProtection)
    ∷ (codes "timeStamping", TimeStamping)
    ∷ (codes "OCSPSigning", OcspSigning)
    ∷ []
    ) (option_map Other (arcs text)) text
