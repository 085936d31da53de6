-- How the signing key signs.
use Rattle.std.specs.Prelude.{ℕ, List, [], ◌∷◌, codes, Option, Result, Ok}
use Rattle.toml_format.specs.Tables.{TableFormat, no_keys, ◌&◌, optional, fields}
use Rattle.toml_format.specs.Values.{text_as}
use Rattle.toml_format.specs.Words.{word_of}
use Rattle.toml_format.specs.declared.reason.Reason.{Reason}
use Rattle.shelf_profile.specs.declared.digest.Digest.{Digest}
use Rattle.shelf_profile.specs.declared.digest.Digest.TheVariants.{Sha256, Sha384, Sha512}
use Rattle.shelf_profile.specs.declared.padding.Padding.{Padding}
use Rattle.shelf_profile.specs.declared.padding.Padding.TheVariants.{Pkcs1, Pss}
use Rattle.shelf_profile.specs.declared.signing.Signing.{Signing}

-- a hash function (FIPS 180-4)
unfoldable pub digest : List ℕ → Option Digest
digest = word_of ((codes "sha256", Sha256) ∷ (codes "sha384", Sha384) ∷ (codes "sha512", Sha512) ∷ [])

-- the padding of an RSA signature: RSASSA-PKCS1-v1_5 or RSASSA-PSS (RFC 8017, 8)
unfoldable pub padding : List ℕ → Option Padding
padding = word_of ((codes "pkcs1", Pkcs1) ∷ (codes "pss", Pss) ∷ [])

-- the values at the keys, in order
abbrev pub SigningValues : Type 0
SigningValues = (Unit {0} × Option Digest) × Option Padding

unfoldable pub signing_of : SigningValues → Result Signing Reason
signing_of ((_, digest), padding) = Ok (record { digest = digest; padding = padding })

unfoldable pub signing_values : TableFormat SigningValues
signing_values =
    no_keys
    & optional (codes "digest") (text_as digest)
    & optional (codes "padding") (text_as padding)

abbrev pub signing : TableFormat Signing
signing = fields signing_values signing_of
