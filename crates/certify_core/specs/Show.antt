-- The certificate that is shown.
use Rattle.std.specs.Prelude.{◌≡◌, ℕ, ◌-◌, Bool, if◌then◌else◌, List, length, take, drop, codes, Option, Some, None}
use Rattle.std.specs.Str.{bytes_eq}
use Rattle.der_tree.specs.Form.{IsDerOf}
use Rattle.pkix_cert.specs.Certificates.{certificate}
use Rattle.pkix_cert.specs.declared.certificate.Certificate.{Certificate}
use Rattle.toml_format.specs.Hex.{from_hex}
use Rattle.toml_format.specs.declared.reason.Reason.{Reason}
use Rattle.toml_format.specs.declared.reason.Reason.TheVariants.{NotHex, NotOneValue}

-- the last byte is a line feed
abbrev pub ends_line : List ℕ → Bool
ends_line input = bytes_eq (drop (length input - 1) input) (codes "\n")

-- all but one line feed at the end
abbrev pub without_line_feed : List ℕ → List ℕ
without_line_feed input = if ends_line input then take (length input - 1) input else input

-- the bytes that are shown
unfoldable pub shown_bytes : List ℕ → Option (List ℕ)
shown_bytes input = from_hex (without_line_feed input)

-- the input is hex of exactly this certificate
pub record Shows (input : List ℕ) (c : Certificate) : Type 0 where
  pub bytes : List ℕ
  pub hex : shown_bytes input ≡ Some bytes
  pub form : IsDerOf certificate c bytes

-- the input is hex, but not of exactly one certificate
pub record ShowsNone (input : List ℕ) : Type 0 where
  pub bytes : List ℕ
  pub hex : shown_bytes input ≡ Some bytes
  pub none : (c : Certificate) → ¬ (IsDerOf certificate c bytes)

-- nothing is shown, for this reason
abbrev pub HasShowReason : List ℕ → Reason → Type 0
HasShowReason input NotHex = shown_bytes input ≡ None
HasShowReason input NotOneValue = ShowsNone input
HasShowReason input _ = ⊥
