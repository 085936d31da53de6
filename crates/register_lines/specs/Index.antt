-- A line of the file index.txt of `openssl ca`: STATUS END REVOKED SERIAL FILE NAME, with tabs between them.
use Rattle.std.specs.Prelude.{ℕ, ℤ, ◌==◌, cond, nat_lt, length, if◌then◌else◌, List, [], ◌∷◌, codes, Option, Some, None, Result, Ok, Err}
use Rattle.std.specs.List.{after_first, before_first, position_or_len}
use Rattle.std.specs.Option.{option_map, option_or}
use Rattle.std.specs.Str.{bytes_eq}
use Rattle.asn1_core.specs.Binds.{◌>>=◌}
use Rattle.asn1_core.specs.GeneralizedTime.{generalized_time_contents}
use Rattle.asn1_core.specs.Twos.{unsigned}
use Rattle.asn1_core.specs.UtcTime.{utc_time_contents}
use Rattle.hex.specs.Hex.{decode_of}
use Rattle.hex.specs.declared.error.FromHexError.{FromHexError}
use Rattle.jiff.specs.Words.{civil_seconds}
use Rattle.register_record.specs.declared.event.Reason.{Reason}
use Rattle.register_record.specs.declared.event.Reason.TheVariants as reason
use Rattle.register_record.specs.declared.event.Revocation.{Revocation}
use Rattle.register_lines.specs.declared.index.Indexed.{Indexed}

-- what is before the first such octet, and after it
unfoldable pub cut : ℕ → List ℕ → Option (List ℕ × List ℕ)
cut c text =
    cond (nat_lt (position_or_len (λ b. b == c) text) (length text)) (Some (before_first (λ b. b == c) text, after_first (λ b. b == c) text)) None

-- a UTCTime or a GeneralizedTime, in seconds since 1970
unfoldable pub time_in : List ℕ → Option ℤ
time_in text =
    option_or (option_map (λ t. civil_seconds t.at) (utc_time_contents.of text)) (option_map (λ t. civil_seconds t.at) (generalized_time_contents.of text))

-- the octets of a number, of which there is one at least
abbrev pub number_from : List ℕ → Option (List ℕ)
number_from [] = None
number_from (o ∷ os) = Some (unsigned (o ∷ os))

-- the same in hexadecimal digits
abbrev pub number_of : Result (List ℕ) FromHexError → Option (List ℕ)
number_of (Ok octets) = number_from octets
number_of (Err e) = None

-- ---- the third field

-- a reason by its name there
unfoldable pub reason_named : List ℕ → Option Reason
reason_named word =
    if bytes_eq word (codes "unspecified") then Some reason.Unspecified
    else if bytes_eq word (codes "keyCompromise") then Some reason.KeyCompromise
    else if bytes_eq word (codes "CACompromise") then Some reason.CaCompromise
    else if bytes_eq word (codes "affiliationChanged") then Some reason.AffiliationChanged
    else if bytes_eq word (codes "superseded") then Some reason.Superseded
    else if bytes_eq word (codes "cessationOfOperation") then Some reason.CessationOfOperation
    else if bytes_eq word (codes "certificateHold") then Some reason.CertificateHold
    else None

abbrev pub revocation : ℤ → Reason → Option ℤ → Revocation
revocation time reason invalid = record { time = time; reason = reason; invalidity_date = invalid }

-- a reason with what follows it: an instruction on a hold, or the date since which a key is not to be trusted
unfoldable pub with_extra : ℤ → List ℕ → List ℕ → Option Revocation
with_extra time word extra =
    if bytes_eq word (codes "holdInstruction") then Some (revocation time reason.CertificateHold None)
    else if bytes_eq word (codes "keyTime") then option_map (λ d. revocation time reason.KeyCompromise (Some d)) (time_in extra)
    else if bytes_eq word (codes "CAkeyTime") then option_map (λ d. revocation time reason.CaCompromise (Some d)) (time_in extra)
    else None

abbrev pub with_reason : ℤ → List ℕ → Option (List ℕ × List ℕ) → Option Revocation
with_reason time text None = option_map (λ r. revocation time r None) (reason_named text)
with_reason time text (Some parts) = with_extra time parts.0 parts.1

abbrev pub revoked_from : List ℕ → Option (List ℕ × List ℕ) → Option Revocation
revoked_from text None = option_map (λ t. revocation t reason.Unspecified None) (time_in text)
revoked_from text (Some parts) = time_in parts.0 >>= λ t. with_reason t parts.1 (cut 44 parts.1)

-- TIME, TIME,REASON or TIME,REASON,EXTRA
unfoldable pub revoked_in : List ℕ → Option Revocation
revoked_in text = revoked_from text (cut 44 text)

-- ---- the line

abbrev pub entry : List ℕ → Option Revocation → Indexed
entry serial revocation = record { serial = serial; revocation = revocation }

-- an empty text has no revocation
unfoldable pub unchanged_in : List ℕ → Option (Option Revocation)
unchanged_in text = if bytes_eq text (codes "") then Some None else None

-- V is valid, E expired, and R revoked: it alone has a third field
unfoldable pub change_in : List ℕ → List ℕ → Option (Option Revocation)
change_in status text =
    if bytes_eq status (codes "V") then unchanged_in text
    else if bytes_eq status (codes "E") then unchanged_in text
    else if bytes_eq status (codes "R") then option_map Some (revoked_in text)
    else None

-- the first four fields
unfoldable pub fields : List ℕ → Option (List ℕ × List ℕ × List ℕ × List ℕ)
fields line = do
  status ← cut 9 line
  end ← cut 9 status.1
  revoked ← cut 9 end.1
  serial ← cut 9 revoked.1
  file ← cut 9 serial.1
  Some (status.0, end.0, revoked.0, serial.0)

unfoldable pub indexed : List ℕ → Option Indexed
indexed line = do
  parts ← fields line
  end ← time_in parts.1
  change ← change_in parts.0 parts.2
  number ← number_of (decode_of parts.3)
  Some (entry number change)
