-- The entries of a revocation list (RFC 5280, 5.1.2.6) as lines of a text: `SERIAL TIME [REASON [INVALID]]`.
use Rattle.std.specs.Prelude.{ℕ, suc, Bool, true, ◌==◌, if◌then◌else◌, List, [], ◌∷◌, ◌++◌, codes, Option, Some, None, option_to_list, Result, Ok, Err}
use Rattle.std.specs.List.{slice_split}
use Rattle.std.specs.Option.{option_and_then, option_map}
use Rattle.std.specs.Str.{bytes_eq, is_utf8}
use Rattle.std.specs.Str.Lines.{lines}
use Rattle.rcgen_text.specs.declared.revocation_reason.RevocationReason.{RevocationReason}
use Rattle.toml_format.specs.RevocationList.{revocation_reason}
use Rattle.toml_format.specs.TimeText.{TimestampView, date_time}
use Rattle.toml_format.specs.declared.revocation_list.Revoked.{Revoked}
use Rattle.shelf_profile.specs.RevocationList.{is_reason}
use Rattle.shelf_profile.specs.Serial.{serial}
use Rattle.revoked_lines.specs.declared.words.Words.{Words as LentWords}
use Rattle.shelf_fault.specs.Faults.{and_then, some_or}
use Rattle.shelf_fault.specs.declared.fault.Fault.{Fault}
use Rattle.shelf_fault.specs.declared.fault.Fault.TheVariants.{RevokedLine, RevokedText}
use Rattle.shelf_fault.specs.declared.fault.LineFault.TheVariants.{Invalid, Reason, Serial, Time, Words}

-- ---- the words of a line

pub record WordsView : Type 0 where
  pub serial : List ℕ
  pub time : List ℕ
  pub reason : Option (List ℕ)
  pub invalid : Option (List ℕ)

-- what is between single spaces
abbrev pub split_words : List ℕ → List (List ℕ)
split_words line = slice_split (λ b. b == 32) line

-- those of the words that are lent
abbrev pub words_view : LentWords → WordsView
words_view w = record { serial = w.serial.now; time = w.time.now; reason = option_map (λ r. r.now) w.reason; invalid = option_map (λ i. i.now) w.invalid }

-- two to four words
abbrev pub named_words : List (List ℕ) → Option WordsView
named_words (s ∷ t ∷ []) = Some (record { serial = s; time = t; reason = None; invalid = None })
named_words (s ∷ t ∷ r ∷ []) = Some (record { serial = s; time = t; reason = Some r; invalid = None })
named_words (s ∷ t ∷ r ∷ i ∷ []) = Some (record { serial = s; time = t; reason = Some r; invalid = Some i })
named_words _ = None

unfoldable pub words_of : List ℕ → Option WordsView
words_of line = named_words (split_words line)

-- ---- the entry that they say; each word is read as in an order

-- no reason
abbrev pub is_dash : List ℕ → Bool
is_dash word = bytes_eq word (codes "-")

abbrev pub if_allowed : Bool → RevocationReason → Option RevocationReason
if_allowed is_delta r = if is_reason is_delta (Some r) then Some r else None

-- a reason that an entry of a list may have: removeFromCRL is for delta lists (RFC 5280, 5.3.1)
unfoldable pub entry_reason : Bool → List ℕ → Option RevocationReason
entry_reason is_delta word = option_and_then (if_allowed is_delta) (revocation_reason word)

unfoldable pub serial_in : ℕ → List ℕ → Result (List ℕ) Fault
serial_in number word = some_or (serial word) (RevokedLine number Serial)

unfoldable pub time_in : ℕ → List ℕ → Result TimestampView Fault
time_in number word = some_or (date_time word) (RevokedLine number Time)

unfoldable pub reason_in : Bool → ℕ → Option (List ℕ) → Result (Option RevocationReason) Fault
reason_in is_delta number None = Ok None
reason_in is_delta number (Some word) =
    if is_dash word then Ok None else some_or (option_map Some (entry_reason is_delta word)) (RevokedLine number Reason)

unfoldable pub invalid_in : ℕ → Option (List ℕ) → Result (Option TimestampView) Fault
invalid_in number None = Ok None
invalid_in number (Some word) = some_or (option_map Some (date_time word)) (RevokedLine number Invalid)

-- the entry of these words, on the line of this number, in a delta list or in a complete one; of several that can't be read the first is the fault
unfoldable pub entry_of : Bool → ℕ → WordsView → Result Revoked Fault
entry_of is_delta number w =
    and_then (serial_in number w.serial) (λ serial.
    and_then (time_in number w.time) (λ time.
    and_then (reason_in is_delta number w.reason) (λ reason.
    and_then (invalid_in number w.invalid) (λ invalid.
    Ok (record { serial = serial; time = time; reason = reason; invalid = invalid })))))

-- ---- the lines of a text

-- an empty line, or a comment, which begins with #
abbrev pub is_comment : List ℕ → Bool
is_comment [] = true
is_comment (b ∷ bs) = b == 35

-- the entry of a line
unfoldable pub line_entry : Bool → ℕ → List ℕ → Result (Option Revoked) Fault
line_entry is_delta number line =
    if is_comment line then Ok None
    else and_then (some_or (words_of line) (RevokedLine number Words)) (λ w. and_then (entry_of is_delta number w) (λ e. Ok (Some e)))

-- these entries, and after them those of the lines, which follow so many others
abbrev pub with_lines : Bool → ℕ → List Revoked → List (List ℕ) → Result (List Revoked) Fault
with_lines is_delta count found [] = Ok found
with_lines is_delta count found (line ∷ rest) =
    and_then (line_entry is_delta (suc count) line) (λ e. with_lines is_delta (suc count) (found ++ option_to_list e) rest)

-- these entries, and after them those of a text, whose lines LF or CRLF end; the last one may have no such end
unfoldable pub with_text : Bool → List Revoked → List ℕ → Result (List Revoked) Fault
with_text is_delta found text = if is_utf8 text then with_lines is_delta 0 found (lines text) else Err RevokedText
