-- The order of the next list, and the lines of its entries, as `shelf` reads them.
use Rattle.std.specs.Prelude.{◌≡◌, ℕ, ℤ, Bool, true, false, ◌&&◌, List, [], ◌∷◌, ◌++◌, codes, Option, Some, None}
use Rattle.std.specs.List.{list_all}
use Rattle.asn1_core.specs.Unsigned.{unsigned_64_contents}
use Rattle.hex.specs.Hex.{encode_lower}
use Rattle.register_record.specs.declared.list.Entry.{Entry}
use Rattle.register_record.specs.declared.list.NextList.{NextList}
use Rattle.register_record.specs.declared.state.Change.{Change}
use Rattle.register_record.specs.declared.state.Change.TheVariants.{Revoked, Released}
use Rattle.register_words.specs.Json.{reason_word}
use Rattle.register_lines.specs.Times.{IsTimeText, has_year}
use Rattle.register_lines.specs.declared.order.ListOrder.{ListOrder}
use Rattle.register_lines.specs.declared.order.OrderError.{OrderError}
use Rattle.register_lines.specs.declared.order.OrderError.TheVariants as order

-- ---- entries

-- a space and the date since which the key is not to be trusted, where there is one
abbrev pub IsInvalidText : Option ℤ → List ℕ → Type 0
IsInvalidText None text = text ≡ []
IsInvalidText (Some seconds) text = (time : List ℕ) × IsTimeText seconds time × (text ≡ codes " " ++ time)

-- SERIAL TIME REASON [INVALID]
pub record IsEntryLine (serial : List ℕ) (at : ℤ) (reason : List ℕ) (date : Option ℤ) (line : List ℕ) : Type 0 where
  pub time : List ℕ
  pub time_is : IsTimeText at time
  pub invalid : List ℕ
  pub invalid_is : IsInvalidText date invalid
  pub line_is : line ≡ encode_lower serial ++ codes " " ++ time ++ codes " " ++ reason ++ invalid ++ codes "\n"

unfoldable pub removal_word : List ℕ
removal_word = codes "removeFromCRL"

-- a certificate that was on hold and is released leaves the lists (RFC 5280, 5.3.1)
abbrev pub IsChangeText : List ℕ → Change → List ℕ → Type 0
IsChangeText serial (Released time) text = IsEntryLine serial time removal_word None text
IsChangeText serial (Revoked r) text = IsEntryLine serial r.time (reason_word r.reason) r.invalidity_date text

-- the lines of the entries, in order
abbrev pub AreLines : List Entry → List ℕ → Type 0
AreLines [] text = text ≡ []
AreLines (e ∷ es) text = (line rest : List ℕ) × IsChangeText e.serial e.change line × AreLines es rest × (text ≡ line ++ rest)

-- ---- the order

-- the contents octets of the number as an INTEGER, in hexadecimal digits
abbrev pub IsNumberText : ℕ → List ℕ → Type 0
IsNumberText n text = (octets : List ℕ) × (unsigned_64_contents.to n ≡ Some octets) × (text ≡ encode_lower octets)

-- a line of a key and its text
abbrev pub key_line : List ℕ → List ℕ → List ℕ
key_line key text = key ++ codes " = \"" ++ text ++ codes "\"\n"

-- the line of the base, which a delta list alone has
abbrev pub IsBaseLine : Option ℕ → List ℕ → Type 0
IsBaseLine None text = text ≡ []
IsBaseLine (Some n) text = (digits : List ℕ) × IsNumberText n digits × (text ≡ key_line (codes "base") digits)

-- the keys that the list decides, and then the further lines
pub record IsOrder (list : NextList) (more text : List ℕ) : Type 0 where
  pub number : List ℕ
  pub number_is : IsNumberText list.number number
  pub base : List ℕ
  pub base_is : IsBaseLine list.base base
  pub this_update : List ℕ
  pub this_is : IsTimeText list.this_update this_update
  pub next_update : List ℕ
  pub next_is : IsTimeText list.next_update next_update
  pub text_is :
      text ≡ key_line (codes "kind") (codes "list") ++ key_line (codes "number") number ++ base
      ++ key_line (codes "this_update") this_update ++ key_line (codes "next_update") next_update ++ more

pub record IsListOrder (list : NextList) (more : List ℕ) (o : ListOrder) : Type 0 where
  pub order : IsOrder list more o.order.items
  pub revoked : AreLines list.entries.items o.revoked.items

-- ---- times without a text

abbrev pub has_year_if : Option ℤ → Bool
has_year_if None = true
has_year_if (Some seconds) = has_year seconds

abbrev pub has_change_text : Change → Bool
has_change_text (Released time) = has_year time
has_change_text (Revoked r) = has_year r.time && has_year_if r.invalidity_date

-- each time of the list and of its entries is of a year from 0 to 9999
abbrev pub has_texts : NextList → Bool
has_texts list = has_year list.this_update && has_year list.next_update && list_all (λ e. has_change_text e.change) list.entries.items

abbrev pub ExplainsOrder : NextList → OrderError → Type 0
ExplainsOrder list order.Time = has_texts list ≡ false
ExplainsOrder list order.OutOfMemory = Unit {0}
