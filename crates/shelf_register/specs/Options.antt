-- What the options of a subcommand say.
use Rattle.std.specs.Prelude.{◌≡◌, ℕ, ℤ, Bool, true, false, ◌%◌, codes, drop, find, if◌then◌else◌, is_some, length, nat_eq, string_bytes, List, [], ◌∷◌, Option, Some, None, Ok}
use Rattle.std.specs.List.{starts_with}
use Rattle.asn1_core.specs.Binds.{◌>>=◌}
use Rattle.asn1_core.specs.Twos.{unsigned}
use Rattle.hex.specs.Hex.{decode_of}
use Rattle.register_record.specs.declared.event.ListKind.{ListKind}
use Rattle.register_record.specs.declared.event.ListKind.TheVariants.{Complete, Delta}
use Rattle.register_words.specs.declared.finding.Query.{Query}
use Rattle.register_words.specs.declared.finding.Status.{Status}
use Rattle.register_words.specs.declared.finding.Status.TheVariants as status
use Rattle.shelf_register.specs.contracts.options.OptPartialEq.TheImpl.{ghosts as equality}
use Rattle.shelf_register.specs.declared.finding.Form.{Form}
use Rattle.shelf_register.specs.declared.finding.Form.TheVariants as form
use Rattle.shelf_register.specs.declared.options.Given.{Given}
use Rattle.shelf_register.specs.declared.options.Opt.{Opt}
use Rattle.shelf_register.specs.declared.options.Opt.TheVariants as opt

abbrev pub same : Opt → Opt → Bool
same = equality.eq

-- the value of an option that is given
unfoldable pub value_of : Opt → List Given → Option (List ℕ)
value_of o given = find (λ g. same g.option o) given >>= λ g. Some (string_bytes g.value)

abbrev pub has : Opt → List Given → Bool
has o given = is_some (value_of o given)

-- ---- `list`

abbrev pub kind_of : List Given → ListKind
kind_of given = if has opt.Delta given then Delta else Complete

-- ---- `find`

abbrev pub form_of : List Given → Form
form_of given = if has opt.Json given then form.Json else if has opt.Pem given then form.Pem else form.Lines

-- those that end soon are asked for where they are issued, and neither revoked nor on hold
abbrev pub status_asked : List Given → Option Status
status_asked given =
    if has opt.Revoked given then Some status.Revoked else if has opt.OnHold given then Some status.OnHold
    else if has opt.Pending given then Some status.Pending else if has opt.ExpiresWithin given then Some status.Issued else None

-- hexadecimal digits, maybe with 0x before them
abbrev pub digits_in : List ℕ → List ℕ
digits_in text = if starts_with nat_eq text (codes "0x") then drop 2 text else text

-- with a zero before an odd number of them
abbrev pub even : List ℕ → List ℕ
even digits = if nat_eq (length digits % 2) 1 then 48 ∷ digits else digits

-- the number that a text says
pub record IsNumber (text serial : List ℕ) : Type 0 where
  pub octets : List ℕ
  pub decoded : decode_of (even (digits_in text)) ≡ Ok octets
  pub serial_is : serial ≡ unsigned octets

abbrev pub IsSerialAsked : Option (List ℕ) → Option (List ℕ) → Type 0
IsSerialAsked None asked = asked ≡ None
IsSerialAsked (Some text) None = ⊥
IsSerialAsked (Some text) (Some serial) = IsNumber text serial

-- from now to some time, where that is asked
abbrev pub IsTimeAsked : Option (List ℕ) → ℤ → Option ℤ → Option ℤ → Type 0
IsTimeAsked None now from to = (from ≡ None) × (to ≡ None)
IsTimeAsked (Some text) now from to = (from ≡ Some now) × ((time : ℤ) × (to ≡ Some time))

pub record IsQuery (given : List Given) (now : ℤ) (q : Query) : Type 0 where
  pub serial : IsSerialAsked (value_of opt.Serial given) q.serial
  pub status : q.status ≡ status_asked given
  pub ends : IsTimeAsked (value_of opt.ExpiresWithin given) now q.ends_from q.ends_to
