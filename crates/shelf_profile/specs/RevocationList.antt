-- The order of a revocation list (RFC 5280, 5).
use Rattle.std.specs.Prelude.{ℕ, Bool, true, ◌&&◌, if◌then◌else◌, is_some, List, codes, Option, Some, None, Result, Ok, Err}
use Rattle.std.specs.List.{list_all}
use Rattle.toml_format.specs.Hex.{from_hex}
use Rattle.toml_format.specs.RevocationList.{content}
use Rattle.toml_format.specs.Tables.{TableFormat, no_keys, ◌&◌, fields, optional}
use Rattle.toml_format.specs.Values.{text_as}
use Rattle.toml_format.specs.declared.reason.Reason.{Reason}
use Rattle.toml_format.specs.declared.reason.Reason.TheVariants.{WrongValue}
use Rattle.toml_format.specs.declared.revocation_list.ListContent.{ListContent}
use Rattle.toml_format.specs.declared.revocation_list.Revoked.{Revoked}
use Rattle.rcgen_text.specs.declared.revocation_reason.RevocationReason.{RevocationReason}
use Rattle.rcgen_text.specs.declared.revocation_reason.RevocationReason.TheVariants.{RemoveFromCrl}
use Rattle.shelf_profile.specs.Serial.{is_less, is_number, is_serial}
use Rattle.shelf_profile.specs.Signing.{signing}
use Rattle.shelf_profile.specs.declared.revocation_list.ListOrder.{ListOrder}
use Rattle.shelf_profile.specs.declared.signing.Signing.{Signing}

-- the values at the keys, in order
abbrev pub ListValues : Type 0
ListValues = ((Unit {0} × Signing) × ListContent) × Option (List ℕ)

-- a reason that an entry may have: removeFromCRL takes a certificate off, which only delta lists do (RFC 5280, 5.3.1)
abbrev pub is_reason : Bool → Option RevocationReason → Bool
is_reason is_delta (Some RemoveFromCrl) = is_delta
is_reason is_delta _ = true

-- an entry is of a certificate's serial number, with a reason that it may have
abbrev pub is_entry : Bool → Revoked → Bool
is_entry is_delta e = is_serial e.serial && is_reason is_delta e.reason

-- each entry is such a one, and the list's number has at most 20 octets (RFC 5280, 5.2.3)
abbrev pub is_content : Bool → ListContent → Bool
is_content is_delta c = is_number c.number && list_all (is_entry is_delta) c.revoked

-- the base of a list, where it has one, is the number of an earlier list (RFC 5280, 5.2.4)
abbrev pub is_base : Option (List ℕ) → List ℕ → Bool
is_base None number = true
is_base (Some base) number = is_number base && is_less base number

unfoldable pub list_of : ListValues → Result ListOrder Reason
list_of (((_, signing), content), base) =
    if is_content (is_some base) content && is_base base content.number then Ok (record { signing = signing; content = content; base = base })
    else Err WrongValue

unfoldable pub list_values : TableFormat ListValues
list_values =
    no_keys
    & signing
    & content
    & optional (codes "base") (text_as from_hex)

abbrev pub revocation_list : TableFormat ListOrder
revocation_list = fields list_values list_of
