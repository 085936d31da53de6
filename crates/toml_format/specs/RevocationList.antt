-- What a revocation list is to say.
use Rattle.std.specs.Prelude.{ℕ, List, [], ◌∷◌, codes, Option, Some, None, Result, Ok, Err}
use Rattle.toml_format.specs.Values.{text, text_as, array_of}
use Rattle.toml_format.specs.Hex.{from_hex}
use Rattle.toml_format.specs.KeyId.{key_id}
use Rattle.toml_format.specs.Tables.{TableFormat, no_keys, ◌&◌, required, optional, listed, table_of, fields}
use Rattle.toml_format.specs.TimeText.{TimestampView, date_time}
use Rattle.toml_format.specs.Words.{word_of}
use Rattle.toml_format.specs.declared.key_id.KeyId.{KeyId}
use Rattle.toml_format.specs.declared.reason.Reason.{Reason}
use Rattle.toml_format.specs.declared.reason.Reason.TheVariants.{WrongValue}
use Rattle.rcgen_text.specs.declared.revocation_reason.RevocationReason.{RevocationReason}
use Rattle.rcgen_text.specs.declared.revocation_reason.RevocationReason.TheVariants.{Unspecified, KeyCompromise, CaCompromise, AffiliationChanged}
use Rattle.rcgen_text.specs.declared.revocation_reason.RevocationReason.TheVariants.{Superseded, CessationOfOperation, CertificateHold, RemoveFromCrl}
use Rattle.rcgen_text.specs.declared.revocation_reason.RevocationReason.TheVariants.{PrivilegeWithdrawn, AaCompromise}
use Rattle.toml_format.specs.declared.revocation_list.IssuingPoint.{IssuingPoint}
use Rattle.toml_format.specs.declared.revocation_list.ListContent.{ListContent}
use Rattle.toml_format.specs.declared.revocation_list.Revoked.{Revoked}
use Rattle.rcgen_text.specs.declared.crl_scope.CrlScope.{CrlScope}
use Rattle.rcgen_text.specs.declared.crl_scope.CrlScope.TheVariants.{UserCertsOnly, CaCertsOnly}

unfoldable pub revocation_reason : List ℕ → Option RevocationReason
revocation_reason = word_of (
    (codes "unspecified", Unspecified)
    ∷ (codes "keyCompromise", KeyCompromise)
    ∷ (codes "cACompromise", CaCompromise)
    ∷ (codes "affiliationChanged", AffiliationChanged)
    ∷ (codes "superseded", Superseded)
    ∷ (codes "cessationOfOperation", CessationOfOperation)
    ∷ (codes "certificateHold", CertificateHold)
    ∷ (codes "removeFromCRL", RemoveFromCrl)
    ∷ (codes "privilegeWithdrawn", PrivilegeWithdrawn)
    ∷ (codes "aACompromise", AaCompromise)
    ∷ []
    )

unfoldable pub scope : List ℕ → Option CrlScope
scope = word_of ((codes "user", UserCertsOnly) ∷ (codes "ca", CaCertsOnly) ∷ [])

-- the values at the keys, in order
abbrev pub RevokedValues : Type 0
RevokedValues = (((Unit {0} × List ℕ) × TimestampView) × Option RevocationReason) × Option TimestampView

unfoldable pub revoked_of : RevokedValues → Result Revoked Reason
revoked_of ((((_, serial), time), reason), invalid) = Ok (record { serial = serial; time = time; reason = reason; invalid = invalid })

unfoldable pub revoked_values : TableFormat RevokedValues
revoked_values =
    no_keys
    & required (codes "serial") (text_as from_hex)
    & required (codes "time") (text_as date_time)
    & optional (codes "reason") (text_as revocation_reason)
    & optional (codes "invalid") (text_as date_time)

abbrev pub revoked : TableFormat Revoked
revoked = fields revoked_values revoked_of

-- the values at the keys, in order
abbrev pub PointValues : Type 0
PointValues = (Unit {0} × Option (List (List ℕ))) × Option CrlScope

-- a scope only where there are points
unfoldable pub point_of : PointValues → Result (Option IssuingPoint) Reason
point_of ((_, Some points), scope) = Ok (Some (record { points = points; scope = scope }))
point_of ((_, None), Some scope) = Err WrongValue
point_of ((_, None), None) = Ok None

unfoldable pub point_values : TableFormat PointValues
point_values =
    no_keys
    & optional (codes "points") (array_of text)
    & optional (codes "scope") (text_as scope)

abbrev pub point : TableFormat (Option IssuingPoint)
point = fields point_values point_of

-- the values at the keys, in order
abbrev pub ContentValues : Type 0
ContentValues =
    (((((Unit {0} × TimestampView) × TimestampView) × List ℕ) × Option KeyId) × Option IssuingPoint) × List Revoked

unfoldable pub content_of : ContentValues → Result ListContent Reason
content_of values =
    let (values, revoked) = values in
    let (values, point) = values in
    let (values, key_id) = values in
    let (values, number) = values in
    let (values, next_update) = values in
    let (_, this_update) = values in
    Ok (record {
      this_update = this_update;
      next_update = next_update;
      number = number;
      key_id = key_id;
      point = point;
      revoked = revoked;
    })

unfoldable pub content_values : TableFormat ContentValues
content_values =
    no_keys
    & required (codes "this_update") (text_as date_time)
    & required (codes "next_update") (text_as date_time)
    & required (codes "number") (text_as from_hex)
    & optional (codes "key_id") (text_as key_id)
    & point
    & listed (codes "revoked") (table_of revoked)

-- what the list is to say
abbrev pub content : TableFormat ListContent
content = fields content_values content_of
