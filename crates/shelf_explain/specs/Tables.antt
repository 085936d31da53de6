-- The fields of what is signed: the name of each, the identifier octets that it may begin with (none for a required field), and what it is.
use Rattle.std.specs.Prelude.{ℕ, List, [], ◌∷◌, codes}
use Rattle.shelf_explain.specs.declared.field_part.Field.{Field}
use Rattle.shelf_explain.specs.declared.field_part.Field.TheVariants as field
use Rattle.shelf_explain.specs.declared.row.FieldRow.{FieldRow}

pub record Row : Type 0 where
  pub name : List ℕ
  pub starts : List ℕ
  pub field : Field

abbrev pub row_of : List ℕ → List ℕ → Field → Row
row_of name starts f = record { name = name; starts = starts; field = f }

abbrev pub as_row : FieldRow → Row
as_row row = row_of row.name.now row.starts.now row.field

-- the fields of a TBSCertificate (RFC 5280, 4.1)
unfoldable pub certificate_fields : List Row
certificate_fields =
    row_of (codes "version") (160 ∷ []) field.TaggedVersion
    ∷ row_of (codes "serial") [] field.Serial
    ∷ row_of (codes "signed algorithm") [] field.Algorithm
    ∷ row_of (codes "issuer") [] field.Name
    ∷ row_of (codes "validity") [] field.Times
    ∷ row_of (codes "subject") [] field.Name
    ∷ row_of (codes "key") [] field.Key
    ∷ row_of (codes "issuer unique id") (129 ∷ 161 ∷ []) field.Octets
    ∷ row_of (codes "subject unique id") (130 ∷ 162 ∷ []) field.Octets
    ∷ row_of (codes "extensions") (163 ∷ []) field.TaggedExtensions
    ∷ []

-- the fields of a CertificationRequestInfo (RFC 2986, 4.1)
unfoldable pub request_fields : List Row
request_fields =
    row_of (codes "version") [] field.Number
    ∷ row_of (codes "subject") [] field.Name
    ∷ row_of (codes "key") [] field.Key
    ∷ row_of (codes "attributes") [] field.Attributes
    ∷ []

-- the fields of a TBSCertList (RFC 5280, 5.1)
unfoldable pub list_fields : List Row
list_fields =
    row_of (codes "version") (2 ∷ []) field.Number
    ∷ row_of (codes "signed algorithm") [] field.Algorithm
    ∷ row_of (codes "issuer") [] field.Name
    ∷ row_of (codes "this update") [] field.Time
    ∷ row_of (codes "next update") (23 ∷ 24 ∷ []) field.Time
    ∷ row_of (codes "revoked certificates") (48 ∷ []) field.Entries
    ∷ row_of (codes "extensions") (160 ∷ []) field.TaggedExtensions
    ∷ []

-- the fields of an AttributeCertificateInfo (RFC 5755, 4.1)
unfoldable pub attribute_certificate_fields : List Row
attribute_certificate_fields =
    row_of (codes "version") [] field.Number
    ∷ row_of (codes "holder") [] field.Holder
    ∷ row_of (codes "issuer") [] field.Issuer
    ∷ row_of (codes "signed algorithm") [] field.Algorithm
    ∷ row_of (codes "serial") [] field.Serial
    ∷ row_of (codes "validity") [] field.Times
    ∷ row_of (codes "attributes") [] field.Attributes
    ∷ row_of (codes "issuer unique id") (3 ∷ []) field.Bits
    ∷ row_of (codes "extensions") (48 ∷ []) field.Extensions
    ∷ []

-- the fields after the part that is signed
unfoldable pub signature_fields : List Row
signature_fields =
    row_of (codes "signature algorithm") [] field.Algorithm
    ∷ row_of (codes "signature") [] field.Bits
    ∷ []
