-- The attributes of an attribute certificate (RFC 5755, 4.2.7).
use Rattle.rcgen_certificate.specs.Requests.{Given}
use Rattle.toml_format.specs.declared.attribute_certificate.AttributeEntry.{AttributeEntry}

-- its type, and its values as they are in the entry
abbrev pub attribute_of_profile : AttributeEntry → Given
attribute_of_profile a = record { oid = a.oid; values = a.values }
