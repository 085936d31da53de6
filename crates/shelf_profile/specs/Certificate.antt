-- The order of a certificate: each key that is given overrides the default of its preset.
use Rattle.std.specs.Prelude.{ℕ, Bool, true, false, ◌&&◌, ◌||◌, cond, is_some, List, [], codes, Option, Some, None, Result, Ok, Err}
use Rattle.toml_format.specs.AltName.{alt_name}
use Rattle.toml_format.specs.Certificate.{constraints, extension}
use Rattle.toml_format.specs.KeyId.{key_id}
use Rattle.toml_format.specs.KeyUsage.{key_usage}
use Rattle.toml_format.specs.Outcome.{and_then}
use Rattle.toml_format.specs.Purpose.{purpose}
use Rattle.toml_format.specs.Tables.{TableFormat, no_keys, ◌&◌, required, optional, defaulted, listed, table_of}
use Rattle.toml_format.specs.TimeText.{TimestampView}
use Rattle.toml_format.specs.Values.{array_of, boolean, text, text_as, whole}
use Rattle.toml_format.specs.declared.alt_name.AltName.{AltName}
use Rattle.toml_format.specs.declared.certificate.Constraints.{Constraints}
use Rattle.toml_format.specs.declared.certificate.ExtensionEntry.{ExtensionEntry}
use Rattle.toml_format.specs.declared.issuer.Name.{Name}
use Rattle.toml_format.specs.declared.issuer.Name.TheVariants.{CommonName, Default, Subject}
use Rattle.toml_format.specs.declared.key_id.KeyId.{KeyId}
use Rattle.toml_format.specs.declared.key_id.KeyId.TheVariants.{Sha256}
use Rattle.toml_format.specs.declared.purpose.Purpose.{Purpose}
use Rattle.toml_format.specs.declared.reason.Reason.{Reason}
use Rattle.toml_format.specs.declared.reason.Reason.TheVariants.{MissingKey, WrongValue}
use Rattle.pkix_name.specs.declared.name.RelativeDistinguishedName.{RelativeDistinguishedName}
use Rattle.rcgen_text.specs.declared.basic_constraints.IsCa.{IsCa}
use Rattle.rcgen_text.specs.declared.key_usage.KeyUsagePurpose.{KeyUsagePurpose}
use Rattle.shelf_profile.specs.Access.{access}
use Rattle.shelf_profile.specs.Ca.{ca}
use Rattle.shelf_profile.specs.Preset.{has_authority_key_id, preset_ca, preset_key_usages}
use Rattle.shelf_profile.specs.RequestUse.{request_use}
use Rattle.shelf_profile.specs.Serial.{serial}
use Rattle.shelf_profile.specs.Signing.{signing}
use Rattle.shelf_profile.specs.SubjectName.{subject_name_format}
use Rattle.shelf_profile.specs.Validity.{validity}
use Rattle.shelf_profile.specs.declared.access.Access.{Access}
use Rattle.shelf_profile.specs.declared.certificate.CertificateOrder.{CertificateOrder}
use Rattle.shelf_profile.specs.declared.preset.Preset.{Preset}
use Rattle.shelf_profile.specs.declared.request_use.RequestUse.{RequestUse}
use Rattle.shelf_profile.specs.declared.signing.Signing.{Signing}
use Rattle.shelf_profile.specs.declared.subject_name.SubjectName.{SubjectName}
use Rattle.shelf_profile.specs.declared.validity.End.{End}
use Rattle.shelf_profile.specs.declared.validity.End.TheVariants.{At, Days}
use Rattle.shelf_profile.specs.declared.validity.Validity.{Validity}

-- the values at the keys, in order
abbrev pub SubjectValues : Type 0
SubjectValues = (((((Unit {0} × Signing) × RequestUse) × Validity) × List ℕ) × SubjectName) × Option (List AltName)

abbrev pub CertificateValues : Type 0
CertificateValues =
    ((((((((((SubjectValues × IsCa) × List KeyUsagePurpose) × Option (List Purpose)) × Constraints) × List (List (List ℕ)))
    × Access) × List ExtensionEntry) × Bool) × KeyId) × Bool) × Bool

abbrev pub is_said_by : Name → Option (List RelativeDistinguishedName) → Bool
is_said_by Default parts = is_some parts
is_said_by (CommonName _) parts = true
is_said_by (Subject _) parts = true

abbrev pub is_said : SubjectName → Bool
is_said subject = is_said_by subject.name subject.parts

-- a name is given exactly where none is taken from a request
unfoldable pub has_name : Bool → SubjectName → Result (Unit {0}) Reason
has_name is_taken subject =
    cond (is_said subject && is_taken) (Err WrongValue) (cond (is_said subject || is_taken) (Ok tt) (Err MissingKey))

-- what is given, or the default; what is taken may not be given too
abbrev pub said_unless_taken : {A : Type 0} → Bool → Option (List A) → List A → Result (List A) Reason
said_unless_taken true (Some said) default = Err WrongValue
said_unless_taken false (Some said) default = Ok said
said_unless_taken true None default = Ok default
said_unless_taken false None default = Ok default

-- the days of an order, and until when it is valid otherwise
abbrev pub days_or_time : End → Option ℕ × Option TimestampView
days_or_time (Days days) = (Some days, None)
days_or_time (At time) = (None, Some time)

-- the order, where these are its default purposes
unfoldable pub certificate_of : List Purpose → CertificateValues → Result CertificateOrder Reason
certificate_of purposes values =
    let (values, copy_cn) = values in
    let (values, weak_key) = values in
    let (values, key_id) = values in
    let (values, authority_key_id) = values in
    let (values, extensions) = values in
    let (values, access) = values in
    let (values, crl_points) = values in
    let (values, constraints) = values in
    let (values, extended_key_usages) = values in
    let (values, key_usages) = values in
    let (values, ca) = values in
    let (values, alt_names) = values in
    let (values, subject) = values in
    let (values, serial) = values in
    let (values, validity) = values in
    let ((_, signing), request) = values in
    let (days, not_after) = days_or_time validity.end in
    and_then (has_name request.takes_subject subject) (λ _.
    and_then (said_unless_taken request.takes_alt_names alt_names []) (λ alt_names.
    and_then (said_unless_taken request.takes_purposes extended_key_usages purposes) (λ extended_key_usages. Ok (record {
      signing = signing;
      request = request;
      days = days;
      access = access;
      weak_key = weak_key;
      copy_cn = copy_cn;
      parts = subject.parts;
      content = record {
        name = subject.name;
        not_before = Some validity.start;
        not_after = not_after;
        serial = Some serial;
        alt_names = alt_names;
        ca = ca;
        key_usages = key_usages;
        extended_key_usages = extended_key_usages;
        constraints = constraints;
        crl_points = crl_points;
        extensions = extensions;
        authority_key_id = authority_key_id;
        key_id = key_id;
      };
    }))))

unfoldable pub certificate_values : Option Preset → TableFormat CertificateValues
certificate_values preset =
    no_keys
    & signing
    & request_use
    & validity
    & required (codes "serial") (text_as serial)
    & subject_name_format
    & optional (codes "alt_names") (array_of (text_as alt_name))
    & defaulted (codes "ca") (whole ca) (preset_ca preset)
    & defaulted (codes "key_usages") (array_of (text_as key_usage)) (preset_key_usages preset)
    & optional (codes "extended_key_usages") (array_of (text_as purpose))
    & constraints
    & listed (codes "crl_points") (array_of text)
    & access
    & listed (codes "extensions") (table_of extension)
    & defaulted (codes "authority_key_id") boolean (has_authority_key_id preset)
    & defaulted (codes "key_id") (text_as key_id) Sha256
    & defaulted (codes "weak_key") boolean false
    & defaulted (codes "copy_cn") boolean false
