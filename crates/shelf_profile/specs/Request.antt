-- The order of a request for a certificate (RFC 2986): each key that is given overrides the default of its preset.
use Rattle.std.specs.Prelude.{Bool, false, List, [], codes, Option, None, Result, Ok}
use Rattle.toml_format.specs.AltName.{alt_name}
use Rattle.toml_format.specs.Certificate.{extension}
use Rattle.toml_format.specs.KeyUsage.{key_usage}
use Rattle.toml_format.specs.Outcome.{and_then}
use Rattle.toml_format.specs.Purpose.{purpose}
use Rattle.toml_format.specs.Tables.{TableFormat, no_keys, ◌&◌, defaulted, listed, table_of}
use Rattle.toml_format.specs.Values.{array_of, boolean, text_as, whole}
use Rattle.toml_format.specs.declared.alt_name.AltName.{AltName}
use Rattle.toml_format.specs.declared.certificate.ExtensionEntry.{ExtensionEntry}
use Rattle.toml_format.specs.declared.key_id.KeyId.TheVariants.{Sha256}
use Rattle.toml_format.specs.declared.purpose.Purpose.{Purpose}
use Rattle.toml_format.specs.declared.reason.Reason.{Reason}
use Rattle.rcgen_text.specs.declared.basic_constraints.IsCa.{IsCa}
use Rattle.rcgen_text.specs.declared.key_usage.KeyUsagePurpose.{KeyUsagePurpose}
use Rattle.shelf_profile.specs.Ca.{ca}
use Rattle.shelf_profile.specs.Certificate.{has_name}
use Rattle.shelf_profile.specs.Preset.{preset_ca, preset_key_usages, preset_purposes}
use Rattle.shelf_profile.specs.Signing.{signing}
use Rattle.shelf_profile.specs.SubjectName.{subject_name_format}
use Rattle.shelf_profile.specs.declared.preset.Preset.{Preset}
use Rattle.shelf_profile.specs.declared.request.RequestOrder.{RequestOrder}
use Rattle.shelf_profile.specs.declared.signing.Signing.{Signing}
use Rattle.shelf_profile.specs.declared.subject_name.SubjectName.{SubjectName}

-- the values at the keys, in order
abbrev pub RequestValues : Type 0
RequestValues =
    (((((((Unit {0} × Signing) × SubjectName) × List AltName) × IsCa) × List KeyUsagePurpose) × List Purpose) × List ExtensionEntry) × Bool

-- a name must be said, and a request has no place for the rest
unfoldable pub request_of : RequestValues → Result RequestOrder Reason
request_of ((((((((_, signing), subject), alt_names), ca), key_usages), extended_key_usages), extensions), weak_key) =
    and_then (has_name false subject) (λ _. Ok (record {
      signing = signing;
      weak_key = weak_key;
      parts = subject.parts;
      content = record {
        name = subject.name;
        not_before = None;
        not_after = None;
        serial = None;
        alt_names = alt_names;
        ca = ca;
        key_usages = key_usages;
        extended_key_usages = extended_key_usages;
        constraints = record { permitted = None; excluded = None };
        crl_points = [];
        extensions = extensions;
        authority_key_id = false;
        key_id = Sha256;
      };
    }))

unfoldable pub request_values : Option Preset → TableFormat RequestValues
request_values preset =
    no_keys
    & signing
    & subject_name_format
    & listed (codes "alt_names") (text_as alt_name)
    & defaulted (codes "ca") (whole ca) (preset_ca preset)
    & defaulted (codes "key_usages") (array_of (text_as key_usage)) (preset_key_usages preset)
    & defaulted (codes "extended_key_usages") (array_of (text_as purpose)) (preset_purposes preset)
    & listed (codes "extensions") (table_of extension)
    & defaulted (codes "weak_key") boolean false
