-- What a certificate of a profile says.
use Rattle.std.specs.Prelude.{ℤ, pos, map}
use Rattle.std.specs.Option.{option_map, unwrap_or}
use Rattle.rcgen_certificate.specs.Params.{default_start, default_end}
use Rattle.rcgen_certificate.specs.ParamsView.{ParamsView}
use Rattle.toml_format.specs.TimeText.{TimestampView}
use Rattle.toml_format.specs.UtcInstant.{instant_of}
use Rattle.toml_format.specs.declared.certificate.CertificateContent.{CertificateContent}
use Rattle.profile_params.specs.Constraints.{constraints_of_profile}
use Rattle.profile_params.specs.Extensions.{extension_of_profile}
use Rattle.profile_params.specs.Keys.{method_of_profile, purpose_of_profile}
use Rattle.profile_params.specs.Names.{alternative_name_of_profile, name_of_profile}

-- the first moment of the year in UTC
abbrev pub start_of : ℤ → TimestampView
start_of year = record {
  date = record { year = year; month = 1; day = 1 };
  time = record { hour = 0; minute = 0; second = 0; nanosecond = 0 };
  offset = pos 0;
}

-- what the profile says, and the defaults where it says nothing
abbrev pub params_of_profile : CertificateContent → ParamsView
params_of_profile c = record {
  not_before = unwrap_or (option_map instant_of c.not_before) (instant_of (start_of default_start));
  not_after = unwrap_or (option_map instant_of c.not_after) (instant_of (start_of default_end));
  serial_number = c.serial;
  subject_alt_names = map alternative_name_of_profile c.alt_names;
  distinguished_name = name_of_profile c.name;
  is_ca = c.ca;
  key_usages = c.key_usages;
  extended_key_usages = map purpose_of_profile c.extended_key_usages;
  name_constraints = constraints_of_profile c.constraints;
  crl_distribution_points = c.crl_points;
  custom_extensions = map extension_of_profile c.extensions;
  use_authority_key_identifier_extension = c.authority_key_id;
  key_identifier_method = method_of_profile c.key_id;
}
