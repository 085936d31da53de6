-- What parameters say, as values: two that say the same have one view.
use Rattle.std.specs.Prelude.{◌≡◌, ℕ, ℤ, Bool, false, List, [], Option, None, map}
use Rattle.std.specs.Option.{option_map}
use Rattle.asn1_core.specs.Moment.{instant}
use Rattle.rcgen_text.specs.AlternativeNames.{AlternativeName, alternative_name}
use Rattle.rcgen_text.specs.Names.{Entry}
use Rattle.rcgen_sign.specs.KeyIds.{Method, by_sha256, method_of}
use Rattle.rcgen_certificate.specs.CustomExtensions.{Custom, custom_of}
use Rattle.rcgen_certificate.specs.DistributionPoints.{uris_of}
use Rattle.rcgen_certificate.specs.ExtendedKeyUsages.{Purpose, purpose_of}
use Rattle.rcgen_certificate.specs.NameConstraints.{Bases, bases_of}
use Rattle.rcgen_text.specs.declared.basic_constraints.IsCa.{IsCa}
use Rattle.rcgen_text.specs.declared.basic_constraints.IsCa.TheVariants.{NoCa}
use Rattle.rcgen_text.specs.declared.key_usage.KeyUsagePurpose.{KeyUsagePurpose}
use Rattle.rcgen_certificate.specs.declared.params.CertificateParams.{CertificateParams}

pub record ParamsView : Type 0 where
  -- the instants of the times, whatever their clocks show
  pub not_before : ℤ
  pub not_after : ℤ
  pub serial_number : Option (List ℕ)
  pub subject_alt_names : List AlternativeName
  pub distinguished_name : List Entry
  pub is_ca : IsCa
  pub key_usages : List KeyUsagePurpose
  pub extended_key_usages : List Purpose
  pub name_constraints : Option Bases
  -- the URIs of each point
  pub crl_distribution_points : List (List (List ℕ))
  pub custom_extensions : List Custom
  pub use_authority_key_identifier_extension : Bool
  pub key_identifier_method : Method

abbrev pub params_view : CertificateParams → ParamsView
params_view params = record {
  not_before = instant params.not_before;
  not_after = instant params.not_after;
  serial_number = params.serial_number;
  subject_alt_names = map alternative_name params.subject_alt_names.items;
  distinguished_name = params.distinguished_name;
  is_ca = params.is_ca;
  key_usages = params.key_usages.items;
  extended_key_usages = map purpose_of params.extended_key_usages.items;
  name_constraints = option_map bases_of params.name_constraints;
  crl_distribution_points = map uris_of params.crl_distribution_points.items;
  custom_extensions = map custom_of params.custom_extensions.items;
  use_authority_key_identifier_extension = params.use_authority_key_identifier_extension;
  key_identifier_method = method_of params.key_identifier_method;
}

-- ---- the defaults

-- parameters that say nothing but times and a name
abbrev pub default_params : ℤ → ℤ → List Entry → ParamsView
default_params not_before not_after name = record {
  not_before = not_before;
  not_after = not_after;
  serial_number = None;
  subject_alt_names = [];
  distinguished_name = name;
  is_ca = NoCa;
  key_usages = [];
  extended_key_usages = [];
  name_constraints = None;
  crl_distribution_points = [];
  custom_extensions = [];
  use_authority_key_identifier_extension = false;
  key_identifier_method = by_sha256;
}

-- the same with the defaults, but for times, name, alternative names, whether the subject is an authority, usages and purposes
abbrev pub defaults_but : ParamsView → ParamsView
defaults_but v = record (default_params v.not_before v.not_after v.distinguished_name) {
  subject_alt_names = v.subject_alt_names;
  is_ca = v.is_ca;
  key_usages = v.key_usages;
  extended_key_usages = v.extended_key_usages;
}

-- ---- views whose parts are the same are the same

pub record AreSame (v w : ParamsView) : Type 0 where
  pub not_before : v.not_before ≡ w.not_before
  pub not_after : v.not_after ≡ w.not_after
  pub serial_number : v.serial_number ≡ w.serial_number
  pub subject_alt_names : v.subject_alt_names ≡ w.subject_alt_names
  pub distinguished_name : v.distinguished_name ≡ w.distinguished_name
  pub is_ca : v.is_ca ≡ w.is_ca
  pub key_usages : v.key_usages ≡ w.key_usages
  pub extended_key_usages : v.extended_key_usages ≡ w.extended_key_usages
  pub name_constraints : v.name_constraints ≡ w.name_constraints
  pub crl_distribution_points : v.crl_distribution_points ≡ w.crl_distribution_points
  pub custom_extensions : v.custom_extensions ≡ w.custom_extensions
  pub use_authority_key_identifier_extension : v.use_authority_key_identifier_extension ≡ w.use_authority_key_identifier_extension
  pub key_identifier_method : v.key_identifier_method ≡ w.key_identifier_method

pub same_view : (v w : ParamsView) → AreSame v w → v ≡ w
same_view v w s = λ i. record {
  not_before = s.not_before i;
  not_after = s.not_after i;
  serial_number = s.serial_number i;
  subject_alt_names = s.subject_alt_names i;
  distinguished_name = s.distinguished_name i;
  is_ca = s.is_ca i;
  key_usages = s.key_usages i;
  extended_key_usages = s.extended_key_usages i;
  name_constraints = s.name_constraints i;
  crl_distribution_points = s.crl_distribution_points i;
  custom_extensions = s.custom_extensions i;
  use_authority_key_identifier_extension = s.use_authority_key_identifier_extension i;
  key_identifier_method = s.key_identifier_method i;
}
