-- What an attribute certificate of a profile says (RFC 5755, 4).
use Rattle.std.specs.Prelude.{map}
use Rattle.attr_issue.specs.AttributeCertificateView.{AttributeCertificateView}
use Rattle.toml_format.specs.UtcInstant.{instant_of}
use Rattle.certify_profile.specs.declared.attribute_certificate.AttributeCertificateProfile.{AttributeCertificateProfile}
use Rattle.profile_params.specs.Attributes.{attribute_of_profile}
use Rattle.profile_params.specs.Names.{name_of_profile}

-- what the profile says, with the attributes in its order
abbrev pub attribute_certificate_of_profile : AttributeCertificateProfile → AttributeCertificateView
attribute_certificate_of_profile p = record {
  holder_issuer = name_of_profile p.holder.name;
  holder_serial = p.holder.serial;
  serial_number = p.serial;
  not_before = instant_of p.not_before;
  not_after = instant_of p.not_after;
  attributes = map attribute_of_profile p.attributes;
  use_authority_key_identifier_extension = p.authority_key_id;
}
