-- How large the parts of certificates are: the octets of their texts, with room for the headers around them.
use Rattle.std.specs.Prelude.{ℕ, ◌+◌, ◌*◌, List, length, Option, Some, None}
use Rattle.std.specs.List.{sum_by}
use Rattle.std.specs.Option.{option_map_or}
use Rattle.pkix_cert.specs.declared.algorithm.SubjectPublicKeyInfo.{SubjectPublicKeyInfo}
use Rattle.pkix_name.specs.declared.name.AttributeTypeAndValue.{AttributeTypeAndValue}
use Rattle.pkix_name.specs.declared.name.Name.{Name}
use Rattle.pkix_name.specs.declared.name.Name.TheVariants.{RdnSequence}
use Rattle.pkix_name.specs.declared.name.RelativeDistinguishedName.{RelativeDistinguishedName}
use Rattle.rcgen_certificate.specs.CustomExtensions.{Custom}
use Rattle.rcgen_certificate.specs.ExtendedKeyUsages.{Purpose, purpose_oid}
use Rattle.rcgen_certificate.specs.NameConstraints.{Base, Bases, directory_base, dns_base, ip_base, rfc822_base}
use Rattle.rcgen_certificate.specs.NameValues.{name_value}
use Rattle.rcgen_certificate.specs.ParamsView.{ParamsView}
use Rattle.rcgen_certificate.specs.SubjectAltNames.{address_octets}
use Rattle.rcgen_text.specs.Addresses.{subnet_octets}
use Rattle.rcgen_text.specs.AlternativeNames.{AlternativeName, dns_name, ip_address, other_name, rfc822_name, uri}
use Rattle.outcomes.specs.Sizes.{uri_size}

-- ---- names

abbrev pub attribute_size : AttributeTypeAndValue → ℕ
attribute_size a = 40 + 10 * length a.attr_type + length a.value

abbrev pub part_size : RelativeDistinguishedName → ℕ
part_size p = 20 + sum_by attribute_size p.0

abbrev pub name_size : Name → ℕ
name_size (RdnSequence parts) = 20 + sum_by part_size parts

abbrev pub alternative_size : AlternativeName → ℕ
alternative_size (rfc822_name text) = 200 + length text
alternative_size (dns_name text) = 200 + length text
alternative_size (uri text) = 200 + length text
alternative_size (ip_address address) = 200 + length (address_octets address)
alternative_size (other_name arcs text) = 200 + 10 * length arcs + length text

-- ---- extensions

abbrev pub purpose_size : Purpose → ℕ
purpose_size p = 20 + 10 * length (purpose_oid p)

abbrev pub base_size : Base → ℕ
base_size (rfc822_base text) = length text
base_size (dns_base text) = length text
base_size (directory_base name) = name_size (name_value name)
base_size (ip_base subnet) = length (subnet_octets subnet)

abbrev pub bases_size : Bases → ℕ
bases_size b = 100 + sum_by (λ (x : Base). 200 + base_size x) b.permitted + sum_by (λ (x : Base). 200 + base_size x) b.excluded

abbrev pub distribution_size : List (List ℕ) → ℕ
distribution_size uris = 100 + sum_by uri_size uris

abbrev pub custom_size : Custom → ℕ
custom_size e = 100 + 10 * length e.oid + length e.content

-- ---- keys

abbrev pub parameters_size : Option (List ℕ) → ℕ
parameters_size None = 0
parameters_size (Some octets) = length octets

abbrev pub info_size : SubjectPublicKeyInfo → ℕ
info_size i = 100 + 10 * length i.algorithm.algorithm + parameters_size i.algorithm.parameters + length i.subject_public_key.bytes

-- ---- what parameters say

-- of all extensions but those of identifiers, and of the subject's name
abbrev pub params_size : ParamsView → ℕ
params_size p =
    name_size (name_value p.distinguished_name) + sum_by alternative_size p.subject_alt_names + sum_by purpose_size p.extended_key_usages
    + option_map_or bases_size p.name_constraints 0 + sum_by distribution_size p.crl_distribution_points + sum_by custom_size p.custom_extensions
