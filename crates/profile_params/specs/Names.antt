-- Names and alternative names.
use Rattle.std.specs.Prelude.{List}
use Rattle.rcgen_certificate.specs.Params.{default_name}
use Rattle.rcgen_text.specs.AlternativeNames.{AlternativeName, rfc822_name, dns_name, uri, ip_address, other_name}
use Rattle.rcgen_text.specs.Names.{Entry, all_pushed, common_name_alone}
use Rattle.toml_format.specs.declared.alt_name.AltName.{AltName}
use Rattle.toml_format.specs.declared.alt_name.AltName.TheVariants.{Dns, Email, Uri, Ip, Other}
use Rattle.toml_format.specs.declared.issuer.Name.{Name}
use Rattle.toml_format.specs.declared.issuer.Name.TheVariants.{Default, CommonName, Subject}

abbrev pub name_of_profile : Name → List Entry
name_of_profile Default = default_name
name_of_profile (CommonName text) = common_name_alone text
name_of_profile (Subject attributes) = all_pushed attributes

abbrev pub alternative_name_of_profile : AltName → AlternativeName
alternative_name_of_profile (Dns text) = dns_name text
alternative_name_of_profile (Email text) = rfc822_name text
alternative_name_of_profile (Uri text) = uri text
alternative_name_of_profile (Ip address) = ip_address address
alternative_name_of_profile (Other arcs text) = other_name arcs text
