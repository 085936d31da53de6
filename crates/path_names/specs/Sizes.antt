-- How many octets are compared of a name (RFC 5280, 4.2.1.10 and 7).
use Rattle.std.specs.Prelude.{List, length, ℕ, ◌+◌, ◌*◌}
use Rattle.std.specs.List.{sum_by}
use Rattle.pkix_name.specs.declared.general_name.GeneralName.{GeneralName}
use Rattle.pkix_name.specs.declared.general_name.GeneralName.TheVariants.{DirectoryName, DnsName, IpAddress, OtherName, RegisteredId, Rfc822Name, Uri}
use Rattle.pkix_name.specs.declared.name.AttributeTypeAndValue.{AttributeTypeAndValue}
use Rattle.pkix_name.specs.declared.name.Name.{Name}
use Rattle.pkix_name.specs.declared.name.RelativeDistinguishedName.{RelativeDistinguishedName}
use Rattle.path_names.specs.NameMatching.{rdns_of}

unfoldable pub attribute_size : AttributeTypeAndValue → ℕ
attribute_size a = length a.value + length a.attr_type

-- each attribute is held against each of another part
unfoldable pub part_size : RelativeDistinguishedName → ℕ
part_size rdn = 1 + length rdn.0 * sum_by attribute_size rdn.0

unfoldable pub directory_size : Name → ℕ
directory_size name = 1 + sum_by part_size (rdns_of name)

-- those that are compared of a name, and one: of other forms nothing is
unfoldable pub name_size : GeneralName → ℕ
name_size (DirectoryName name) = directory_size name
name_size (DnsName text) = 1 + length text
name_size (Rfc822Name text) = 1 + length text
name_size (Uri text) = 1 + length text
name_size (IpAddress octets) = 1 + length octets
name_size (OtherName other) = 1 + length other.value
name_size (RegisteredId id) = 1 + length id
name_size other = 1

unfoldable pub names_size : List GeneralName → ℕ
names_size names = sum_by name_size names
