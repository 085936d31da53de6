-- Constraints on the names of certificates further on in a path (RFC 5280, 4.2.1.10).
use Rattle.std.specs.Prelude.{ℕ, Bool, true, ◌&&◌, ◌==◌, cond, List, [], ◌∷◌, ◌++◌, length, map, Option, Some, None, string_bytes, flat_map}
use Rattle.std.specs.List.{list_all}
use Rattle.std.specs.Option.{option_map}
use Rattle.pkix_cert.specs.Distances.{zero}
use Rattle.pkix_cert.specs.declared.constraint.GeneralSubtree.{GeneralSubtree as SubtreeValue}
use Rattle.pkix_cert.specs.declared.constraint.NameConstraints.{NameConstraints as ConstraintsValue}
use Rattle.pkix_name.specs.declared.general_name.GeneralName.{GeneralName}
use Rattle.pkix_name.specs.declared.general_name.GeneralName.TheVariants as general
use Rattle.pkix_cert.specs.ExtensionIds.{ce_name_constraints, id_ce}
use Rattle.pkix_cert.specs.Constraints.{name_constraints as name_constraints_codec}
use Rattle.rcgen_text.specs.Addresses.{subnet_octets}
use Rattle.rcgen_text.specs.Names.{Entry}
use Rattle.rcgen_text.specs.declared.cidr.CidrSubnet.{CidrSubnet}
use Rattle.rcgen_certificate.specs.ExtensionRows.{unless_empty, ExtensionRow, extension_row}
use Rattle.rcgen_certificate.specs.NameValues.{has_types, name_value}
use Rattle.rcgen_certificate.specs.declared.name_constraints.GeneralSubtree.{GeneralSubtree}
use Rattle.rcgen_certificate.specs.declared.name_constraints.GeneralSubtree.TheVariants as subtree
use Rattle.rcgen_certificate.specs.declared.name_constraints.NameConstraints.{NameConstraints}

-- ---- what they say

-- the name with whose base a subtree begins: a text, attributes, or an address and its mask
pub data Base : Type 0 where
  rfc822_base : List ℕ → Base
  dns_base : List ℕ → Base
  directory_base : List Entry → Base
  ip_base : CidrSubnet → Base

abbrev pub base_of : GeneralSubtree → Base
base_of (subtree.Rfc822Name s) = rfc822_base (string_bytes s)
base_of (subtree.DnsName s) = dns_base (string_bytes s)
base_of (subtree.DirectoryName name) = directory_base name
base_of (subtree.IpAddress subnet) = ip_base subnet

-- the bases of the permitted subtrees, and of the excluded ones
pub record Bases : Type 0 where
  pub permitted : List Base
  pub excluded : List Base

abbrev pub bases_of : NameConstraints → Bases
bases_of c = record { permitted = map base_of c.permitted_subtrees.items; excluded = map base_of c.excluded_subtrees.items }

-- the bases of all subtrees, the permitted first
abbrev pub all_bases : Option Bases → List Base
all_bases None = []
all_bases (Some b) = b.permitted ++ b.excluded

-- ---- what there is to test

-- only mailboxes and domain names have a text
abbrev pub base_texts : Base → List (List ℕ)
base_texts (rfc822_base text) = text ∷ []
base_texts (dns_base text) = text ∷ []
base_texts (directory_base name) = []
base_texts (ip_base subnet) = []

-- the texts of all subtrees
abbrev pub constraint_texts : Option Bases → List (List ℕ)
constraint_texts b = flat_map base_texts (all_bases b)

-- each type of a directory name is an object identifier
abbrev pub has_base_types : Base → Bool
has_base_types (rfc822_base text) = true
has_base_types (dns_base text) = true
has_base_types (directory_base name) = has_types name
has_base_types (ip_base subnet) = true

abbrev pub has_subtree_types : Option Bases → Bool
has_subtree_types b = list_all has_base_types (all_bases b)

-- ---- the extension's value

abbrev pub base_value : Base → GeneralName
base_value (rfc822_base text) = general.Rfc822Name text
base_value (dns_base text) = general.DnsName text
base_value (directory_base name) = general.DirectoryName (name_value name)
base_value (ip_base subnet) = general.IpAddress (subnet_octets subnet)

-- the base and all below it: the least distance is 0, and there is no greatest
abbrev pub subtree_value : Base → SubtreeValue
subtree_value base = record { base = base_value base; minimum = zero; maximum = None }

-- a list of subtrees, where it isn't empty
abbrev pub subtrees : List Base → Option (List SubtreeValue)
subtrees bases = option_map (map subtree_value) (unless_empty bases)

abbrev pub constraints_value : Bases → ConstraintsValue
constraints_value b = record { permitted_subtrees = subtrees b.permitted; excluded_subtrees = subtrees b.excluded }

-- the value is present where one of the lists isn't empty
abbrev pub name_constraints : Option Bases → Option ConstraintsValue
name_constraints None = None
name_constraints (Some b) = cond (length b.permitted == 0 && length b.excluded == 0) None (Some (constraints_value b))

-- the extension on them
abbrev pub name_constraints_row : Option Bases → List ExtensionRow
name_constraints_row found = extension_row (id_ce ce_name_constraints) true name_constraints_codec (name_constraints found)
