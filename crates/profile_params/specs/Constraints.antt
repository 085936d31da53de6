-- Name constraints (RFC 5280, 4.2.1.10).
use Rattle.std.specs.Prelude.{Bool, ◌||◌, if◌then◌else◌, List, [], map, Option, Some, None, is_some}
use Rattle.std.specs.Option.{unwrap_or}
use Rattle.rcgen_certificate.specs.NameConstraints.{Base, Bases, rfc822_base, dns_base, directory_base, ip_base}
use Rattle.rcgen_text.specs.Names.{common_name_alone}
use Rattle.toml_format.specs.declared.certificate.Constraints.{Constraints}
use Rattle.toml_format.specs.declared.subtree.Subtree.{Subtree}
use Rattle.toml_format.specs.declared.subtree.Subtree.TheVariants.{Dns, Email, Directory, Net}

-- the name with whose base the subtree begins
abbrev pub subtree_of_profile : Subtree → Base
subtree_of_profile (Dns text) = dns_base text
subtree_of_profile (Email text) = rfc822_base text
subtree_of_profile (Directory text) = directory_base (common_name_alone text)
subtree_of_profile (Net subnet) = ip_base subnet

-- the subtrees of a list, which may be left out
abbrev pub subtrees_of : Option (List Subtree) → List Subtree
subtrees_of list = unwrap_or list []

-- one of the lists is there, be it empty or not
abbrev pub are_there : Constraints → Bool
are_there c = is_some c.permitted || is_some c.excluded

-- the bases of both lists, where one is there
abbrev pub constraints_of_profile : Constraints → Option Bases
constraints_of_profile c =
    if are_there c
    then Some (record { permitted = map subtree_of_profile (subtrees_of c.permitted); excluded = map subtree_of_profile (subtrees_of c.excluded) })
    else None
