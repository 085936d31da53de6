-- Which alternative names a request may ask for: `allow` in an order.
use Rattle.std.specs.Prelude.{Bool, Err, List, None, Ok, Option, Result, Some, cond, drop, false, find, nat_eq, not, true, ℕ, ◌&&◌}
use Rattle.std.specs.List.{list_any, starts_with}
use Rattle.host_name.specs.Hosts.{wildcard}
use Rattle.path_names.specs.Hosts.{dns_within, mail_within}
use Rattle.path_names.specs.NameForms.{same_under}
use Rattle.rcgen_certificate.specs.SubjectAltNames.{address_octets}
use Rattle.rcgen_text.specs.AlternativeNames.{AlternativeName, dns_name, ip_address, other_name, rfc822_name, uri}
use Rattle.rcgen_text.specs.declared.cidr.CidrSubnet.{CidrSubnet}
use Rattle.rcgen_text.specs.declared.cidr.CidrSubnet.TheVariants as net
use Rattle.rcgen_text.specs.declared.ip.IpAddr.{IpAddr}
use Rattle.rcgen_text.specs.declared.ip.IpAddr.TheVariants as ip
use Rattle.toml_format.specs.declared.subtree.Subtree.{Subtree}
use Rattle.toml_format.specs.declared.subtree.Subtree.TheVariants.{Directory, Dns, Email, Net}
use Rattle.shelf_fault.specs.declared.fault.Fault.{Fault}
use Rattle.shelf_fault.specs.declared.fault.Fault.TheVariants.{RequestNotAllowed}
use Rattle.shelf_fault.specs.declared.fault.NameForm.TheVariants as form

abbrev pub is_wildcard : List ℕ → Bool
is_wildcard text = starts_with nat_eq text wildcard

-- a base without a wildcard has the host and those below it, and no wildcard; a base with one has the wildcards of the host and of those below it
abbrev pub is_host_allowed : List ℕ → List ℕ → Bool
is_host_allowed name base =
    cond (is_wildcard base) (is_wildcard name && dns_within (drop 2 name) (drop 2 base)) (not (is_wildcard name) && dns_within name base)

-- of the same version of IP, and in the subnet
abbrev pub is_address_allowed : IpAddr → CidrSubnet → Bool
is_address_allowed (ip.V4 address) (net.V4 base mask) = same_under address base mask
is_address_allowed (ip.V4 address) (net.V6 base mask) = false
is_address_allowed (ip.V6 address) (net.V4 base mask) = false
is_address_allowed (ip.V6 address) (net.V6 base mask) = same_under address base mask

-- a URI, another name and an address of another kind are in none
abbrev pub is_allowed_by : AlternativeName → Subtree → Bool
is_allowed_by (dns_name text) (Dns base) = is_host_allowed text base
is_allowed_by (dns_name text) (Email base) = false
is_allowed_by (dns_name text) (Directory base) = false
is_allowed_by (dns_name text) (Net subnet) = false
is_allowed_by (rfc822_name text) (Dns base) = false
is_allowed_by (rfc822_name text) (Email base) = mail_within text base
is_allowed_by (rfc822_name text) (Directory base) = false
is_allowed_by (rfc822_name text) (Net subnet) = false
is_allowed_by (ip_address address) (Dns base) = false
is_allowed_by (ip_address address) (Email base) = false
is_allowed_by (ip_address address) (Directory base) = false
is_allowed_by (ip_address address) (Net subnet) = is_address_allowed address subnet
is_allowed_by (uri text) subtree = false
is_allowed_by (other_name arcs text) subtree = false

-- one of the subtrees has the name
abbrev pub is_allowed : List Subtree → AlternativeName → Bool
is_allowed subtrees name = list_any (is_allowed_by name) subtrees

abbrev pub is_outside : List Subtree → AlternativeName → Bool
is_outside subtrees name = not (is_allowed subtrees name)

-- a name that isn't allowed
abbrev pub not_allowed : AlternativeName → Fault
not_allowed (dns_name text) = RequestNotAllowed form.Dns text
not_allowed (rfc822_name text) = RequestNotAllowed form.Email text
not_allowed (uri text) = RequestNotAllowed form.Uri text
not_allowed (ip_address address) = RequestNotAllowed form.Ip (address_octets address)
not_allowed (other_name arcs text) = RequestNotAllowed form.Other text

abbrev pub refused_name : Option AlternativeName → Result (Unit {0}) Fault
refused_name None = Ok tt
refused_name (Some name) = Err (not_allowed name)

-- names that are taken are in the subtrees, where there are any; the first that isn't is named
abbrev pub names_allowed : Bool → Option (List Subtree) → List AlternativeName → Result (Unit {0}) Fault
names_allowed false allowed names = Ok tt
names_allowed true None names = Ok tt
names_allowed true (Some subtrees) names = refused_name (find (is_outside subtrees) names)
