-- Common names of a subject that are hosts' names, as alternative names: `copy_cn` in an order.
use Rattle.std.specs.Prelude.{Bool, List, None, Ok, Option, Result, Some, [], cond, false, length, nat_eq, nat_lt, not, ℕ, Err, ◌&&◌, ◌++◌, ◌∷◌}
use Rattle.std.specs.Char.{is_ascii}
use Rattle.std.specs.Cmp.Lexicographic.{pointwise}
use Rattle.std.specs.List.{list_all, list_any}
use Rattle.der_tree.specs.Form.{value_of}
use Rattle.host_name.specs.Hosts.{is_host}
use Rattle.path_names.specs.NameMatching.{same_text}
use Rattle.pkix_name.specs.DirectoryStrings.{directory_string}
use Rattle.pkix_name.specs.Names.{name_parts}
use Rattle.pkix_name.specs.declared.directory_string.DirectoryString.{DirectoryString}
use Rattle.pkix_name.specs.declared.directory_string.DirectoryString.TheVariants.{Bmp, Printable, Teletex, Universal, Utf8}
use Rattle.pkix_name.specs.declared.name.AttributeTypeAndValue.{AttributeTypeAndValue}
use Rattle.pkix_name.specs.declared.name.Name.{Name}
use Rattle.pkix_name.specs.declared.name.RelativeDistinguishedName.{RelativeDistinguishedName}
use Rattle.rcgen_certificate.specs.NameValues.{issuer_name}
use Rattle.rcgen_certificate.specs.ParamsView.{ParamsView}
use Rattle.rcgen_text.specs.AlternativeNames.{AlternativeName, dns_name, ip_address, other_name, rfc822_name, uri}
use Rattle.rcgen_text.specs.Names.{Entry}
use Rattle.shelf_fault.specs.Faults.{and_then, some_or}
use Rattle.shelf_fault.specs.declared.fault.Fault.{Fault}
use Rattle.shelf_fault.specs.declared.fault.Fault.TheVariants.{CommonName, Obstacle}
use Rattle.shelf_fault.specs.declared.fault.Obstacle.TheVariants as obstacle
use Rattle.shelf_profile.specs.declared.request_use.RequestUse.{RequestUse}
use Rattle.shelf_keys.specs.Refusing.{refuse}
use Rattle.shelf_params.specs.Allowed.{names_allowed}

-- ---- the host that a common name is

-- id-at-commonName (RFC 5280, A.1)
abbrev pub is_common_name : AttributeTypeAndValue → Bool
is_common_name a = pointwise nat_eq a.attr_type (2 ∷ 5 ∷ 4 ∷ 3 ∷ [])

-- a host's name in ASCII (RFC 5280, 4.2.1.6)
unfoldable pub host_of : List ℕ → Result AlternativeName Fault
host_of text = cond (list_all is_ascii text && is_host text) (Ok (dns_name text)) (Err CommonName)

-- of a text that has an octet for each character of ASCII
abbrev pub host_of_text : DirectoryString → Result AlternativeName Fault
host_of_text (Teletex octets) = host_of octets
host_of_text (Printable octets) = host_of octets
host_of_text (Universal octets) = Err CommonName
host_of_text (Utf8 octets) = host_of octets
host_of_text (Bmp octets) = Err CommonName

abbrev pub host_or_fault : Option DirectoryString → Result AlternativeName Fault
host_or_fault None = Err CommonName
host_or_fault (Some text) = host_of_text text

-- of the DER of a common name
unfoldable pub host_in : List ℕ → Result AlternativeName Fault
host_in octets = host_or_fault (value_of directory_string octets)

-- ---- those of a name, in order, after the ones before

unfoldable pub with_common_name : AttributeTypeAndValue → List AlternativeName → Result (List AlternativeName) Fault
with_common_name a hosts = cond (is_common_name a) (and_then (host_in a.value) (λ host. Ok (hosts ++ host ∷ []))) (Ok hosts)

abbrev pub part_hosts : List AttributeTypeAndValue → List AlternativeName → Result (List AlternativeName) Fault
part_hosts [] hosts = Ok hosts
part_hosts (a ∷ rest) hosts = and_then (with_common_name a hosts) (part_hosts rest)

abbrev pub parts_hosts : List RelativeDistinguishedName → List AlternativeName → Result (List AlternativeName) Fault
parts_hosts [] hosts = Ok hosts
parts_hosts (part ∷ rest) hosts = and_then (part_hosts part.0 hosts) (parts_hosts rest)

-- the subject's name: that of the parameters where there is no other
abbrev pub subject_name : Option Name → List Entry → Result Name Fault
subject_name (Some name) entries = Ok name
subject_name None entries = some_or (issuer_name entries) (Obstacle obstacle.Identifier)

-- at most 16, since each is compared with each alternative name
unfoldable pub common_hosts : Option Name → List Entry → Result (List AlternativeName) Fault
common_hosts name entries =
    and_then (subject_name name entries) (λ n.
    and_then (parts_hosts (name_parts n) []) (λ hosts.
    and_then (refuse (nat_lt 16 (length hosts)) CommonName) (λ u. Ok hosts)))

-- ---- among the alternative names

-- the same host, whatever the case of its letters (RFC 5280, 7.2)
abbrev pub is_same_host : AlternativeName → AlternativeName → Bool
is_same_host (dns_name a) (dns_name b) = same_text a b
is_same_host (dns_name a) (rfc822_name b) = false
is_same_host (dns_name a) (uri b) = false
is_same_host (dns_name a) (ip_address b) = false
is_same_host (dns_name a) (other_name arcs b) = false
is_same_host (rfc822_name a) name = false
is_same_host (uri a) name = false
is_same_host (ip_address a) name = false
is_same_host (other_name arcs a) name = false

-- a host goes last unless it is there
unfoldable pub with_host : List AlternativeName → AlternativeName → List AlternativeName
with_host names host = cond (list_any (is_same_host host) names) names (names ++ host ∷ [])

abbrev pub with_hosts : List AlternativeName → List AlternativeName → List AlternativeName
with_hosts names [] = names
with_hosts names (host ∷ rest) = with_hosts (with_host names host) rest

abbrev pub with_host_names : ParamsView → List AlternativeName → ParamsView
with_host_names params hosts = record (params) { subject_alt_names = with_hosts params.subject_alt_names hosts }

-- the parameters with the common names of the subject, where they are copied; those of a request have to be allowed
unfoldable pub with_common_names : Bool → RequestUse → Option Name → ParamsView → Result ParamsView Fault
with_common_names is_copied taken name params =
    cond is_copied
    (and_then (common_hosts name params.distinguished_name) (λ hosts.
    and_then (names_allowed taken.takes_subject taken.allowed hosts) (λ u. Ok (with_host_names params hosts))))
    (Ok params)
