-- Which names a subtree has, and which are permitted and excluded (RFC 5280, 4.2.1.10; 6.1.3 (b) and (c)).
use Rattle.std.specs.Prelude.{◌≡◌, Bool, List, None, Option, Some, bit_and, cond, drop, false, is_none, is_some, length, nat_eq, not, take, true, ℕ}
use Rattle.std.specs.Prelude.{◌&&◌, ◌*◌, [], ◌==◌, ◌||◌, ◌∷◌}
use Rattle.std.specs.Cmp.Lexicographic.{pointwise}
use Rattle.std.specs.List.{list_any}
use Rattle.asn1_core.specs.Binds.{◌>>=◌}
use Rattle.asn1_core.specs.StringTypes.{utf8}
use Rattle.asn1_core.specs.Tags.{universal}
use Rattle.der_tree.specs.Element.{Element, one_element}
use Rattle.der_tree.specs.Primitive.{is_text}
use Rattle.der_tree.specs.Tags.{same_tag}
use Rattle.der_tree.specs.declared.instance_of.InstanceOf.{InstanceOf}
use Rattle.pkix_cert.specs.Distances.{same_integer, zero}
use Rattle.pkix_cert.specs.declared.constraint.GeneralSubtree.{GeneralSubtree}
use Rattle.pkix_name.specs.declared.general_name.GeneralName.{GeneralName}
use Rattle.pkix_name.specs.declared.general_name.GeneralName.TheVariants.{OtherName, Rfc822Name, DnsName, X400Address, DirectoryName, EdiPartyName, Uri, IpAddress, RegisteredId}
use Rattle.path_names.specs.Hosts.{dns_within, host_part, host_within, is_dns_base, is_host, is_host_base}
use Rattle.path_names.specs.Hosts.{is_mail_base, is_mailbox, mail_within, uri_host, uri_within}
use Rattle.pkix_name.specs.declared.name.Name.{Name}
use Rattle.path_names.specs.NameMatching.{is_below_name, is_decided_below, names_match}

-- ---- addresses of IP: 4 or 16 octets, in a range of as many and of a mask

abbrev pub is_address : List ℕ → Bool
is_address octets = (length octets == 4) || (length octets == 16)

abbrev pub is_range : List ℕ → Bool
is_range octets = (length octets == 8) || (length octets == 32)

-- the same bits where the mask has ones
abbrev pub same_under : List ℕ → List ℕ → List ℕ → Bool
same_under [] [] [] = true
same_under (a ∷ address) (b ∷ base) (m ∷ mask) = (bit_and a m == bit_and b m) && same_under address base mask
same_under address base mask = false

abbrev pub ip_within : List ℕ → List ℕ → Bool
ip_within address base =
    (length base == 2 * length address) && same_under address (take (length address) base) (drop (length address) base)

-- ---- mailboxes whose local part isn't of ASCII (RFC 9598)

-- id-on-SmtpUTF8Mailbox (3)
abbrev pub utf8_mailbox : List ℕ
utf8_mailbox = 1 ∷ 3 ∷ 6 ∷ 1 ∷ 5 ∷ 5 ∷ 7 ∷ 8 ∷ 9 ∷ []

abbrev pub has_utf8_mailbox : InstanceOf (List ℕ) → Bool
has_utf8_mailbox other = pointwise nat_eq other.type_id utf8_mailbox

-- the octets of a UTF8String
abbrev pub utf8_text : Element → Option (List ℕ)
utf8_text e = cond (not e.constructed && same_tag e.tag (universal 12) && is_text utf8 e.content) (Some e.content) None

-- the mailbox that a name of another kind is, where it is one
abbrev pub mailbox_in : InstanceOf (List ℕ) → Option (List ℕ)
mailbox_in other = cond (has_utf8_mailbox other) (one_element other.value >>= utf8_text) None

abbrev pub is_mailbox_in : Option (List ℕ) → Bool
is_mailbox_in None = false
is_mailbox_in (Some address) = is_mailbox address

-- 6: the host alone is compared, without the case of ASCII (5)
abbrev pub host_of_mailbox_within : Option (List ℕ) → List ℕ → Bool
host_of_mailbox_within None base = false
host_of_mailbox_within (Some address) base = host_within (host_part address) base

-- ---- a name and a subtree

abbrev pub form_number : GeneralName → ℕ
form_number (OtherName v) = 0
form_number (Rfc822Name v) = 1
form_number (DnsName v) = 2
form_number (X400Address v) = 3
form_number (DirectoryName v) = 4
form_number (EdiPartyName v) = 5
form_number (Uri v) = 6
form_number (IpAddress v) = 7
form_number (RegisteredId v) = 8

-- constraints on electronic mail addresses apply to it too (RFC 9598, 6)
abbrev pub is_utf8_mailbox : GeneralName → Bool
is_utf8_mailbox (OtherName other) = has_utf8_mailbox other
is_utf8_mailbox name = false

abbrev pub is_of_form : GeneralName → GeneralSubtree → Bool
is_of_form name t = (form_number name == form_number t.base) || (is_utf8_mailbox name && (form_number t.base == 1))

abbrev pub name_within : GeneralName → GeneralName → Bool
name_within (DirectoryName name) (DirectoryName base) = is_below_name name base
name_within (DnsName name) (DnsName base) = dns_within name base
name_within (Rfc822Name address) (Rfc822Name base) = mail_within address base
name_within (OtherName other) (Rfc822Name base) = host_of_mailbox_within (mailbox_in other) base
name_within (Uri uri) (Uri base) = uri_within uri base
name_within (IpAddress address) (IpAddress base) = ip_within address base
name_within name base = false

-- the subtree has the name
abbrev pub is_within : GeneralName → GeneralSubtree → Bool
is_within name t = name_within name t.base

-- the name is written as its form asks (4.2.1.6), and the base as 4.2.1.10 does; of a directory name is known whether it is below the
-- base; a URI has the host that is compared. A base that names one mailbox has its local part in ASCII, and RFC 9598, 6 strips it, so that
-- a name with another local part would be held against a whole host: this isn't done here
abbrev pub can_be_compared : GeneralName → GeneralName → Bool
can_be_compared (DirectoryName name) (DirectoryName base) = is_decided_below name base
can_be_compared (DnsName name) (DnsName base) = is_host name && is_dns_base base
can_be_compared (Rfc822Name address) (Rfc822Name base) = is_mailbox address && is_mail_base base
can_be_compared (OtherName other) (Rfc822Name base) = is_mailbox_in (mailbox_in other) && is_host_base base
can_be_compared (Uri uri) (Uri base) = is_some (uri_host uri) && is_host_base base
can_be_compared (IpAddress address) (IpAddress base) = is_address address && is_range base
can_be_compared name base = false

-- the form is one of those above, its texts can be compared, and the subtree has each distance (minimum 0, no maximum)
abbrev pub is_processed : GeneralName → GeneralSubtree → Bool
is_processed name t = can_be_compared name t.base && same_integer t.minimum zero && is_none t.maximum

-- ---- a name and all subtrees

-- a subtree of the name's form can't be held against it, so the certificate has to be rejected (4.2.1.10)
abbrev pub is_unprocessed_by : GeneralName → List GeneralSubtree → Bool
is_unprocessed_by name ts = list_any (λ t. is_of_form name t && not (is_processed name t)) ts

-- within one of those of its form, where there are any (6.1.3 (b))
abbrev pub is_permitted_by : GeneralName → List GeneralSubtree → Bool
is_permitted_by name ts = not (list_any (is_of_form name) ts) || list_any (is_within name) ts

-- within one of them (6.1.3 (c))
abbrev pub is_excluded_by : GeneralName → List GeneralSubtree → Bool
is_excluded_by name ts = list_any (is_within name) ts

-- the test says the same of two directory names that are one
abbrev pub RespectsMatching : (GeneralName → Bool) → Type 0
RespectsMatching test = (m n : Name) → names_match m n ≡ true → test (DirectoryName m) ≡ test (DirectoryName n)
