-- The subject and the alternative names that a request asks for.
use Rattle.std.specs.Prelude.{ℕ, Bool, true, false, ◌&&◌, ◌==◌, cond, not, length, nat_lt, List, [], ◌∷◌, chars, Option, Some, None, Result, Ok, Err}
use Rattle.std.specs.Char.{is_ascii}
use Rattle.std.specs.List.{list_all, list_any}
use Rattle.asn1_core.specs.StringTypes.{pairs, quads, utf8}
use Rattle.der_tree.specs.CharacterStrings.{ia5_string}
use Rattle.der_tree.specs.Form.{value_of}
use Rattle.host_name.specs.Hosts.{is_absolute, is_host, is_mailbox}
use Rattle.rcgen_text.specs.AlternativeNames.{AlternativeName, rfc822_name, dns_name, uri, ip_address, other_name}
use Rattle.pkix_name.specs.DirectoryStrings.{directory_string}
use Rattle.pkix_name.specs.Names.{name_parts}
use Rattle.pkix_name.specs.declared.directory_string.DirectoryString.{DirectoryString}
use Rattle.pkix_name.specs.declared.directory_string.DirectoryString.TheVariants.{Bmp, Printable, Teletex, Universal, Utf8}
use Rattle.pkix_name.specs.declared.name.AttributeTypeAndValue.{AttributeTypeAndValue}
use Rattle.pkix_name.specs.declared.name.Name.{Name}
use Rattle.pkix_name.specs.declared.name.RelativeDistinguishedName.{RelativeDistinguishedName}
use Rattle.shelf_fault.specs.Faults.{and_then}
use Rattle.shelf_fault.specs.declared.fault.Fault.{Fault}
use Rattle.shelf_fault.specs.declared.fault.Fault.TheVariants.{NameNotKept, RequestNameForm, RequestName, RequestSubject}
use Rattle.shelf_keys.specs.Refusing.{refuse}
use Rattle.shown_text.specs.Hidden.{is_hidden}

-- ---- alternative names

-- from U+0021 to U+007E: neither a space nor a control character
abbrev pub is_visible_character : ℕ → Bool
is_visible_character c = nat_lt 32 c && nat_lt c 127

-- at least one such character, and no other
abbrev pub is_visible : List ℕ → Bool
is_visible text = not (length text == 0) && list_all is_visible_character text

-- a mailbox, DNS name or URI has such a text (RFC 5280, 4.2.1.6), and another name no hidden character
abbrev pub is_visible_name : AlternativeName → Bool
is_visible_name (rfc822_name text) = is_visible text
is_visible_name (dns_name text) = is_visible text
is_visible_name (uri text) = is_visible text
is_visible_name (ip_address address) = true
is_visible_name (other_name arcs text) = not (list_any is_hidden (chars text))

-- each of the names that are taken is such a one
abbrev pub visible_names : Bool → List AlternativeName → Result (Unit {0}) Fault
visible_names is_taken names = refuse (is_taken && not (list_all is_visible_name names)) RequestName

-- ---- the forms of names (RFC 5280, 4.2.1.6)

abbrev pub is_of_its_kind : AlternativeName → Bool
is_of_its_kind (dns_name text) = is_host text
is_of_its_kind (rfc822_name text) = is_mailbox text
is_of_its_kind (uri text) = is_absolute text
is_of_its_kind (ip_address address) = true
is_of_its_kind (other_name arcs text) = true

-- each name that is taken is one of its kind
abbrev pub names_of_their_kinds : Bool → List AlternativeName → Result (Unit {0}) Fault
names_of_their_kinds is_taken names = refuse (is_taken && not (list_all is_of_its_kind names)) RequestNameForm

-- ---- the subject

-- none of the characters is hidden
abbrev pub shown : List ℕ → Result (Unit {0}) Fault
shown characters = refuse (list_any is_hidden characters) RequestSubject

-- of a TeletexString the characters of other octets than those of ASCII aren't known
unfoldable pub teletex_shown : List ℕ → Result (Unit {0}) Fault
teletex_shown octets = cond (list_all is_ascii octets) (shown octets) (Err NameNotKept)

-- the characters of a text, as code points: of BMPString two octets each, of UniversalString four, of UTF8String by UTF-8, else an octet each
unfoldable pub directory_shown : DirectoryString → Result (Unit {0}) Fault
directory_shown (Teletex octets) = teletex_shown octets
directory_shown (Printable octets) = shown octets
directory_shown (Universal octets) = shown (quads octets)
directory_shown (Utf8 octets) = shown (utf8.characters octets)
directory_shown (Bmp octets) = shown (pairs octets)

abbrev pub ia5_or_fault : Option (List ℕ) → Result (Unit {0}) Fault
ia5_or_fault (Some octets) = shown octets
ia5_or_fault None = Err NameNotKept

unfoldable pub ia5_shown : List ℕ → Result (Unit {0}) Fault
ia5_shown octets = ia5_or_fault (value_of ia5_string octets)

abbrev pub directory_or : Option DirectoryString → List ℕ → Result (Unit {0}) Fault
directory_or (Some text) octets = directory_shown text
directory_or None octets = ia5_shown octets

-- the value of an attribute is a DirectoryString or an IA5String, without a hidden character
unfoldable pub value_shown : List ℕ → Result (Unit {0}) Fault
value_shown octets = directory_or (value_of directory_string octets) octets

abbrev pub attributes_shown : List AttributeTypeAndValue → Result (Unit {0}) Fault
attributes_shown [] = Ok tt
attributes_shown (a ∷ rest) = and_then (value_shown a.value) (λ u. attributes_shown rest)

abbrev pub parts_shown : List RelativeDistinguishedName → Result (Unit {0}) Fault
parts_shown [] = Ok tt
parts_shown (part ∷ rest) = and_then (attributes_shown part.0) (λ u. parts_shown rest)

-- so is each value of a subject that is taken
abbrev pub subject_is_shown : Bool → Name → Result (Unit {0}) Fault
subject_is_shown false name = Ok tt
subject_is_shown true name = parts_shown (name_parts name)
