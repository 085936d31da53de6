-- Which names of hosts and mailboxes a subject may have that is taken from a request: `allow` in an order. Where no alternative name is of its
-- kind, verifiers take a common name for a host's, and the attribute emailAddress for a mailbox (RFC 6125, 6.4.4; RFC 5280, 4.2.1.10).
use Rattle.std.specs.Prelude.{Bool, List, None, Option, Result, Some, [], cond, false, nat_eq, not, true, ℕ, ◌&&◌, ◌==◌, ◌∷◌, Err, Ok}
use Rattle.std.specs.Cmp.Lexicographic.{pointwise}
use Rattle.std.specs.List.{list_any}
use Rattle.der_tree.specs.CharacterStrings.{ia5_string}
use Rattle.der_tree.specs.Form.{value_of}
use Rattle.pkix_name.specs.DirectoryStrings.{directory_string}
use Rattle.pkix_name.specs.Names.{name_parts}
use Rattle.pkix_name.specs.declared.directory_string.DirectoryString.{DirectoryString}
use Rattle.pkix_name.specs.declared.directory_string.DirectoryString.TheVariants.{Bmp, Printable, Teletex, Universal, Utf8}
use Rattle.pkix_name.specs.declared.name.AttributeTypeAndValue.{AttributeTypeAndValue}
use Rattle.pkix_name.specs.declared.name.Name.{Name}
use Rattle.pkix_name.specs.declared.name.RelativeDistinguishedName.{RelativeDistinguishedName}
use Rattle.rcgen_text.specs.AlternativeNames.{AlternativeName, dns_name, rfc822_name}
use Rattle.shelf_fault.specs.Faults.{and_then}
use Rattle.shelf_fault.specs.declared.fault.Fault.{Fault}
use Rattle.shelf_fault.specs.declared.fault.Fault.TheVariants.{SubjectNotAllowed}
use Rattle.shelf_keys.specs.Refusing.{refuse}
use Rattle.shelf_params.specs.Allowed.{is_allowed}
use Rattle.shelf_params.specs.AskedNames.{is_visible}
use Rattle.shelf_params.specs.CommonNames.{is_common_name}
use Rattle.toml_format.specs.declared.subtree.Subtree.{Subtree}

-- emailAddress of PKCS #9 (RFC 5280, A.1)
abbrev pub is_email_address : AttributeTypeAndValue → Bool
is_email_address a = pointwise nat_eq a.attr_type (1 ∷ 2 ∷ 840 ∷ 113549 ∷ 1 ∷ 9 ∷ 1 ∷ [])

-- what a verifier may take the text for: with an @ a mailbox, and else a host
abbrev pub written_name : List ℕ → AlternativeName
written_name text = cond (list_any (nat_eq 64) text) (rfc822_name text) (dns_name text)

-- a text without a space, in ASCII, is in a subtree; any other is no name of a host or mailbox
unfoldable pub text_allowed : List Subtree → List ℕ → Result (Unit {0}) Fault
text_allowed subtrees text = refuse (is_visible text && not (is_allowed subtrees (written_name text))) (SubjectNotAllowed text)

-- strings of wider characters aren't compared
abbrev pub string_allowed : List Subtree → DirectoryString → Result (Unit {0}) Fault
string_allowed subtrees (Teletex octets) = text_allowed subtrees octets
string_allowed subtrees (Printable octets) = text_allowed subtrees octets
string_allowed subtrees (Universal octets) = Err (SubjectNotAllowed [])
string_allowed subtrees (Utf8 octets) = text_allowed subtrees octets
string_allowed subtrees (Bmp octets) = Err (SubjectNotAllowed [])

abbrev pub string_or_fault : List Subtree → Option DirectoryString → Result (Unit {0}) Fault
string_or_fault subtrees None = Err (SubjectNotAllowed [])
string_or_fault subtrees (Some text) = string_allowed subtrees text

-- the DER of a common name
unfoldable pub common_name_allowed : List Subtree → List ℕ → Result (Unit {0}) Fault
common_name_allowed subtrees octets = string_or_fault subtrees (value_of directory_string octets)

abbrev pub address_or_fault : List Subtree → Option (List ℕ) → Result (Unit {0}) Fault
address_or_fault subtrees None = Err (SubjectNotAllowed [])
address_or_fault subtrees (Some text) = refuse (not (is_allowed subtrees (rfc822_name text))) (SubjectNotAllowed text)

-- the DER of an emailAddress
unfoldable pub address_allowed : List Subtree → List ℕ → Result (Unit {0}) Fault
address_allowed subtrees octets = address_or_fault subtrees (value_of ia5_string octets)

unfoldable pub attribute_allowed : List Subtree → AttributeTypeAndValue → Result (Unit {0}) Fault
attribute_allowed subtrees a =
    cond (is_common_name a) (common_name_allowed subtrees a.value) (cond (is_email_address a) (address_allowed subtrees a.value) (Ok tt))

abbrev pub attributes_allowed : List Subtree → List AttributeTypeAndValue → Result (Unit {0}) Fault
attributes_allowed subtrees [] = Ok tt
attributes_allowed subtrees (a ∷ rest) = and_then (attribute_allowed subtrees a) (λ u. attributes_allowed subtrees rest)

abbrev pub parts_allowed : List Subtree → List RelativeDistinguishedName → Result (Unit {0}) Fault
parts_allowed subtrees [] = Ok tt
parts_allowed subtrees (part ∷ rest) = and_then (attributes_allowed subtrees part.0) (λ u. parts_allowed subtrees rest)

-- a subject that is taken has only such names, where there are subtrees
abbrev pub subject_allowed : Bool → Option (List Subtree) → Name → Result (Unit {0}) Fault
subject_allowed false allowed name = Ok tt
subject_allowed true None name = Ok tt
subject_allowed true (Some subtrees) name = parts_allowed subtrees (name_parts name)
