-- What has, or would have, fewer than 2^64 octets.
use Rattle.std.specs.Prelude.{◌^◌, ◌<◌, List, length}
use Rattle.std.specs.List.{AllByRecursion}
use Rattle.der_tree.specs.HasTree.{HasShortTree}
use Rattle.pkix_name.specs.Names.{attribute_type_and_value}
use Rattle.rcgen_text.specs.AlternativeNames.{AlternativeName, rfc822_name, dns_name, uri, ip_address, other_name}
use Rattle.rcgen_text.specs.DnValues.{text_bytes}
use Rattle.rcgen_text.specs.Names.{Entry}
use Rattle.rcgen_certificate.specs.NameConstraints.{Base, rfc822_base, dns_base, directory_base, ip_base}
use Rattle.rcgen_certificate.specs.NameValues.{attribute}

-- the tree of a name's attribute has; its text has too, or there is no tree
pub record IsShortAttribute (e : Entry) : Type 0 where
  pub text : length (text_bytes e.text) < 2 ^ 64
  pub whole : HasShortTree attribute_type_and_value (attribute e)

abbrev pub HasShortAttributes : List Entry → Type 0
HasShortAttributes name = AllByRecursion IsShortAttribute name

-- the text of an other name has, or there is no tree
abbrev pub HasShortText : AlternativeName → Type 0
HasShortText (rfc822_name text) = Unit {0}
HasShortText (dns_name text) = Unit {0}
HasShortText (uri text) = Unit {0}
HasShortText (ip_address address) = Unit {0}
HasShortText (other_name arcs text) = length text < 2 ^ 64

abbrev pub HaveShortTexts : List AlternativeName → Type 0
HaveShortTexts names = AllByRecursion HasShortText names

-- a subtree's directory name has short attributes
abbrev pub HasShortBase : Base → Type 0
HasShortBase (rfc822_base text) = Unit {0}
HasShortBase (dns_base text) = Unit {0}
HasShortBase (directory_base name) = HasShortAttributes name
HasShortBase (ip_base subnet) = Unit {0}
