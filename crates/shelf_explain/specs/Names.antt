-- Names, as RFC 4514 writes them.
use Rattle.std.specs.Prelude.{ℕ, cond, List, [], ◌∷◌, ◌++◌, codes, reverse, Option, Some, None}
use Rattle.std.specs.Char.{is_ascii}
use Rattle.std.specs.List.{join_by, list_all}
use Rattle.std.specs.Str.{chars}
use Rattle.asn1_core.specs.StringTypes.{pairs, quads}
use Rattle.der_tree.specs.CharacterStrings.{ia5_string}
use Rattle.der_tree.specs.Form.{value_of}
use Rattle.pkix_name.specs.DirectoryStrings.{directory_string}
use Rattle.pkix_name.specs.declared.directory_string.DirectoryString.{DirectoryString}
use Rattle.pkix_name.specs.declared.directory_string.DirectoryString.TheVariants.{Teletex, Printable, Universal, Utf8, Bmp}
use Rattle.pkix_name.specs.declared.name.AttributeTypeAndValue.{AttributeTypeAndValue}
use Rattle.pkix_name.specs.declared.name.RelativeDistinguishedName.{RelativeDistinguishedName}
use Rattle.pkix_name.specs.declared.name.Name.{Name}
use Rattle.pkix_name.specs.declared.name.Name.TheVariants.{RdnSequence}
use Rattle.shelf_explain.specs.Known.{attribute_names, name_in}
use Rattle.shelf_explain.specs.Lines.{dotted, hex_text}
use Rattle.shelf_explain.specs.Values.{value_text}

-- the DER encoding in hexadecimal digits (RFC 4514, 2.4)
unfoldable pub hex_value : List ℕ → List ℕ
hex_value octets = codes "#" ++ hex_text octets

unfoldable pub teletex_text : List ℕ → List ℕ → List ℕ
teletex_text contents octets = cond (list_all is_ascii contents) (value_text contents) (hex_value octets)

unfoldable pub directory_string_text : DirectoryString → List ℕ → List ℕ
directory_string_text (Teletex contents) octets = teletex_text contents octets
directory_string_text (Printable contents) octets = value_text contents
directory_string_text (Universal contents) octets = value_text (quads contents)
directory_string_text (Utf8 contents) octets = value_text (chars contents)
directory_string_text (Bmp contents) octets = value_text (pairs contents)

unfoldable pub ia5_text : Option (List ℕ) → List ℕ → List ℕ
ia5_text (Some contents) octets = value_text contents
ia5_text None octets = hex_value octets

unfoldable pub ia5_or_hex : List ℕ → List ℕ
ia5_or_hex octets = ia5_text (value_of ia5_string octets) octets

unfoldable pub string_text : Option DirectoryString → List ℕ → List ℕ
string_text (Some text) octets = directory_string_text text octets
string_text None octets = ia5_or_hex octets

-- the value of an attribute whose type has a short name
unfoldable pub attribute_value_text : List ℕ → List ℕ
attribute_value_text octets = string_text (value_of directory_string octets) octets

unfoldable pub attribute_named : Option (List ℕ) → AttributeTypeAndValue → List ℕ
attribute_named (Some name) a = name ++ codes "=" ++ attribute_value_text a.value
attribute_named None a = dotted a.attr_type ++ codes "=" ++ hex_value a.value

-- RFC 4514, 2.3
unfoldable pub attribute_text : AttributeTypeAndValue → List ℕ
attribute_text a = attribute_named (name_in attribute_names a.attr_type) a

-- RFC 4514, 2.2
unfoldable pub relative_name_text : RelativeDistinguishedName → List ℕ
relative_name_text part = join_by attribute_text (codes "+") part.0

-- the last part first (RFC 4514, 2.1)
unfoldable pub name_text : Name → List ℕ
name_text (RdnSequence []) = codes "(empty)"
name_text (RdnSequence (part ∷ parts)) = join_by relative_name_text (codes ",") (reverse (part ∷ parts))
