-- Fields of what is signed, each read alone.
use Rattle.std.specs.Prelude.{ℕ, cond, List, [], ◌++◌, ◌==◌, codes, Option, Some, None}
use Rattle.der_tree.specs.Codec.{Codec}
use Rattle.der_tree.specs.Form.{value_of}
use Rattle.der_tree.specs.PrimitiveTypes.{bit_string, integer}
use Rattle.pkix_attr.specs.Holders.{holder, issuer}
use Rattle.pkix_cert.specs.Algorithms.{algorithm_identifier, subject_public_key_info}
use Rattle.pkix_cert.specs.Revocations.{revoked_certificate}
use Rattle.pkix_cert.specs.Times.{time}
use Rattle.pkix_cert.specs.Versions.{raw_value, version}
use Rattle.pkix_cert.specs.declared.algorithm.AlgorithmIdentifier.{AlgorithmIdentifier}
use Rattle.pkix_cert.specs.declared.certificate.Version.{Version}
use Rattle.pkix_name.specs.Names.{attribute}
use Rattle.shelf_explain.specs.AttributeCertificates.{holder_lines, issuer_lines}
use Rattle.shelf_explain.specs.BitNames.{bits_text}
use Rattle.shelf_explain.specs.Blocks.{time_text, version_text}
use Rattle.shelf_explain.specs.ExtensionParts.{extension_at}
use Rattle.shelf_explain.specs.Keys.{full_algorithm_text, key_lines}
use Rattle.shelf_explain.specs.Lines.{line}
use Rattle.shelf_explain.specs.Lists.{entry_lines}
use Rattle.shelf_explain.specs.NameParts.{name_at}
use Rattle.shelf_explain.specs.Names.{hex_value}
use Rattle.shelf_explain.specs.Numbers.{serial_text}
use Rattle.shelf_explain.specs.PartTexts.{parts_text, read_at, spread, unreadable_at, unreadable_part}
use Rattle.shelf_explain.specs.Parts.{Place, inside, parts_of}
use Rattle.shelf_explain.specs.Requests.{attribute_lines}
use Rattle.shelf_explain.specs.declared.field_part.Field.{Field}
use Rattle.shelf_explain.specs.declared.field_part.Field.TheVariants as field

-- ---- texts of one line

-- version 1 is never written (RFC 5280, 4.1.2.1; X.690, 11.5)
unfoldable pub written_version : Version → List ℕ
written_version v = cond (raw_value v == 0) (codes "1 (the default, which is left out: X.690, 11.5)") (version_text v)

unfoldable pub version_or_unreadable : Option Version → Place → List ℕ
version_or_unreadable None p = unreadable_at p
version_or_unreadable (Some v) p = written_version v

unfoldable pub version_at : Place → List ℕ
version_at p = version_or_unreadable (value_of version p.octets) p

unfoldable pub version_within : Option Place → Place → List ℕ
version_within None p = unreadable_at p
version_within (Some q) p = version_at q

-- within an explicit tag
unfoldable pub version_inside : Place → List ℕ
version_inside p = version_within (inside p) p

unfoldable pub serial_or_unreadable : Option (List ℕ) → Place → List ℕ
serial_or_unreadable None p = unreadable_at p
serial_or_unreadable (Some serial) p = serial_text serial

unfoldable pub serial_at : Place → List ℕ
serial_at p = serial_or_unreadable (value_of integer p.octets) p

unfoldable pub algorithm_or_unreadable : Option AlgorithmIdentifier → Place → List ℕ
algorithm_or_unreadable None p = unreadable_at p
algorithm_or_unreadable (Some a) p = full_algorithm_text a

unfoldable pub algorithm_at : Place → List ℕ
algorithm_at p = algorithm_or_unreadable (value_of algorithm_identifier p.octets) p

abbrev pub time_at : Place → List ℕ
time_at p = read_at time time_text p

unfoldable pub times_at : Place → List ℕ
times_at p = spread time_at p

abbrev pub number_at : Place → List ℕ
number_at p = read_at version version_text p

abbrev pub bits_at : Place → List ℕ
bits_at p = read_at bit_string bits_text p

unfoldable pub octets_at : Place → List ℕ
octets_at p = hex_value p.octets

unfoldable pub part_line : List ℕ → (Place → List ℕ) → Place → List ℕ
part_line name text p = line (codes "  ") name (text p)

-- ---- lines of values

unfoldable pub lines_or_unreadable : {A : Type 0} → (A → List ℕ) → List ℕ → Option A → Place → List ℕ
lines_or_unreadable lines name None p = unreadable_part (codes "  ") name p
lines_or_unreadable lines name (Some value) p = lines value

unfoldable pub lines_at : {A : Type 0} → Codec A → (A → List ℕ) → List ℕ → Place → List ℕ
lines_at c lines name p = lines_or_unreadable lines name (value_of c p.octets) p

unfoldable pub entry_at : Place → List ℕ
entry_at p = lines_at revoked_certificate entry_lines (codes "  entry") p

unfoldable pub attribute_at : Place → List ℕ
attribute_at p = lines_at attribute attribute_lines (codes "attribute") p

-- an element that is no field
unfoldable pub other_at : Place → List ℕ
other_at p = unreadable_part (codes "  ") (codes "unexpected element") p

-- ---- lists

unfoldable pub title : List ℕ → List ℕ
title name = codes "  " ++ name ++ codes ":\n"

unfoldable pub listed_parts : List ℕ → (Place → List ℕ) → List Place → List ℕ
listed_parts name text ps = title name ++ parts_text [] text ps

unfoldable pub listed_or_unreadable : List ℕ → (Place → List ℕ) → Option (List Place) → Place → List ℕ
listed_or_unreadable name text None p = unreadable_part (codes "  ") name p
listed_or_unreadable name text (Some ps) p = listed_parts name text ps

-- what is within the part, under a title
unfoldable pub listed : List ℕ → (Place → List ℕ) → Place → List ℕ
listed name text p = listed_or_unreadable name text (parts_of p) p

unfoldable pub extensions_within : List ℕ → Option Place → Place → List ℕ
extensions_within name None p = unreadable_part (codes "  ") name p
extensions_within name (Some q) p = listed name extension_at q

-- within an explicit tag
unfoldable pub extensions_inside : List ℕ → Place → List ℕ
extensions_inside name p = extensions_within name (inside p) p

-- ---- a field

unfoldable pub field_lines : Field → List ℕ → Place → List ℕ
field_lines field.Number name p = part_line name number_at p
field_lines field.TaggedVersion name p = part_line name version_inside p
field_lines field.Serial name p = part_line name serial_at p
field_lines field.Algorithm name p = part_line name algorithm_at p
field_lines field.Name name p = part_line name name_at p
field_lines field.Time name p = part_line name time_at p
field_lines field.Times name p = part_line name times_at p
field_lines field.Key name p = lines_at subject_public_key_info key_lines name p
field_lines field.Octets name p = part_line name octets_at p
field_lines field.Bits name p = part_line name bits_at p
field_lines field.Extensions name p = listed name extension_at p
field_lines field.TaggedExtensions name p = extensions_inside name p
field_lines field.Entries name p = listed name entry_at p
field_lines field.Attributes name p = listed name attribute_at p
field_lines field.Holder name p = lines_at holder holder_lines name p
field_lines field.Issuer name p = lines_at issuer issuer_lines name p
