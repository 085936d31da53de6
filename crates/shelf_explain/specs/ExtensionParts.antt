-- Extensions that can't be read as a whole (RFC 5280, 4.1).
use Rattle.std.specs.Prelude.{ℕ, Bool, true, false, List, [], ◌∷◌, ◌++◌, codes, Option, Some, None}
use Rattle.der_tree.specs.Form.{value_of}
use Rattle.der_tree.specs.PrimitiveTypes.{boolean, object_identifier, octet_string}
use Rattle.pkix_cert.specs.Extensions.{extension}
use Rattle.pkix_cert.specs.declared.extension.Extension.{Extension}
use Rattle.shelf_explain.specs.ExtensionTexts.{contents_text, extension_line, kind_of}
use Rattle.shelf_explain.specs.Known.{extension_name_text}
use Rattle.shelf_explain.specs.Lines.{line, next_line}
use Rattle.shelf_explain.specs.PartTexts.{unreadable_at, unreadable_part, whole_place}
use Rattle.shelf_explain.specs.Parts.{Place, parts_of}

unfoldable pub flag_or_unreadable : Option Bool → Place → List ℕ
flag_or_unreadable None p = unreadable_at p
flag_or_unreadable (Some true) p = codes "critical"
flag_or_unreadable (Some false) p = codes "not critical (the default, which is left out: X.690, 11.5)"

unfoldable pub flag_at : Place → List ℕ
flag_at p = flag_or_unreadable (value_of boolean p.octets) p

unfoldable pub contents_or_unreadable : List ℕ → Option (List ℕ) → Place → List ℕ
contents_or_unreadable arcs None p = unreadable_at p
contents_or_unreadable arcs (Some octets) p = contents_text (kind_of arcs) octets

-- what is in the OCTET STRING
unfoldable pub contents_at : List ℕ → Place → List ℕ
contents_at arcs p = contents_or_unreadable arcs (value_of octet_string p.octets) p

-- what follows the identifier: the flag, where it is there, and the contents
unfoldable pub rest_text : List ℕ → List Place → Place → List ℕ
rest_text arcs [] p = unreadable_at p
rest_text arcs (value ∷ []) p = contents_at arcs value
rest_text arcs (flag ∷ value ∷ []) p = flag_at flag ++ next_line ++ contents_at arcs value
rest_text arcs (flag ∷ value ∷ more ∷ others) p = unreadable_at p

unfoldable pub broken_text : List ℕ → List Place → Place → List ℕ
broken_text arcs rest p = whole_place p ++ next_line ++ rest_text arcs rest p

unfoldable pub known_extension : List ℕ → List Place → Place → List ℕ
known_extension arcs rest p = line (codes "    ") (extension_name_text arcs) (broken_text arcs rest p)

unfoldable pub by_identifier : Option (List ℕ) → List Place → Place → List ℕ
by_identifier None rest p = unreadable_part (codes "    ") (codes "extension") p
by_identifier (Some arcs) rest p = known_extension arcs rest p

unfoldable pub by_parts : Option (List Place) → Place → List ℕ
by_parts None p = unreadable_part (codes "    ") (codes "extension") p
by_parts (Some []) p = unreadable_part (codes "    ") (codes "extension") p
by_parts (Some (id ∷ rest)) p = by_identifier (value_of object_identifier id.octets) rest p

-- its parts, by its identifier
unfoldable pub broken_extension : Place → List ℕ
broken_extension p = by_parts (parts_of p) p

unfoldable pub line_or_broken : Option Extension → Place → List ℕ
line_or_broken None p = broken_extension p
line_or_broken (Some e) p = extension_line (codes "    ") e

unfoldable pub extension_at : Place → List ℕ
extension_at p = line_or_broken (value_of extension p.octets) p
