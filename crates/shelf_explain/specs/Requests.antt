-- The lines of a request for a certificate (RFC 2986, 4).
use Rattle.std.specs.Prelude.{ℕ, cond, List, [], ◌∷◌, ◌++◌, codes, flat_map, nat_eq, Option, Some, None}
use Rattle.std.specs.Cmp.Lexicographic.{pointwise}
use Rattle.der_tree.specs.Form.{value_of}
use Rattle.pkix_cert.specs.Extensions.{extensions}
use Rattle.pkix_cert.specs.declared.extension.Extensions.{Extensions}
use Rattle.pkix_cert.specs.declared.request.CertificationRequest.{CertificationRequest}
use Rattle.pkix_cert.specs.declared.request.CertificationRequestInfo.{CertificationRequestInfo}
use Rattle.pkix_name.specs.declared.name.Attribute.{Attribute}
use Rattle.shelf_explain.specs.Blocks.{signature_lines, unreadable_line, version_text}
use Rattle.shelf_explain.specs.ExtensionParts.{extension_at}
use Rattle.shelf_explain.specs.ExtensionTexts.{all_extensions}
use Rattle.shelf_explain.specs.GeneralNames.{each_text}
use Rattle.shelf_explain.specs.Keys.{key_lines}
use Rattle.shelf_explain.specs.Known.{identifier_text}
use Rattle.shelf_explain.specs.Lines.{labelled, line}
use Rattle.shelf_explain.specs.Names.{hex_value, name_text}
use Rattle.shelf_explain.specs.PartTexts.{parts_text}
use Rattle.shelf_explain.specs.Parts.{Place, in_front, parts_of}

-- ---- extensions that are asked for (RFC 2985, 5.4.2)

unfoldable pub parts_or_unreadable : Option (List Place) → List ℕ → List ℕ
parts_or_unreadable None octets = unreadable_line (codes "    ") octets
parts_or_unreadable (Some ps) octets = parts_text [] extension_at ps

-- one by one, where they can't be read as a whole
unfoldable pub requested_parts : List ℕ → List ℕ
requested_parts octets = parts_or_unreadable (parts_of (in_front octets)) octets

unfoldable pub some_requested : Option Extensions → List ℕ → List ℕ
some_requested None octets = requested_parts octets
some_requested (Some es) octets = all_extensions (codes "    ") es.0

unfoldable pub requested_in : List ℕ → List ℕ
requested_in octets = some_requested (value_of extensions octets) octets

unfoldable pub requested_extensions : List (List ℕ) → List ℕ
requested_extensions values = flat_map requested_in values

-- ---- attributes

-- the type, and a line for each value
unfoldable pub plain_attribute : Attribute → List ℕ
plain_attribute a = line (codes "  ") (identifier_text a.attr_type) (each_text hex_value a.values)

unfoldable pub attribute_lines : Attribute → List ℕ
attribute_lines a =
    cond (pointwise nat_eq a.attr_type (1 ∷ 2 ∷ 840 ∷ 113549 ∷ 1 ∷ 9 ∷ 14 ∷ []))
    (labelled (codes "  requested extensions:\n") (requested_extensions a.values)) (plain_attribute a)

unfoldable pub attributes_lines : List Attribute → List ℕ
attributes_lines attributes = flat_map attribute_lines attributes

-- ---- the request

unfoldable pub info_lines : CertificationRequestInfo → List ℕ
info_lines info =
    line (codes "  ") (codes "subject") (name_text info.subject)
    ++ key_lines info.subject_public_key_info
    ++ line (codes "  ") (codes "version") (version_text info.version)
    ++ attributes_lines info.attributes

unfoldable pub request_lines : CertificationRequest → List ℕ
request_lines r = info_lines r.info ++ signature_lines r.signature_algorithm r.signature
