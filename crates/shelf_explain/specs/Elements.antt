-- Elements of types without a grammar here.
use Rattle.std.specs.Prelude.{ℕ, cond, List, [], ◌∷◌, codes, nat_eq, Option, Some, None}
use Rattle.std.specs.Cmp.Lexicographic.{pointwise}
use Rattle.der_tree.specs.Form.{value_of}
use Rattle.der_tree.specs.PrimitiveTypes.{integer, object_identifier}
use Rattle.shelf_explain.specs.Known.{identifier_text}
use Rattle.shelf_explain.specs.Names.{attribute_value_text}
use Rattle.shelf_explain.specs.Numbers.{integer_text}
use Rattle.shelf_explain.specs.PartTexts.{unreadable_at}
use Rattle.shelf_explain.specs.Parts.{Place}

-- by the number of a TLS extension (RFC 7633, 4.1; RFC 6066, 8; RFC 6961)
unfoldable pub feature_text : List ℕ → List ℕ
feature_text n =
    cond (pointwise nat_eq n (5 ∷ [])) (codes "status request (must-staple)")
    (cond (pointwise nat_eq n (17 ∷ [])) (codes "status request, version 2") (integer_text n))

unfoldable pub feature_or_unreadable : Option (List ℕ) → Place → List ℕ
feature_or_unreadable None p = unreadable_at p
feature_or_unreadable (Some n) p = feature_text n

unfoldable pub feature_at : Place → List ℕ
feature_at p = feature_or_unreadable (value_of integer p.octets) p

unfoldable pub number_or_value : Option (List ℕ) → List ℕ → List ℕ
number_or_value (Some n) octets = integer_text n
number_or_value None octets = attribute_value_text octets

unfoldable pub identifier_or_other : Option (List ℕ) → List ℕ → List ℕ
identifier_or_other (Some arcs) octets = identifier_text arcs
identifier_or_other None octets = number_or_value (value_of integer octets) octets

-- an identifier, a number, a text, or else the octets
unfoldable pub element_at : Place → List ℕ
element_at p = identifier_or_other (value_of object_identifier p.octets) p.octets
