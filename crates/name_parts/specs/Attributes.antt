-- An attribute as text: a type, an equals sign and a value (RFC 4514, 2.3 and 2.4).
use Rattle.std.specs.Prelude.{ℕ, ◌+◌, ◌-◌, ◌==◌, ◌&&◌, ◌||◌, nat_eq, not, is_none, Bool, true, cond, drop, length, map, position, take, List, [], ◌∷◌, Option, Some, None}
use Rattle.std.specs.List.{list_all, list_any, slice_get}
use Rattle.std.specs.Option.{option_map_or}
use Rattle.asn1_core.specs.Binds.{◌>>=◌}
use Rattle.asn1_core.specs.OidFaults.{arcs_fault}
use Rattle.pkix_name.specs.declared.name.AttributeTypeAndValue.{AttributeTypeAndValue}
use Rattle.name_parts.specs.Arcs.{arcs}
use Rattle.name_parts.specs.Types.{arcs_named, kind_of}
use Rattle.name_parts.specs.Values.{value}
use Rattle.name_parts.specs.declared.octet.Octet.{Octet}
use Rattle.name_parts.specs.declared.types.Kind.{Kind}

-- the octet is c, and no escape gives it
abbrev pub is_plain : ℕ → Octet → Bool
is_plain c o = o.value == c && not o.is_escaped

abbrev pub is_equals : Octet → Bool
is_equals o = is_plain 61 o

-- the arcs, where they are an object identifier (X.660, 7.6)
abbrev pub identifier : List ℕ → Option (List ℕ)
identifier arcs = cond (is_none (arcs_fault arcs)) (Some arcs) None

abbrev pub named_or : Option (List ℕ) → List ℕ → Option (List ℕ)
named_or (Some arcs) text = identifier arcs
named_or None text = arcs text >>= identifier

-- the type that a name or arcs represent (RFC 4512, 1.4: oid)
unfoldable pub type_of : List ℕ → Option (List ℕ)
type_of name = named_or (arcs_named name) name

-- a type has no escapes
unfoldable pub attribute_type : List Octet → Option (List ℕ)
attribute_type octets = cond (list_all (λ o. not o.is_escaped) octets) (type_of (map (λ o. o.value) octets)) None

-- ---- a value (RFC 4514, 3: string)

-- NUL " , ; < > are there by an escape alone; so are the plus sign, which ends a value else, and the backslash
abbrev pub is_barred : ℕ → Bool
is_barred c = list_any (nat_eq c) (0 ∷ 34 ∷ 44 ∷ 59 ∷ 60 ∷ 62 ∷ [])

abbrev pub is_allowed : Octet → Bool
is_allowed o = o.is_escaped || not (is_barred o.value)

-- neither a space nor a number sign comes first (leadchar)
abbrev pub begins : List Octet → Bool
begins [] = true
begins (o ∷ rest) = not (is_plain 32 o) && not (is_plain 35 o)

-- no space comes last (trailchar)
abbrev pub ends : List Octet → Bool
ends octets = option_map_or (λ o. not (is_plain 32 o)) (slice_get octets (length octets - 1)) true

unfoldable pub is_string : List Octet → Bool
is_string octets = begins octets && ends octets && list_all is_allowed octets

unfoldable pub attribute_value : Kind → List Octet → Option (List ℕ)
attribute_value kind octets = cond (is_string octets) (value kind (map (λ o. o.value) octets)) None

-- ---- both, at the first equals sign

unfoldable pub attribute : List Octet → Option AttributeTypeAndValue
attribute octets =
    position is_equals octets >>= λ at.
    attribute_type (take at octets) >>= λ arcs.
    attribute_value (kind_of arcs) (drop (at + 1) octets) >>= λ value.
    Some (record { attr_type = arcs; value = value })
