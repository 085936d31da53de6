-- DER all the way down: octets that are one element, with none at any depth that X.690 forbids for its universal type. What only a type's definition
-- says isn't seen: defaults (11.5), named bits (11.2.2), types with other tags.
use Rattle.std.specs.Prelude.{ℕ, zero, suc, Bool, true, false, ◌&&◌, ◌||◌, ◌==◌, not, nat_lt, cond, unwrap_or, List, [], ◌∷◌, Option, Some, None}
use Rattle.std.specs.List.{list_all}
use Rattle.std.specs.Option.{option_map_or}
use Rattle.asn1_core.specs.declared.tag.Class.{Class}
use Rattle.asn1_core.specs.declared.tag.Class.TheVariants.{Universal, Application, Context, Private}
use Rattle.asn1_core.specs.declared.tag.Tag.{Tag}
use Rattle.der_tree.specs.Element.{Element, children_of, one_element, split}
use Rattle.der_tree.specs.SetOf.{in_order}
use Rattle.der_tree.specs.Tags.{same_class}
use Rattle.strict_der.specs.Contents.{are_contents}

abbrev pub is_universal : Tag → Bool
is_universal g = same_class g.class Universal

-- ---- a SET

-- the order of classes (X.680, 8.6)
abbrev pub rank : Class → ℕ
rank Universal = 0
rank Application = 1
rank Context = 2
rank Private = 3

-- after the other in the order of tags (X.680, 8.6)
abbrev pub comes_after : Tag → Tag → Bool
comes_after g h = nat_lt (rank h.class) (rank g.class) || (rank g.class == rank h.class && nat_lt h.number g.number)

-- no tag comes after the one that follows it
abbrev pub tags_ascend_from : Tag → List Element → Bool
tags_ascend_from g [] = true
tags_ascend_from g (s ∷ ss) = not (comes_after g s.tag) && tags_ascend_from s.tag ss

abbrev pub tags_ascend : List Element → Bool
tags_ascend [] = true
tags_ascend (s ∷ ss) = tags_ascend_from s.tag ss

-- In order as a SET OF, by their octets (11.6), and as a SET, by their tags (10.3). Which of the two types it is doesn't show: elements that
-- only one of the orders allows, as a constructed [0] beside a primitive [1], are refused.
abbrev pub is_ordered : List Element → Bool
is_ordered ss = in_order ss && tags_ascend ss

-- ---- one element

-- types whose elements are constructed, in any order: EXTERNAL, EMBEDDED PDV, SEQUENCE and CHARACTER STRING (8.9, 8.10, 8.17, 8.18, 8.24)
abbrev pub is_sequence : ℕ → Bool
is_sequence n = n == 8 || n == 11 || n == 16 || n == 29

-- contents of a constructed element of the tag are elements, in order where it is a SET; another universal type isn't constructed (10.2)
abbrev pub has_elements : Tag → Option (List Element) → Bool
has_elements g None = false
has_elements g (Some ss) = not (is_universal g) || is_sequence g.number || (g.number == 17 && is_ordered ss)

-- contents of a primitive element of the tag are those of its type; where it is of no universal one, any octets
abbrev pub has_contents : Tag → List ℕ → Bool
has_contents g octets = not (is_universal g) || are_contents g.number octets

-- the element, whatever is within it
unfoldable pub has_form : Element → Bool
has_form s = cond s.constructed (has_elements s.tag (split s.content)) (has_contents s.tag s.content)

-- ---- all the way down

-- the elements within one; none in a primitive one
abbrev pub within : Element → List Element
within s = unwrap_or (children_of s) []

-- the element and those within it have their forms, on so many levels at most
unfoldable pub is_strict_within : ℕ → Element → Bool
is_strict_within zero s = false
is_strict_within (suc levels) s = has_form s && list_all (is_strict_within levels) (within s)

-- how many levels of elements, the outermost counted, are looked into; more are refused
abbrev pub level_limit : ℕ
level_limit = 64

-- the octets are one element of definite, shortest length (10.1), and no element in it has a form that X.690 forbids
unfoldable pub is_strict : List ℕ → Bool
is_strict octets = option_map_or (is_strict_within level_limit) (one_element octets) false
