-- What is read of a part of a block: where nothing is, the octets, where they are, and the rule of DER that they break.
use Rattle.std.specs.Prelude.{ℕ, List, [], ◌∷◌, ◌++◌, codes, decimal, flat_map, Option, Some, None}
use Rattle.der_tree.specs.Codec.{Codec}
use Rattle.der_tree.specs.Form.{value_of}
use Rattle.shelf_explain.specs.Faults.{fault_text}
use Rattle.shelf_explain.specs.Lines.{hex_text, labelled, line, next_line}
use Rattle.shelf_explain.specs.Parts.{Place, parts_of}

unfoldable pub place_text : List ℕ → Place → List ℕ
place_text label p = labelled label (decimal p.at) ++ fault_text p

unfoldable pub unreadable_at : Place → List ℕ
unreadable_at p = place_text (codes "unreadable at octet ") p ++ codes ": " ++ hex_text p.octets

-- a line of its own
unfoldable pub unreadable_part : List ℕ → List ℕ → Place → List ℕ
unreadable_part indent key p = line indent key (unreadable_at p)

-- the text before the parts of a part
unfoldable pub whole_place : Place → List ℕ
whole_place p = place_text (codes "unreadable as a whole at octet ") p ++ codes "; its parts:"

unfoldable pub text_or_unreadable_at : {A : Type 0} → (A → List ℕ) → Option A → Place → List ℕ
text_or_unreadable_at text None p = unreadable_at p
text_or_unreadable_at text (Some value) p = text value

-- the value whose DER encoding the part is
unfoldable pub read_at : {A : Type 0} → Codec A → (A → List ℕ) → Place → List ℕ
read_at c text p = text_or_unreadable_at text (value_of c p.octets) p

-- each, after the same text
unfoldable pub parts_text : List ℕ → (Place → List ℕ) → List Place → List ℕ
parts_text before text ps = flat_map (λ (p : Place). before ++ text p) ps

unfoldable pub by_parts : List ℕ → (Place → List ℕ) → Option (List Place) → Place → List ℕ
by_parts before text None p = unreadable_at p
by_parts before text (Some ps) p = whole_place p ++ parts_text before text ps

-- what is within the part
abbrev pub each_or_unreadable : List ℕ → (Place → List ℕ) → Place → List ℕ
each_or_unreadable before text p = by_parts before text (parts_of p) p

unfoldable pub text_or_parts : {A : Type 0} → (A → List ℕ) → List ℕ → (Place → List ℕ) → Option A → Place → List ℕ
text_or_parts text before part_text None p = each_or_unreadable before part_text p
text_or_parts text before part_text (Some value) p = text value

-- the value whose DER encoding the part is, or else what is within the part
unfoldable pub read_or_parts : {A : Type 0} → Codec A → (A → List ℕ) → List ℕ → (Place → List ℕ) → Place → List ℕ
read_or_parts c text before part_text p = text_or_parts text before part_text (value_of c p.octets) p

-- a line for each
unfoldable pub spread_parts : (Place → List ℕ) → List Place → List ℕ
spread_parts text [] = codes "none"
spread_parts text (p ∷ ps) = text p ++ parts_text next_line text ps

unfoldable pub spread_or_unreadable : (Place → List ℕ) → Option (List Place) → Place → List ℕ
spread_or_unreadable text None p = unreadable_at p
spread_or_unreadable text (Some ps) p = spread_parts text ps

abbrev pub spread : (Place → List ℕ) → Place → List ℕ
spread text p = spread_or_unreadable text (parts_of p) p
