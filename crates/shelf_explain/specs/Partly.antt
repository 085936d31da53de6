-- What is signed with its signature, field by field, where it can't be read as a whole (RFC 5280, 4.1, 5.1; RFC 2986, 4; RFC 5755, 4.1).
use Rattle.std.specs.Prelude.{ℕ, Bool, false, cond, List, [], ◌∷◌, ◌++◌, ◌&&◌, ◌==◌, codes, Option, Some, None}
use Rattle.der_tree.specs.Codec.{Codec}
use Rattle.der_tree.specs.Form.{value_of}
use Rattle.shelf_explain.specs.Blocks.{unread_octets}
use Rattle.shelf_explain.specs.Lines.{line}
use Rattle.shelf_explain.specs.PartTexts.{unreadable_part, whole_place}
use Rattle.shelf_explain.specs.Parts.{Place, begins_with, in_front, parts_of}
use Rattle.shelf_explain.specs.Rows.{rows_lines}
use Rattle.shelf_explain.specs.Tables.{Row, signature_fields}

-- A SEQUENCE, and one more after it, are taken for what is signed and an algorithm. No private key begins so: under a wrong
-- label its octets have to stay hidden (RFC 5958, 2, 3).
unfoldable pub is_signed : Place → List Place → Bool
is_signed signed [] = false
is_signed signed (algorithm ∷ rest) = begins_with signed.octets 48 && begins_with algorithm.octets 48

unfoldable pub has_signed_form : Option (List Place) → Bool
has_signed_form (Some (signed ∷ rest)) = is_signed signed rest
has_signed_form _ = false

unfoldable pub whole_line : Place → List ℕ
whole_line p = line (codes "  ") (codes "block") (whole_place p)

unfoldable pub rows_or_unreadable : List Row → Option (List Place) → Place → List ℕ
rows_or_unreadable rows None p = unreadable_part (codes "  ") (codes "signed part") p
rows_or_unreadable rows (Some ps) p = rows_lines rows ps

-- the fields within
unfoldable pub within_lines : List Row → Place → List ℕ
within_lines rows p = rows_or_unreadable rows (parts_of p) p

unfoldable pub signed_parts : List Row → Place → Place → List Place → List ℕ
signed_parts rows p signed rest = whole_line p ++ within_lines rows signed ++ rows_lines signature_fields rest

unfoldable pub parts_or_unread : List Row → Place → List Place → List ℕ
parts_or_unread rows p [] = unread_octets p.octets
parts_or_unread rows p (signed ∷ rest) = cond (is_signed signed rest) (signed_parts rows p signed rest) (unread_octets p.octets)

unfoldable pub block_parts : List Row → Option (List Place) → Place → List ℕ
block_parts rows None p = unread_octets p.octets
block_parts rows (Some ps) p = parts_or_unread rows p ps

-- what can be read of a block, and the octets of what can't
unfoldable pub by_rows : List Row → Place → List ℕ
by_rows rows p = block_parts rows (parts_of p) p

unfoldable pub lines_or_rows : {A : Type 0} → (A → List ℕ) → List Row → Option A → List ℕ → List ℕ
lines_or_rows lines rows None octets = by_rows rows (in_front octets)
lines_or_rows lines rows (Some value) octets = lines value

-- of the value whose DER encoding the octets are, or else of what can be read of them
unfoldable pub read_or_rows : {A : Type 0} → Codec A → (A → List ℕ) → List Row → List ℕ → List ℕ
read_or_rows c lines rows octets = lines_or_rows lines rows (value_of c octets) octets
