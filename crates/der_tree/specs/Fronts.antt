-- Bytes that begin with an element, and bytes that may still become one.
use Rattle.std.specs.Prelude.{List, true, ℕ, [], ◌++◌, ◌≡◌}
use Rattle.der_tree.specs.Element.{Element, element_octets, is_encodable}

-- an element's octets, and the rest
abbrev pub BeginsWith : List ℕ → Element → List ℕ → Type 0
BeginsWith bytes s rest = (is_encodable s ≡ true) × (bytes ≡ element_octets s ++ rest)

-- a front of an element's octets, but not all of them
abbrev pub IsFront : List ℕ → Type 0
IsFront bytes = (s : Element) × (after : List ℕ) × (after ≡ [] → ⊥) × (is_encodable s ≡ true) × (element_octets s ≡ bytes ++ after)

abbrev pub IsMalformed : List ℕ → Type 0
IsMalformed bytes = (IsFront bytes → ⊥) × ((s : Element) (rest : List ℕ) → BeginsWith bytes s rest → ⊥)
