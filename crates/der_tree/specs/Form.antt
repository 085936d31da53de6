-- The DER encoding of values (X.690).
use Rattle.std.specs.Prelude.{List, Ok, Option, Some, ℕ, ◌≡◌}
use Rattle.asn1_core.specs.Binds.{◌>>=◌}
use Rattle.der_tree.specs.Codec.{Codec}
use Rattle.der_tree.specs.Element.{Element, element_octets, one_element}
use Rattle.der_tree.specs.Tree.{PlainTree}
use Rattle.der_tree.specs.TreeElement.{element_of}

-- the octets are the DER encoding of the value: those of its tree
abbrev pub IsDerOf : {A : Type 0} → Codec A → A → List ℕ → Type 0
IsDerOf c v b = (t : PlainTree) × (s : Element) × (c.tree_of v ≡ Ok t) × (element_of t ≡ Some s) × (b ≡ element_octets s)

-- the value whose DER encoding the octets are, where they are one's
abbrev pub value_of : {A : Type 0} → Codec A → List ℕ → Option A
value_of c b = one_element b >>= c.read_of
