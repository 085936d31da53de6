-- Values as the octets of their DER encodings.
use Rattle.std.specs.Prelude.{ℕ, List, [], Option, Some, None, Result, Ok, Err}
use Rattle.asn1_core.specs.Binds.{◌>>=◌}
use Rattle.der_tree.specs.Codec.{Codec}
use Rattle.der_tree.specs.Element.{element_octets}
use Rattle.der_tree.specs.Tree.{PlainTree}
use Rattle.der_tree.specs.TreeElement.{element_of}
use Rattle.der_tree.specs.declared.error.EncodeError.{EncodeError}
use Rattle.shelf_explain.specs.Names.{hex_value}

abbrev pub tree_in : Result PlainTree EncodeError → Option PlainTree
tree_in (Ok t) = Some t
tree_in (Err e) = None

-- the DER encoding, where the value has one; each that was read has
unfoldable pub encoding_of : {A : Type 0} → Codec A → A → Option (List ℕ)
encoding_of c v = tree_in (c.tree_of v) >>= element_of >>= λ s. Some (element_octets s)

unfoldable pub hex_or_nothing : Option (List ℕ) → List ℕ
hex_or_nothing None = []
hex_or_nothing (Some octets) = hex_value octets

-- the encoding in hexadecimal digits
unfoldable pub encoded_text : {A : Type 0} → Codec A → A → List ℕ
encoded_text c v = hex_or_nothing (encoding_of c v)
