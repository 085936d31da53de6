-- A SEQUENCE of two elements.
use Rattle.std.specs.Prelude.{ℕ, List, [], ◌∷◌, Option, Some, None}
use Rattle.asn1_core.specs.Binds.{◌>>=◌}
use Rattle.der_tree.specs.Element.{Element, one_element}
use Rattle.der_tree.specs.Sequence.{children}
use Rattle.der_tree.specs.Tags.{universal}

-- two elements, and no more
abbrev pub two : List Element → Option (Element × Element)
two [] = None
two (s ∷ []) = None
two (s ∷ t ∷ []) = Some (s, t)
two (s ∷ t ∷ u ∷ ss) = None

-- those within the SEQUENCE whose octets they are
unfoldable pub pair_in : List ℕ → Option (Element × Element)
pair_in octets = one_element octets >>= λ s. children (universal 16) s >>= two
