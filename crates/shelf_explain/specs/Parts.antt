-- Elements where they are in a block.
use Rattle.std.specs.Prelude.{ℕ, ◌+◌, ◌-◌, ◌==◌, Bool, false, length, min, List, [], ◌∷◌, Option, Some, None}
use Rattle.asn1_core.specs.Binds.{◌>>=◌}
use Rattle.der_tree.specs.Element.{Element, children_of, element_octets, one_element}

pub record Place : Type 0 where
  -- how many octets of the block come before it
  pub at : ℕ
  -- those of the element
  pub octets : List ℕ

-- so many octets on; no block has more than the highest of these numbers
abbrev pub further : ℕ → ℕ → ℕ
further at count = min (at + count) 18446744073709551615

abbrev pub place_of : ℕ → List ℕ → Place
place_of at octets = record { at = at; octets = octets }

unfoldable pub in_front : List ℕ → Place
in_front octets = place_of 0 octets

-- elements one after the other, the first of them there
unfoldable pub places_from : ℕ → List Element → List Place
places_from at [] = []
places_from at (s ∷ ss) = place_of at (element_octets s) ∷ places_from (further at (length (element_octets s))) ss

-- where the contents of an element begin
abbrev pub contents_at : ℕ → Element → ℕ
contents_at at s = further at (length (element_octets s) - length s.content)

abbrev pub places_within : ℕ → Element → Option (List Place)
places_within at s = children_of s >>= λ (ss : List Element). Some (places_from (contents_at at s) ss)

-- the elements within the one that is there, where the octets are those of one that is constructed
unfoldable pub parts_of : Place → Option (List Place)
parts_of p = one_element p.octets >>= places_within p.at

-- the identifier octet is this one
unfoldable pub begins_with : List ℕ → ℕ → Bool
begins_with [] start = false
begins_with (first ∷ octets) start = first == start

unfoldable pub only : Option (List Place) → Option Place
only (Some (p ∷ [])) = Some p
only _ = None

-- the only element within
unfoldable pub inside : Place → Option Place
inside p = only (parts_of p)
