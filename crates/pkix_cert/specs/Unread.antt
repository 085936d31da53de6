-- Contents octets of which the elements are read one after the other.
use Rattle.std.specs.Prelude.{Bool, List, None, Option, Some, cond, is_some, length, suc, zero, ℕ, [], ◌∷◌}
use Rattle.der_tree.specs.Element.{Element, element_at, split}

abbrev pub front_then : (List ℕ → List Element) → Option (Element × List ℕ) → List Element
front_then behind None = []
front_then behind (Some x) = x.0 ∷ behind x.1

unfoldable pub front_in : ℕ → List ℕ → List Element
front_in zero octets = []
front_in (suc k) octets = front_then (front_in k) (element_at octets)

-- the elements at the front of the octets, as many as are there: all, where the octets are elements
unfoldable pub front : List ℕ → List Element
front octets = front_in (length octets) octets

pub record Unread : Type 0 where
  pub elements : List Element
  -- nothing comes after them
  pub complete : Bool

abbrev pub unread : List ℕ → Unread
unread octets = record { elements = front octets; complete = is_some (split octets) }

-- the elements, where nothing comes after them
abbrev pub all_of : Unread → Option (List Element)
all_of u = cond u.complete (Some u.elements) None

abbrev pub all_if : Option Unread → Option (List Element)
all_if None = None
all_if (Some u) = all_of u
