-- What tests of windows tell, which take no memory: that a value is there, and not which.
use Rattle.std.specs.Prelude.{List, None, Option, Some, unwrap_or, ◌≡◌}
use Rattle.asn1_core.specs.Binds.{◌>>=◌}
use Rattle.der_tree.specs.Codec.{Codec}
use Rattle.der_tree.specs.Element.{Element}
use Rattle.der_tree.specs.Windows.{shown}
use Rattle.der_tree.specs.declared.window.Window.{Window}

-- the value that an element shows, where it shows one
unfoldable pub value_in : {A : Type 0} → Codec A → Element → A
value_in c s = unwrap_or (c.read_of s) c.sample.0

-- the window covers a field, which is a value of the type
abbrev pub Sees : {A : Type 0} → Codec A → Option Window → List Element → Option (A × List Element) → Type 0
Sees c (Some w) rest o = o ≡ Some (value_in c (shown w), rest)
Sees c None rest o = o ≡ None

-- the same of a field that may be absent
abbrev pub SeesIfThere : {A : Type 0} → Codec A → Option (Option Window) → List Element → Option (Option A × List Element) → Type 0
SeesIfThere c (Some (Some w)) rest o = o ≡ Some (Some (value_in c (shown w)), rest)
SeesIfThere c (Some None) rest o = o ≡ Some (None, rest)
SeesIfThere c None rest o = o ≡ None

-- a value was read
abbrev pub Takes : {A : Type 0} → Option A → List Element → Option (A × List Element) → Type 0
Takes (Some v) rest o = o ≡ Some (v, rest)
Takes None rest o = o ≡ None

-- the elements after some fields
abbrev pub past : {A : Type 0} → Option (A × List Element) → Option (List Element)
past o = o >>= λ x. Some x.1

-- some fields are there, and these elements after them
abbrev pub Passes : {A X : Type 0} → Option X → List Element → Option (A × List Element) → Type 0
Passes (Some x) rest o = past o ≡ Some rest
Passes None rest o = o ≡ None
