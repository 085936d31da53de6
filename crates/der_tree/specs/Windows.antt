-- What windows show, and what calls on them answer.
use Rattle.std.specs.Prelude.{Bool, Err, List, None, Ok, Option, Result, Some, false, map, true, ℕ, ◌≡◌}
use Rattle.der_tree.specs.declared.error.DecodeError.{DecodeError}
use Rattle.der_tree.specs.declared.error.DecodeError.TheVariants.{NotInGrammar, OutOfMemory}
use Rattle.der_tree.specs.declared.error.WindowFault.{WindowFault}
use Rattle.der_tree.specs.declared.error.WindowFault.TheVariants.{Incomplete, Malformed}
use Rattle.der_tree.specs.declared.window.Window.{Window}
use Rattle.der_tree.specs.Element.{Element, element_octets}
use Rattle.der_tree.specs.Tags.{Tags, has}
use Rattle.asn1_core.specs.declared.tag.Tag.{Tag}

abbrev pub shown : Window → Element
shown w = record { tag = w.tag; constructed = w.constructed; content = w.content.now }

-- the bytes of the input that the window covers
abbrev pub whole_of : Window → List ℕ
whole_of w = w.whole.now

-- what a window shows, and the bytes that it covers
abbrev pub seen : Window → Element × List ℕ
seen w = (shown w, whole_of w)

-- the same of windows onto these elements
abbrev pub seen_as : List Element → List (Element × List ℕ)
seen_as ss = map (λ s. (s, element_octets s)) ss

abbrev pub is_incomplete : WindowFault → Bool
is_incomplete Incomplete = true
is_incomplete Malformed = false

-- what is read at the front, and else whether it may still go on
abbrev pub Finds : {X Y : Type 0} → (X → Y) → Result X WindowFault → Option Y → Bool → Type 0
Finds view (Ok x) o b = (o ≡ Some (view x)) × (b ≡ false)
Finds view (Err e) o b = (o ≡ None) × (b ≡ is_incomplete e)

abbrev pub Decodes : {A : Type 0} → Result A DecodeError → Option A → Type 0
Decodes (Ok v) o = o ≡ Some v
Decodes (Err NotInGrammar) o = o ≡ None
Decodes (Err OutOfMemory) o = Unit {0}

-- a value was read from the front of the elements
abbrev pub Reads : {A : Type 0} → Result A DecodeError → List Element → Option (A × List Element) → Type 0
Reads (Ok v) rest o = o ≡ Some (v, rest)
Reads (Err NotInGrammar) rest o = o ≡ None
Reads (Err OutOfMemory) rest o = Unit {0}

abbrev pub Gives : {X Y : Type 0} → (X → Y) → Result X DecodeError → Option Y → Type 0
Gives view (Ok v) o = o ≡ Some (view v)
Gives view (Err NotInGrammar) o = o ≡ None
Gives view (Err OutOfMemory) o = Unit {0}

-- what a closure answers of a window is what is read of the element that it shows
abbrev pub IsReadBy : {A : Type 0} → (Element → Option A) → (Window → Result A DecodeError → Type 0) → Type 0
IsReadBy {A} read_of Answers = (w : Window) (r : Result A DecodeError) → Answers w r → Decodes r (read_of (shown w))

-- what a closure answers of a tag is whether the tag is one of these
abbrev pub IsTestedBy : Tags → (Tag → Bool → Type 0) → Type 0
IsTestedBy starts Answers = (g : Tag) (b : Bool) → Answers g b → b ≡ has starts g
