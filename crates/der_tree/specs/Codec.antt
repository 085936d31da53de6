-- How the values of a type are trees, and how they are read: two functions that undo each other.
use Rattle.std.specs.Prelude.{Bool, IfSome, List, Ok, Option, Result, Some, false, is_ok, nat_lt, true, [], ◌++◌, ◌^◌, ◌∷◌, ◌≡◌}
use Rattle.asn1_core.specs.Binds.{◌>>=◌}
use Rattle.asn1_core.specs.declared.tag.Tag.{Tag}
use Rattle.der_tree.specs.declared.error.EncodeError.{EncodeError}
use Rattle.der_tree.specs.Element.{Element, all_encodable, is_encodable, one_element}
use Rattle.der_tree.specs.Tags.{Tags, disjoint, has}
use Rattle.der_tree.specs.Tree.{PlainTree, leaf, node, raw}
use Rattle.der_tree.specs.TreeElement.{all_raws_are_elements, element_of, elements_of, raws_are_elements}

abbrev pub HasTag : Tag → PlainTree → Type 0
HasTag g (leaf t b) = t ≡ g
HasTag g (node t k) = t ≡ g
HasTag g (raw b) = ⊥

-- its own tag, or that of the element that its bytes are
abbrev pub Begins : Tag → PlainTree → Type 0
Begins g (leaf t b) = t ≡ g
Begins g (node t k) = t ≡ g
Begins g (raw b) = (s : Element) × (one_element b ≡ Some s) × (s.tag ≡ g)

-- The tree that a value is, or its first fault; and the value that an element shows.
pub record Codec (A : Type 0) : Type 0 where
  pub tree_of : A → Result PlainTree EncodeError
  pub read_of : Element → Option A
  pub starts : Tags
  pub tag : Option Tag
  pub takes : (s : Element) (v : A) → is_encodable s ≡ true → read_of s ≡ Some v → (t : PlainTree) × (tree_of v ≡ Ok t) × (element_of t ≡ Some s)
  pub again : (v : A) (t : PlainTree) (s : Element) → tree_of v ≡ Ok t → element_of t ≡ Some s → read_of s ≡ Some v
  -- the trees begin with these tags alone, and some tree with each, where its number isn't too large
  pub begins : (v : A) (t : PlainTree) (g : Tag) → tree_of v ≡ Ok t → Begins g t → has starts g ≡ true
  pub reaches : (g : Tag) → has starts g ≡ true → nat_lt g.number (2 ^ 32) ≡ true → (v : A) × (t : PlainTree) × (tree_of v ≡ Ok t) × Begins g t
  -- some value has a tree
  pub sample : (v : A) × (t : PlainTree) × (tree_of v ≡ Ok t)
  pub tagged : IfSome tag (λ g. (v : A) (t : PlainTree) → tree_of v ≡ Ok t → HasTag g t)
  -- each tree has bytes
  pub sound : (v : A) (t : PlainTree) → tree_of v ≡ Ok t → raws_are_elements t ≡ true
  -- whether a value has a tree, by what its parts have to be
  pub has_tree : A → Bool
  pub has_tree_is : (v : A) → has_tree v ≡ is_ok (tree_of v)

-- no element of the set comes next
abbrev pub Clear : Tags → List Element → Type 0
Clear tags [] = Unit {0}
Clear tags (s ∷ ss) = has tags s.tag ≡ false

-- what goes on after some fields
abbrev pub with_fields : {A B : Type 0} → (A → List Element → Option B) → Option (A × List Element) → Option B
with_fields k o = o >>= λ x. k x.0 x.1

-- The same for some of the fields of a sequence: the trees that they are, and the fields that the first elements show.
pub record FieldsOf (A : Type 0) : Type 1 where
  -- the trees of the fields; what the first elements show, and the elements after them
  pub put : A → Result (List PlainTree) EncodeError
  pub get : List Element → Option (A × List Element)
  -- the same as get, and what goes on after it, in one
  pub read : {B : Type 0} → List Element → (A → List Element → Option B) → Option B
  pub reads : {B : Type 0} (ss : List Element) (k : A → List Element → Option B) → read ss k ≡ with_fields k (get ss)
  -- the tags with which the fields may begin; whether there may be no element at all
  pub first : Tags
  pub may_be_none : Bool
  -- the tags that may not follow, since they would be taken for a field that is absent; no field within is followed so
  pub blocks : Tags
  pub fine : Bool
  pub takes : (ss : List Element) (v : A) (rest : List Element) → all_encodable ss ≡ true → get ss ≡ Some (v, rest)
      → (ts : List PlainTree) × (front : List Element) × (put v ≡ Ok ts) × (elements_of ts ≡ Some front) × (ss ≡ front ++ rest)
  pub again : fine ≡ true → (v : A) (ts : List PlainTree) (front rest : List Element) → put v ≡ Ok ts → elements_of ts ≡ Some front → Clear blocks rest
      → get (front ++ rest) ≡ Some (v, rest)
  pub heads : (v : A) (ts : List PlainTree) (front rest : List Element) (tags : Tags) → put v ≡ Ok ts → elements_of ts ≡ Some front
      → disjoint tags first ≡ true → (may_be_none ≡ true → Clear tags rest) → Clear tags (front ++ rest)
  pub sound : (v : A) (ts : List PlainTree) → put v ≡ Ok ts → all_raws_are_elements ts ≡ true
  -- some value has trees
  pub sample : (v : A) × (ts : List PlainTree) × (put v ≡ Ok ts)
  pub has_trees : A → Bool
  pub has_trees_is : (v : A) → has_trees v ≡ is_ok (put v)
  -- what is made of the fields' values, each an argument
  pub Makes : Type 0 → Type 0
  pub make : {B : Type 0} → Makes B → A → B

-- fields whose tags tell them apart
pub record Struct (A : Type 0) : Type 1 where
  pub fields : FieldsOf A
  pub fine : fields.fine ≡ true

abbrev pub struct_of : {A : Type 0} → (f : FieldsOf A) → f.fine ≡ true → Struct A
struct_of f ok = record { fields = f; fine = ok }
