-- Sets of tags.
use Rattle.std.specs.Prelude.{Bool, List, false, nat_eq, not, true, [], ◌&&◌, ◌++◌, ◌||◌, ◌∷◌}
pub use Rattle.asn1_core.specs.Tags.{universal, context}
use Rattle.asn1_core.specs.declared.tag.Class.{Class}
use Rattle.asn1_core.specs.declared.tag.Class.TheVariants as class
use Rattle.asn1_core.specs.declared.tag.Tag.{Tag}

abbrev pub same_class : Class → Class → Bool
same_class class.Universal class.Universal = true
same_class class.Application class.Application = true
same_class class.Context class.Context = true
same_class class.Private class.Private = true
same_class _ _ = false

abbrev pub same_tag : Tag → Tag → Bool
same_tag a b = same_class a.class b.class && nat_eq a.number b.number

pub data Tags : Type 0 where
  every : Tags
  these : List Tag → Tags

abbrev pub is_in : Tag → List Tag → Bool
is_in g [] = false
is_in g (x ∷ xs) = same_tag g x || is_in g xs

abbrev pub has : Tags → Tag → Bool
has every g = true
has (these xs) g = is_in g xs

abbrev pub join : Tags → Tags → Tags
join every b = every
join (these xs) every = every
join (these xs) (these ys) = these (xs ++ ys)

abbrev pub none_in : List Tag → List Tag → Bool
none_in [] ys = true
none_in (x ∷ xs) ys = not (is_in x ys) && none_in xs ys

abbrev pub disjoint : Tags → Tags → Bool
disjoint every every = false
disjoint every (these []) = true
disjoint every (these (y ∷ ys)) = false
disjoint (these []) every = true
disjoint (these (x ∷ xs)) every = false
disjoint (these xs) (these ys) = none_in xs ys
