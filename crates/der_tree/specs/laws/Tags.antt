-- The laws of sets of tags.
use Rattle.std.specs.Prelude.{List, false, nat_eq, not, refl, true, ℕ, [], ◌++◌, ◌||◌, ◌∷◌, ◌≡◌}
use Rattle.std.proofs.Common.{ap, subst, sym, ◌∙◌}
use Rattle.std.proofs.lemmas.Bool.{eq-eqb, eqb-true, not-true, or_parts}
use Rattle.asn1_core.specs.Binds.{and_true}
use Rattle.asn1_core.specs.declared.tag.Class.{Class}
use Rattle.asn1_core.specs.declared.tag.Class.TheVariants as class
use Rattle.asn1_core.specs.declared.tag.Tag.{Tag}
use Rattle.der_tree.specs.Tags.{Tags, disjoint, every, has, is_in, join, none_in, same_class, same_tag, these}

pub same_class_is : (a b : Class) → same_class a b ≡ true → a ≡ b
same_class_is class.Universal class.Universal e = refl
same_class_is class.Application class.Application e = refl
same_class_is class.Context class.Context e = refl
same_class_is class.Private class.Private e = refl
same_class_is class.Universal class.Application e = absurd cc
same_class_is class.Universal class.Context e = absurd cc
same_class_is class.Universal class.Private e = absurd cc
same_class_is class.Application class.Universal e = absurd cc
same_class_is class.Application class.Context e = absurd cc
same_class_is class.Application class.Private e = absurd cc
same_class_is class.Context class.Universal e = absurd cc
same_class_is class.Context class.Application e = absurd cc
same_class_is class.Context class.Private e = absurd cc
same_class_is class.Private class.Universal e = absurd cc
same_class_is class.Private class.Application e = absurd cc
same_class_is class.Private class.Context e = absurd cc

pub same_class-self : (a : Class) → same_class a a ≡ true
same_class-self class.Universal = refl
same_class-self class.Application = refl
same_class-self class.Context = refl
same_class-self class.Private = refl

pub same_tag_is : (a b : Tag) → same_tag a b ≡ true → a ≡ b
same_tag_is a b e =
    let p = and_true (same_class a.class b.class) (nat_eq a.number b.number) e in
    let c : a.class ≡ b.class = same_class_is a.class b.class p.0 in
    let n : a.number ≡ b.number = eqb-true a.number b.number p.1 in
    ap (λ (x : Class). let t : Tag = record { class = x; number = a.number } in t) c
    ∙ ap (λ (x : ℕ). let t : Tag = record { class = b.class; number = x } in t) n

pub same_tag-self : (a : Tag) → same_tag a a ≡ true
same_tag-self a = rw (same_class-self a.class, eq-eqb a.number a.number refl) refl

is_in-none_in : (xs ys : List Tag) (g : Tag) → none_in xs ys ≡ true → is_in g ys ≡ true → is_in g xs ≡ false
is_in-none_in [] ys g e h = refl
is_in-none_in (x ∷ xs) ys g e h =
    let p = and_true (not (is_in x ys)) (none_in xs ys) e in
    let out = not-true (is_in x ys) p.0 in
    let rest = is_in-none_in xs ys g p.1 h in
    elim (same_tag g x) as (λ b. same_tag g x ≡ b → (b || is_in g xs) ≡ false) [
      | true ↦ λ q. absurd (let k : is_in x ys ≡ true = subst (λ (t : Tag). is_in t ys ≡ true) (same_tag_is g x q) h in cc)
      | false ↦ λ q. rest
    ] refl

-- a tag of the second set isn't in the first
pub disjoint_is : (a b : Tags) (g : Tag) → disjoint a b ≡ true → has b g ≡ true → has a g ≡ false
disjoint_is every every g e h = absurd cc
disjoint_is every (these []) g e h = absurd cc
disjoint_is every (these (y ∷ ys)) g e h = absurd cc
disjoint_is (these []) every g e h = refl
disjoint_is (these (x ∷ xs)) every g e h = absurd cc
disjoint_is (these []) (these ys) g e h = refl
disjoint_is (these (x ∷ xs)) (these ys) g e h = is_in-none_in (x ∷ xs) ys g e h

is_in-append : (xs ys : List Tag) (g : Tag) → is_in g (xs ++ ys) ≡ (is_in g xs || is_in g ys)
is_in-append [] ys g = refl
is_in-append (x ∷ xs) ys g =
    elim (same_tag g x) as (λ b. (b || is_in g (xs ++ ys)) ≡ ((b || is_in g xs) || is_in g ys)) [ true ↦ refl | false ↦ is_in-append xs ys g ]

pub has-join : (a b : Tags) (g : Tag) → has (join a b) g ≡ (has a g || has b g)
has-join every b g = refl
has-join (these xs) every g = elim (is_in g xs) as (λ b. true ≡ (b || true)) [ true ↦ refl | false ↦ refl ]
has-join (these xs) (these ys) g = is_in-append xs ys g

pub join_false : (a b : Tags) (g : Tag) → has (join a b) g ≡ false → (has a g ≡ false) × (has b g ≡ false)
join_false a b g e = or_parts (has a g) (has b g) (sym (has-join a b g) ∙ e)

none_in-append : (ts xs ys : List Tag) → none_in ts (xs ++ ys) ≡ true → (none_in ts xs ≡ true) × (none_in ts ys ≡ true)
none_in-append [] xs ys e = (refl, refl)
none_in-append (t ∷ ts) xs ys e =
    let p = and_true (not (is_in t (xs ++ ys))) (none_in ts (xs ++ ys)) e in
    let q = or_parts (is_in t xs) (is_in t ys) (sym (is_in-append xs ys t) ∙ not-true (is_in t (xs ++ ys)) p.0) in
    let r = none_in-append ts xs ys p.1 in
    (rw (q.0, r.0) refl, rw (q.1, r.1) refl)

pub disjoint-join : (a p q : Tags) → disjoint a (join p q) ≡ true → (disjoint a p ≡ true) × (disjoint a q ≡ true)
disjoint-join every every q e = absurd cc
disjoint-join every (these []) every e = absurd cc
disjoint-join every (these (x ∷ xs)) every e = absurd cc
disjoint-join every (these []) (these ys) e = (refl, e)
disjoint-join every (these (x ∷ xs)) (these ys) e = absurd cc
disjoint-join (these []) every every e = (refl, refl)
disjoint-join (these []) every (these ys) e = (refl, refl)
disjoint-join (these []) (these xs) every e = (refl, refl)
disjoint-join (these []) (these xs) (these ys) e = (refl, refl)
disjoint-join (these (t ∷ ts)) every q e = absurd cc
disjoint-join (these (t ∷ ts)) (these xs) every e = absurd cc
disjoint-join (these (t ∷ ts)) (these xs) (these ys) e = none_in-append (t ∷ ts) xs ys e
