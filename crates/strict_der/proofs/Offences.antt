-- The first offence, an element at a time, and that there is none exactly where octets are strict.
use Rattle.std.specs.Prelude.{◌≡◌, ◌<◌, ◌≤◌, ◌+◌, ◌-◌, ◌==◌, ◌++◌, ℕ, zero, suc, Bool, true, false, ◌&&◌, ◌||◌, not, cond, is_none, length, unwrap_or, List, [], ◌∷◌, Option, Some, None, refl}
use Rattle.std.specs.List.{list_all}
use Rattle.std.specs.Option.{option_map_or, option_or}
use Rattle.std.proofs.Common.{sym, ap, ◌∙◌, arith, length-append}
use Rattle.std.specs.Prelude.{nat_lt, if◌then◌else◌}
use Rattle.asn1_core.specs.Binds.{◌>>=◌}
use Rattle.asn1_core.specs.declared.tag.Tag.{Tag}
use Rattle.der_tree.specs.Element.{Element, class_bits, constructed_bit, element_at, element_octets, identifier_octets, length_octets, number_octets, split, split_in}
use Rattle.asn1_core.specs.Base128.{base128}
use Rattle.der_tree.specs.laws.Element.{element_takes}
use Rattle.strict_der.specs.Offences.{element_offence, elements_offence, header_rule, is_constructed_type, of_first, of_one, offence_of, order_of, order_rule, own_rule, placed, within_offence}
use Rattle.strict_der.specs.Strict.{has_contents, has_elements, has_form, is_ordered, is_sequence, is_strict, is_strict_within, is_universal, level_limit}
use Rattle.strict_der.specs.declared.offence.Offence.{Offence}
use Rattle.strict_der.specs.declared.offence.Rule.{Rule}
use Rattle.strict_der.specs.declared.offence.Rule.TheVariants.{Constructed, Depth, Order, Trailing}

-- ---- what is left to look at, an element at a time

abbrev Found : Type 0
Found = Option (Element × List ℕ)

positive : (s : Element) (bytes rest : List ℕ) → bytes ≡ element_octets s ++ rest → length rest + length (element_octets s) ≡ length bytes
positive s bytes rest e = omega (arith, ap length e, length-append (element_octets s) rest)

has_one : (b : Bool) (x y : ℕ) (ys : List ℕ) → 1 ≤ length (if b then x ∷ [] else y ∷ ys)
has_one true x y ys = omega arith
has_one false x y ys = omega arith

pub content_within : (s : Element) → length s.content + 2 ≤ length (element_octets s)
unfolding element_octets identifier_octets length_octets
content_within s =
    let front = class_bits s.tag.class + constructed_bit s.constructed in
    let n = length s.content in
    omega (
      arith,
      length-append (identifier_octets s.tag s.constructed) (length_octets n ++ s.content),
      length-append (length_octets n) s.content,
      has_one (nat_lt s.tag.number 31) (front + s.tag.number) (front + 31) (base128 s.tag.number),
      has_one (nat_lt n 128) n (128 + length (number_octets n)) (number_octets n),
    )

-- however many elements there may be, where there may be enough
enough_first : (f : ℕ → Element → Option Offence) (j k at b : ℕ) (bytes : List ℕ) → length (b ∷ bytes) ≤ suc j → length (b ∷ bytes) ≤ suc k
    → ((next : ℕ) (left : List ℕ) → length left ≤ j → length left ≤ k → elements_offence f j next left ≡ elements_offence f k next left)
    → (x : Found) → element_at (b ∷ bytes) ≡ x
    → of_first f (λ next left. elements_offence f j next left) at (b ∷ bytes) x ≡ of_first f (λ next left. elements_offence f k next left) at (b ∷ bytes) x
enough_first f j k at b bytes l m later None e = refl
enough_first f j k at b bytes l m later (Some x) e =
    let t = element_takes (b ∷ bytes) x.0 x.1 e in
    let p = positive x.0 (b ∷ bytes) x.1 t.0 in
    let q = content_within x.0 in
    ap (λ (o : Option Offence). option_or (f at x.0) o) (later (at + length (element_octets x.0)) x.1 (omega (arith, p, q, l)) (omega (arith, p, q, m)))

enough : (f : ℕ → Element → Option Offence) (j k at : ℕ) (bytes : List ℕ) → length bytes ≤ j → length bytes ≤ k
    → elements_offence f j at bytes ≡ elements_offence f k at bytes
enough f zero zero at [] l m = refl
enough f zero (suc k) at [] l m = refl
enough f (suc j) zero at [] l m = refl
enough f (suc j) (suc k) at [] l m = refl
enough f zero k at (b ∷ bytes) l m = absurd (omega (arith, l))
enough f (suc j) zero at (b ∷ bytes) l m = absurd (omega (arith, m))
enough f (suc j) (suc k) at (b ∷ bytes) l m = enough_first f j k at b bytes l m (enough f j k) (element_at (b ∷ bytes)) refl

-- the first offence in octets that should be elements
abbrev pub offence_in : (ℕ → Element → Option Offence) → ℕ → List ℕ → Option Offence
offence_in f at bytes = elements_offence f (length bytes) at bytes

step : (f : ℕ → Element → Option Offence) (at b : ℕ) (bytes : List ℕ) (x : Found) → x ≡ element_at (b ∷ bytes)
    → offence_in f at (b ∷ bytes) ≡ of_first f (λ next left. elements_offence f (length bytes) next left) at (b ∷ bytes) x
step f at b bytes x e = ap (λ (y : Found). of_first f (λ next left. elements_offence f (length bytes) next left) at (b ∷ bytes) y) (sym e)

-- no element comes next
pub no_element : (f : ℕ → Element → Option Offence) (at : ℕ) (left : List ℕ) → 0 < length left → None ≡ element_at left
    → offence_in f at left ≡ Some (record { at = at; rule = header_rule left })
no_element f at [] l e = absurd (omega (arith, l))
no_element f at (b ∷ bytes) l e = step f at b bytes None e

-- the next element has an offence
pub in_next : (f : ℕ → Element → Option Offence) (at : ℕ) (left rest : List ℕ) (s : Element) (o : Offence) → 0 < length left
    → Some (s, rest) ≡ element_at left → Some o ≡ f at s → offence_in f at left ≡ Some o
in_next f at [] rest s o l e h = absurd (omega (arith, l))
in_next f at (b ∷ bytes) rest s o l e h =
    step f at b bytes (Some (s, rest)) e
    ∙ ap (λ (x : Option Offence). option_or x (elements_offence f (length bytes) (at + length (element_octets s)) rest)) (sym h)

-- it has none
pub after_next : (f : ℕ → Element → Option Offence) (at : ℕ) (left rest : List ℕ) (s : Element) → 0 < length left
    → Some (s, rest) ≡ element_at left → None ≡ f at s → offence_in f at left ≡ offence_in f (at + length (element_octets s)) rest
after_next f at [] rest s l e h = absurd (omega (arith, l))
after_next f at (b ∷ bytes) rest s l e h =
    let t = element_takes (b ∷ bytes) s rest (sym e) in
    let p = positive s (b ∷ bytes) rest t.0 in
    let q = content_within s in
    step f at b bytes (Some (s, rest)) e
    ∙ ap (λ (x : Option Offence). option_or x (elements_offence f (length bytes) (at + length (element_octets s)) rest)) (sym h)
    ∙ enough f (length bytes) (length rest) (at + length (element_octets s)) rest (omega (arith, p, q)) (omega arith)

-- the room of an element that comes next
pub next_fits : (left rest : List ℕ) (s : Element) → Some (s, rest) ≡ element_at left → length (element_octets s) + length rest ≡ length left
next_fits left rest s e = let p = positive s left rest (element_takes left s rest (sym e)).0 in omega (arith, p)

pub none_left : (f : ℕ → Element → Option Offence) (at : ℕ) (left : List ℕ) → length left ≡ 0 → offence_in f at left ≡ None
none_left f at [] e = refl
none_left f at (b ∷ bytes) e = absurd (omega (arith, e))

-- where the contents of an element begin, and the first offence in them
abbrev pub contents_at : ℕ → Element → ℕ
contents_at at s = at + (length (element_octets s) - length s.content)

abbrev pub inner : ℕ → ℕ → Element → Option Offence
inner n at s = offence_in (element_offence (n - 1)) (contents_at at s) s.content

pub at_depth : (n at : ℕ) (s : Element) → n ≡ 0 → element_offence n at s ≡ Some (record { at = at; rule = Depth })
unfolding element_offence
at_depth zero at s h = refl
at_depth (suc n) at s h = absurd (omega (arith, h))

one_level : (n at : ℕ) (s : Element) → 0 < n → element_offence n at s
    ≡ option_or (placed at (own_rule s)) (option_or (within_offence (element_offence (n - 1)) at s) (placed at (order_rule s)))
unfolding element_offence
one_level zero at s h = absurd (omega (arith, h))
one_level (suc n) at s h =
    let e : n ≡ suc n - 1 = omega arith in
    ap (λ (k : ℕ). option_or (placed at (own_rule s)) (option_or (within_offence (element_offence k) at s) (placed at (order_rule s)))) e

pub own_comes_first : (n at : ℕ) (s : Element) (r : Rule) → 0 < n → Some r ≡ own_rule s → element_offence n at s ≡ Some (record { at = at; rule = r })
own_comes_first n at s r l h =
    one_level n at s l
    ∙ ap (λ (o : Option Rule). option_or (placed at o) (option_or (within_offence (element_offence (n - 1)) at s) (placed at (order_rule s)))) (sym h)

without_own : (n at : ℕ) (s : Element) → 0 < n → None ≡ own_rule s
    → element_offence n at s ≡ option_or (within_offence (element_offence (n - 1)) at s) (placed at (order_rule s))
without_own n at s l h =
    one_level n at s l
    ∙ ap (λ (o : Option Rule). option_or (placed at o) (option_or (within_offence (element_offence (n - 1)) at s) (placed at (order_rule s)))) (sym h)

pub of_primitive : (n at : ℕ) (s : Element) → 0 < n → None ≡ own_rule s → s.constructed ≡ false → element_offence n at s ≡ None
of_primitive n at s l h p =
    without_own n at s l h
    ∙ ap (λ (c : Bool). option_or (cond c (inner n at s) None) (placed at (cond c (order_of s.tag (split s.content)) None))) p

pub within_comes_next : (n at : ℕ) (s : Element) (o : Offence) → 0 < n → None ≡ own_rule s → s.constructed ≡ true → inner n at s ≡ Some o
    → element_offence n at s ≡ Some o
within_comes_next n at s o l h c e =
    without_own n at s l h
    ∙ ap (λ (b : Bool). option_or (cond b (inner n at s) None) (placed at (order_rule s))) c
    ∙ ap (λ (x : Option Offence). option_or x (placed at (order_rule s))) e

pub order_comes_last : (n at : ℕ) (s : Element) → 0 < n → None ≡ own_rule s → s.constructed ≡ true → inner n at s ≡ None
    → element_offence n at s ≡ placed at (order_rule s)
order_comes_last n at s l h c e =
    without_own n at s l h
    ∙ ap (λ (b : Bool). option_or (cond b (inner n at s) None) (placed at (order_rule s))) c
    ∙ ap (λ (x : Option Offence). option_or x (placed at (order_rule s))) e

pub ruleset levels = (at_depth, of_primitive)

-- ---- none exactly where octets are strict

none_of_or : {A : Type 0} (x y : Option A) → is_none (option_or x y) ≡ (is_none x && is_none y)
none_of_or None y = refl
none_of_or (Some x) y = refl

none_placed : (at : ℕ) (r : Option Rule) → is_none (placed at r) ≡ is_none r
none_placed at None = refl
none_placed at (Some r) = refl

none_unless : {A : Type 0} (b : Bool) (x : A) → is_none (cond b None (Some x)) ≡ b
none_unless true x = refl
none_unless false x = refl

-- one more element at the beginning
all_with : (g : Element → Bool) (s : Element) (o : Option (List Element))
    → (g s && option_map_or (list_all g) o false) ≡ option_map_or (list_all g) (o >>= (λ ss. Some (s ∷ ss))) false
all_with g s None = none (g s) where
  none : (b : Bool) → (b && false) ≡ false
  none true = refl
  none false = refl
all_with g s (Some ss) = refl

abbrev SameIn : (Element → Bool) → (ℕ → Element → Option Offence) → ℕ → Type 0
SameIn g f k = (at : ℕ) (bytes : List ℕ) → is_none (elements_offence f k at bytes) ≡ option_map_or (list_all g) (split_in k bytes) false

none_of_first : (f : ℕ → Element → Option Offence) (g : Element → Bool) → ((at : ℕ) (s : Element) → is_none (f at s) ≡ g s)
    → (k at b : ℕ) (bytes : List ℕ) → SameIn g f k → (x : Option (Element × List ℕ))
    → is_none (of_first f (λ next left. elements_offence f k next left) at (b ∷ bytes) x)
    ≡ option_map_or (list_all g) (x >>= (λ y. split_in k y.1 >>= (λ ss. Some (y.0 ∷ ss)))) false
none_of_first f g same k at b bytes later None = refl
none_of_first f g same k at b bytes later (Some y) =
    none_of_or (f at y.0) (elements_offence f k (at + length (element_octets y.0)) y.1)
    ∙ ap (λ (t : Bool). t && is_none (elements_offence f k (at + length (element_octets y.0)) y.1)) (same at y.0)
    ∙ ap (λ (t : Bool). g y.0 && t) (later (at + length (element_octets y.0)) y.1)
    ∙ all_with g y.0 (split_in k y.1)

none_in : (f : ℕ → Element → Option Offence) (g : Element → Bool) → ((at : ℕ) (s : Element) → is_none (f at s) ≡ g s) → (k : ℕ) → SameIn g f k
unfolding split_in
none_in f g same k at [] = no_bytes k where
  no_bytes : (k : ℕ) → is_none (elements_offence f k at []) ≡ option_map_or (list_all g) (split_in k []) false
  no_bytes zero = refl
  no_bytes (suc k) = refl
none_in f g same zero at (b ∷ bytes) = refl
none_in f g same (suc k) at (b ∷ bytes) = none_of_first f g same k at b bytes (none_in f g same k) (element_at (b ∷ bytes))

both_orders : (a b : Bool) → (a && b) ≡ (b && a)
both_orders true true = refl
both_orders true false = refl
both_orders false true = refl
both_orders false false = refl

never : (a : Bool) → (a && false) ≡ false
never true = refl
never false = refl

and_true : (a : Bool) → (a && true) ≡ a
and_true true = refl
and_true false = refl

-- a type whose elements are in order is one that is constructed
ordered_type : (other sequence set ordered all : Bool)
    → ((other || (sequence || set)) && (all && (other || sequence || (set && ordered)))) ≡ ((other || sequence || (set && ordered)) && all)
ordered_type true sequence set ordered all = both_orders all true
ordered_type false true set ordered all = both_orders all true
ordered_type false false true ordered all = both_orders all ordered
ordered_type false false false ordered all = refl

-- one level, by what the element is: a constructed one, whose contents may be elements, or another
by_kind : (constructed contents : Bool) (r : Rule) (inner : Option Offence) (g : Tag) (children : Option (List Element)) (p : Element → Bool)
    → is_none inner ≡ option_map_or (list_all p) children false
    → (is_none (cond constructed (cond (not (is_universal g) || is_constructed_type g.number) None (Some Constructed)) (cond contents None (Some r)))
    && (is_none (cond constructed inner None) && is_none (cond constructed (order_of g children) None)))
    ≡ (cond constructed (has_elements g children) contents && list_all p (unwrap_or (cond constructed children None) []))
by_kind false contents r inner g children p h = ap (λ (b : Bool). b && true) (none_unless contents r)
by_kind true contents r inner g None p h =
    ap (λ (b : Bool). is_none (cond (not (is_universal g) || is_constructed_type g.number) None (Some Constructed)) && (b && true)) h
    ∙ never (is_none (cond (not (is_universal g) || is_constructed_type g.number) None (Some Constructed)))
by_kind true contents r inner g (Some ss) p h =
    ap (λ (b : Bool). b && (is_none inner && is_none (order_of g (Some ss)))) (none_unless (not (is_universal g) || is_constructed_type g.number) Constructed)
    ∙ ap (λ (b : Bool). (not (is_universal g) || is_constructed_type g.number) && (b && is_none (order_of g (Some ss)))) h
    ∙ ap (λ (b : Bool). (not (is_universal g) || is_constructed_type g.number) && (list_all p ss && b)) (none_unless (has_elements g (Some ss)) Order)
    ∙ ordered_type (not (is_universal g)) (is_sequence g.number) (g.number == 17) (is_ordered ss) (list_all p ss)

none_within : (n at : ℕ) (s : Element) → is_none (element_offence n at s) ≡ is_strict_within n s
unfolding element_offence is_strict_within has_form split
none_within zero at s = refl
none_within (suc n) at s =
    let f = element_offence n in
    let inner = elements_offence f (length s.content) (at + (length (element_octets s) - length s.content)) s.content in
    none_of_or (placed at (own_rule s)) (option_or (within_offence f at s) (placed at (order_rule s)))
    ∙ ap (λ (b : Bool). b && is_none (option_or (within_offence f at s) (placed at (order_rule s)))) (none_placed at (own_rule s))
    ∙ ap (λ (b : Bool). is_none (own_rule s) && b) (none_of_or (within_offence f at s) (placed at (order_rule s)))
    ∙ ap (λ (b : Bool). is_none (own_rule s) && (is_none (within_offence f at s) && b)) (none_placed at (order_rule s))
    ∙ by_kind s.constructed (has_contents s.tag s.content) _ inner s.tag (split s.content) (is_strict_within n)
    (none_in f (is_strict_within n) (none_within n) (length s.content) (at + (length (element_octets s) - length s.content)) s.content)

none_behind : (b t : Bool) (s : Element) (o : Offence) (p : Element → Bool) → b ≡ p s
    → (b && is_none (cond t None (Some o))) ≡ option_map_or p (cond t (Some s) None) false
none_behind b true s o p e = and_true b ∙ e
none_behind b false s o p e = never b

none_of_one : (octets : List ℕ) (x : Option (Element × List ℕ))
    → is_none (of_one octets x) ≡ option_map_or (is_strict_within level_limit) (x >>= (λ y. cond (length y.1 == 0) (Some y.0) None)) false
none_of_one octets None = refl
none_of_one octets (Some y) =
    let behind = cond (length y.1 == 0) None (Some (record { at = length (element_octets y.0); rule = Trailing })) in
    none_of_or (element_offence level_limit 0 y.0) behind
    ∙ none_behind (is_none (element_offence level_limit 0 y.0)) (length y.1 == 0) y.0 (record { at = length (element_octets y.0); rule = Trailing })
    (is_strict_within level_limit) (none_within level_limit 0 y.0)

pub none_is_strict : (octets : List ℕ) → is_none (offence_of octets) ≡ is_strict octets
unfolding offence_of is_strict
none_is_strict octets = none_of_one octets (element_at octets)
