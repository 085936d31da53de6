-- The first offence against DER in octets: where it is, and which rule it breaks.
use Rattle.std.specs.Prelude.{ℕ, zero, suc, ◌+◌, ◌-◌, ◌%◌, Bool, false, ◌&&◌, ◌||◌, ◌==◌, not, nat_lt, cond, if◌then◌else◌, length, List, [], ◌∷◌, Option, Some, None}
use Rattle.std.specs.Option.{option_map, option_or}
use Rattle.der_tree.specs.Element.{Element, element_at, element_octets, split}
use Rattle.strict_der.specs.Strict.{has_contents, has_elements, is_sequence, is_universal, level_limit}
use Rattle.strict_der.specs.declared.offence.Offence.{Offence}
use Rattle.strict_der.specs.declared.offence.Rule.{Rule}
use Rattle.strict_der.specs.declared.offence.Rule.TheVariants.{BitString, Boolean, Characters, Constructed, Depth, GeneralizedTime, HighTag, Identifier, Incomplete}
use Rattle.strict_der.specs.declared.offence.Rule.TheVariants.{Indefinite, Integer, LengthForm, LongLength, Null, Order, Primitive, Real, Trailing, UnknownType, UtcTime}
use Rattle.asn1_core.specs.declared.tag.Tag.{Tag}

-- ---- rules

-- a length in the long form isn't the shortest: it begins with 0, or the short form has it (10.1)
abbrev pub is_not_shortest : ℕ → List ℕ → Bool
is_not_shortest l [] = false
is_not_shortest l (d ∷ ds) = d == 0 || (l == 129 && nat_lt d 128)

-- why no element begins with these octets
abbrev pub header_rule : List ℕ → Rule
header_rule [] = Incomplete
header_rule (b ∷ []) = Incomplete
header_rule (b ∷ l ∷ rest) =
    if b % 32 == 31 then HighTag
    else if l == 128 then Indefinite
    else if nat_lt 136 l then LongLength
    else if nat_lt 128 l && is_not_shortest l rest then LengthForm
    else Incomplete

abbrev pub is_string_type : ℕ → Bool
is_string_type n = n == 12 || n == 18 || n == 19 || n == 22 || n == 26 || n == 28 || n == 30

abbrev pub is_constructed_type : ℕ → Bool
is_constructed_type n = is_sequence n || n == 17

-- the rule on the contents octets of a primitive element of the type
abbrev pub contents_rule : ℕ → Rule
contents_rule n =
    if n == 1 then Boolean
    else if n == 2 || n == 10 then Integer
    else if n == 3 then BitString
    else if n == 5 then Null
    else if n == 6 || n == 13 then Identifier
    else if n == 9 then Real
    else if n == 23 then UtcTime
    else if n == 24 then GeneralizedTime
    else if is_string_type n then Characters
    else if is_constructed_type n then Primitive
    else UnknownType

-- the rule that an element breaks, whatever is within it
abbrev pub own_rule : Element → Option Rule
own_rule s =
    cond s.constructed (cond (not (is_universal s.tag) || is_constructed_type s.tag.number) None (Some Constructed))
    (cond (has_contents s.tag s.content) None (Some (contents_rule s.tag.number)))

abbrev pub order_of : Tag → Option (List Element) → Option Rule
order_of g None = None
order_of g (Some ss) = cond (has_elements g (Some ss)) None (Some Order)

-- the rule that the order of the elements within one breaks
abbrev pub order_rule : Element → Option Rule
order_rule s = cond s.constructed (order_of s.tag (split s.content)) None

-- ---- where they are broken

abbrev pub placed : ℕ → Option Rule → Option Offence
placed at rule = option_map (λ r. record { at = at; rule = r }) rule

-- that of the first of some elements, where there is an element, and then of those after it
abbrev pub of_first : (ℕ → Element → Option Offence) → (ℕ → List ℕ → Option Offence) → ℕ → List ℕ → Option (Element × List ℕ) → Option Offence
of_first f after at bytes None = Some (record { at = at; rule = header_rule bytes })
of_first f after at bytes (Some x) = option_or (f at x.0) (after (at + length (element_octets x.0)) x.1)

-- the first offence in octets that should be elements, of which there are at most so many; f has that of each
abbrev pub elements_offence : (ℕ → Element → Option Offence) → ℕ → ℕ → List ℕ → Option Offence
elements_offence f k at [] = None
elements_offence f zero at (b ∷ bytes) = Some (record { at = at; rule = header_rule (b ∷ bytes) })
elements_offence f (suc k) at (b ∷ bytes) = of_first f (λ next left. elements_offence f k next left) at (b ∷ bytes) (element_at (b ∷ bytes))

-- that in the contents of an element which is constructed
abbrev pub within_offence : (ℕ → Element → Option Offence) → ℕ → Element → Option Offence
within_offence f at s =
    cond s.constructed (elements_offence f (length s.content) (at + (length (element_octets s) - length s.content)) s.content) None

-- the first offence of an element, of so many levels at most: its own, then one within it, then the order within it
unfoldable pub element_offence : ℕ → ℕ → Element → Option Offence
element_offence zero at s = Some (record { at = at; rule = Depth })
element_offence (suc levels) at s =
    option_or (placed at (own_rule s)) (option_or (within_offence (element_offence levels) at s) (placed at (order_rule s)))

abbrev pub of_one : List ℕ → Option (Element × List ℕ) → Option Offence
of_one octets None = Some (record { at = 0; rule = header_rule octets })
of_one octets (Some x) =
    option_or (element_offence level_limit 0 x.0) (cond (length x.1 == 0) None (Some (record { at = length (element_octets x.0); rule = Trailing })))

-- the first offence in octets that should be one element
unfoldable pub offence_of : List ℕ → Option Offence
offence_of octets = of_one octets (element_at octets)
