-- How many octets an element has at most.
use Rattle.std.specs.Prelude.{ℕ, ◌+◌, ◌≤◌, ◌/◌, ◌%◌, Bool, true, false, cond, nat_lt, [], ◌∷◌, ◌++◌, length}
use Rattle.std.proofs.Common.{arith}
use Rattle.std.proofs.lemmas.List.{length-append}
use Rattle.asn1_core.specs.Base128.{digits, base128}
use Rattle.asn1_core.specs.declared.tag.Tag.{Tag}
use Rattle.der_tree.specs.Element.{Element, class_bits, constructed_bit, element_octets, identifier_octets, length_octets, number_octets}
use Rattle.der_tree.proofs.Writing.{digits_count}

pub length_octets_count : (n : ℕ) → length (length_octets n) ≤ 9
unfolding length_octets
length_octets_count n =
    elim (nat_lt n 128) as (λ b. length (cond b (n ∷ []) ((128 + length (number_octets n)) ∷ number_octets n)) ≤ 9) [
      | true ↦ omega arith
      | false ↦ omega (arith, digits_count 256 0 8 n)
    ]

identifier_octets_count : (g : Tag) (c : Bool) → length (identifier_octets g c) ≤ 11
unfolding identifier_octets
identifier_octets_count g c =
    elim (nat_lt g.number 31) as (λ b. length (cond b ((class_bits g.class + constructed_bit c + g.number) ∷ [])
    ((class_bits g.class + constructed_bit c + 31) ∷ base128 g.number)) ≤ 11) [
      | true ↦ omega arith
      | false ↦ omega (arith, length-append (digits 128 128 9 (g.number / 128)) ((g.number % 128) ∷ []), digits_count 128 128 9 (g.number / 128))
    ]

pub element_octets_count : (s : Element) → length (element_octets s) ≤ 20 + length s.content
unfolding element_octets
element_octets_count s =
    omega (
      arith,
      length-append (identifier_octets s.tag s.constructed) (length_octets (length s.content) ++ s.content),
      length-append (length_octets (length s.content)) s.content,
      identifier_octets_count s.tag s.constructed,
      length_octets_count (length s.content),
    )
