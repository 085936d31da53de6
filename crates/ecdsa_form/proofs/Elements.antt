-- The octets of elements, as `ecdsa` and as `der_tree` have them.
use Rattle.std.specs.Prelude.{Bool, List, length, nat_lt, refl, ℕ, [], ◌%◌, ◌++◌, ◌+◌, ◌/◌, ◌<◌, ◌∷◌, ◌≡◌, ◌≤◌}
use Rattle.std.specs.Int.Digits.{AllBelowBase}
use Rattle.std.proofs.Common.{ap, append_assoc, arith, inl, inr, subst, sym, ◌∙◌}
use Rattle.std.proofs.lemmas.Bool.{cases_Bool, cond_both, lt-ltb, ltb-false, ltb-true}
use Rattle.std.proofs.lemmas.List.{length-append}
use Rattle.asn1_core.specs.Base128.{digits, digits_zero}
use Rattle.asn1_core.specs.declared.tag.Tag.{Tag}
use Rattle.der_tree.specs.Element.{Element, element_octets, identifier_octets, length_octets, number_octets}
use Rattle.der_tree.specs.TreeBytes.{made}
use Rattle.der_tree.specs.laws.Lengths.{long_octets, short_octets}
use Rattle.der_tree.proofs.Writing.{digits256_last}
use Rattle.ecdsa.specs.Der.{element, length_octets as signature_length}
use Rattle.ecdsa.proofs.OneForm.{element_octets as octets_from, long_octets as long_read, octets_read, short_octets as short_read}

-- ---- lengths below 256

one_digit : (n : ℕ) → 0 < n → n < 256 → number_octets n ≡ n ∷ []
one_digit n p l =
    let high : n / 256 ≡ 0 = omega arith in
    let low : n % 256 ≡ n = omega arith in
    digits256_last n p (omega arith) ∙ ap (λ (x : ℕ). digits 256 0 8 x ++ (n % 256) ∷ []) high
    ∙ ap (λ (xs : List ℕ). xs ++ (n % 256) ∷ []) (digits_zero 256 0 8) ∙ ap (λ (x : ℕ). x ∷ []) low

length_is : (n : ℕ) → n < 256 → length_octets n ≡ octets_read n
length_is n l =
    elim (cases_Bool (nat_lt n 128)) [
      | inl t ↦ short_octets n (ltb-true n 128 t) ∙ sym (short_read n t)
      | inr f ↦
          let k = ltb-false n 128 f in
          long_octets n k ∙ ap (λ (xs : List ℕ). (128 + length xs) ∷ xs) (one_digit n (omega arith) l) ∙ sym (long_read n f)
    ]

same_length : (n : ℕ) → n < 256 → octets_read n ≡ signature_length n
unfolding octets_read signature_length
same_length n l = rw (lt-ltb n 256 l) refl

-- ---- elements

-- with what comes after
pub element_before : (g : Tag) (b : Bool) (identifier : ℕ) (contents rest : List ℕ) → identifier_octets g b ≡ identifier ∷ [] → length contents < 256
    → element_octets (made g b contents) ++ rest ≡ octets_from identifier contents rest
unfolding element_octets octets_from
element_before g b identifier contents rest e l =
    ap (λ (xs : List ℕ). (xs ++ (length_octets (length contents) ++ contents)) ++ rest) e
    ∙ ap (λ (xs : List ℕ). identifier ∷ xs) (append_assoc (length_octets (length contents)) contents rest)
    ∙ ap (λ (xs : List ℕ). identifier ∷ (xs ++ (contents ++ rest))) (length_is (length contents) l)

-- alone
pub element_is : (g : Tag) (b : Bool) (identifier : ℕ) (contents : List ℕ) → identifier_octets g b ≡ identifier ∷ [] → length contents < 256
    → element_octets (made g b contents) ≡ element identifier contents
unfolding element_octets
element_is g b identifier contents e l =
    ap (λ (xs : List ℕ). xs ++ (length_octets (length contents) ++ contents)) e
    ∙ ap (λ (xs : List ℕ). identifier ∷ (xs ++ contents)) (length_is (length contents) l ∙ same_length (length contents) l)

-- ---- how many octets

octets_few : (n : ℕ) → length (octets_read n) ≤ 2
unfolding octets_read
octets_few n = cond_both (nat_lt n 128) (n ∷ []) (0x81 ∷ n ∷ []) (λ (xs : List ℕ). length xs ≤ 2) (λ e. omega arith) (λ e. omega arith)

pub element_length : (identifier : ℕ) (contents rest : List ℕ)
    → (length contents + length rest < length (octets_from identifier contents rest)) × (length (octets_from identifier contents rest) ≤ length contents + length rest + 3)
unfolding octets_from
element_length identifier contents rest =
    let p = length-append (octets_read (length contents)) (contents ++ rest) in
    let q = length-append contents rest in
    let n = octets_few (length contents) in
    (omega (arith, p, q), omega (arith, p, q, n))

-- the length that is read is an octet
pub contents_short : (identifier : ℕ) (octets contents rest : List ℕ) → octets ≡ octets_from identifier contents rest → AllBelowBase 256 octets
    → length contents < 256
unfolding octets_from
contents_short identifier octets contents rest e below =
    let b = rw e at below in
    elim (cases_Bool (nat_lt (length contents) 128)) [
      | inl t ↦ let k = ltb-true (length contents) 128 t in omega arith
      | inr f ↦
          let d : AllBelowBase 256 (0x81 ∷ length contents ∷ (contents ++ rest)) =
          subst (λ (xs : List ℕ). AllBelowBase 256 (xs ++ (contents ++ rest))) (long_read (length contents) f) b.1 in
          d.1.0
    ]

-- ---- octets within others

pub front_below : (xs ys : List ℕ) → AllBelowBase 256 (xs ++ ys) → AllBelowBase 256 xs
front_below [] ys b = tt
front_below (x ∷ xs) ys b = (b.0, front_below xs ys b.1)

pub back_below : (xs ys : List ℕ) → AllBelowBase 256 (xs ++ ys) → AllBelowBase 256 ys
back_below [] ys b = b
back_below (x ∷ xs) ys b = back_below xs ys b.1

pub content_below : (s : Element) → AllBelowBase 256 (element_octets s) → AllBelowBase 256 s.content
unfolding element_octets
content_below s b =
    back_below (length_octets (length s.content)) s.content
    (back_below (identifier_octets s.tag s.constructed) (length_octets (length s.content) ++ s.content) b)
