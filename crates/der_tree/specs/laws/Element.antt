-- Elements, written and read.
use Rattle.std.specs.Prelude.{Bool, List, None, Option, Some, cond, drop, length, nat_lt, refl, suc, take, true, zero, ℕ, [], ◌++◌, ◌<◌, ◌==◌, ◌^◌, ◌∷◌}
use Rattle.std.specs.Prelude.{◌≡◌, ◌≤◌}
use Rattle.std.specs.List.{flat_map}
use Rattle.std.proofs.Common.{ap, append_assoc, arith, subst, sym, ◌∙◌}
use Rattle.std.proofs.lemmas.Bool.{eqb-true, le-ltb, lt-ltb, ltb-false, ltb-true}
use Rattle.std.proofs.lemmas.List.{append-nil, drop_at, length-append, length-take-le, nil_from_length, take-append-drop, take_at}
use Rattle.asn1_core.specs.Binds.{and_true, bind_is, bind_some, chosen, kept_unless, some_is, true_and, ◌>>=◌}
use Rattle.asn1_core.specs.declared.tag.Tag.{Tag}
use Rattle.der_tree.specs.Element.{Element, all_encodable, element_at, element_octets, identifier_at, identifier_octets, is_encodable, length_at}
use Rattle.der_tree.specs.Element.{length_octets, one_element, split, split_in}
use Rattle.der_tree.specs.laws.Identifiers.{identifier_again, identifier_long, identifier_takes}
use Rattle.der_tree.specs.laws.Lengths.{length_again, length_takes}

abbrev pub cut : Tag × Bool → ℕ × List ℕ → Option (Element × List ℕ)
cut i n = cond (nat_lt (length n.1) n.0) None (Some (record { tag = i.0; constructed = i.1; content = take n.0 n.1 }, drop n.0 n.1))

pub encodable_is : (s : Element) → s.tag.number < 2 ^ 32 → length s.content < 2 ^ 64 → is_encodable s ≡ true
encodable_is s p q = rw (lt-ltb s.tag.number (2 ^ 32) p, lt-ltb (length s.content) (2 ^ 64) q) refl

cut_takes : (bytes : List ℕ) (i : Tag × Bool) (mid : List ℕ) (n : ℕ) (last : List ℕ) (r : Element × List ℕ) → bytes ≡ identifier_octets i.0 i.1 ++ mid
    → i.0.number < 2 ^ 32 → mid ≡ length_octets n ++ last → n < 2 ^ 64 → cut i (n, last) ≡ Some r
    → (bytes ≡ element_octets r.0 ++ r.1) × (is_encodable r.0 ≡ true)
unfolding element_octets
cut_takes bytes i mid n last r e1 l1 e2 l2 e3 =
    let s : Element = record { tag = i.0; constructed = i.1; content = take n last } in
    let made : Element × List ℕ = (s, drop n last) in
    let g = kept_unless (nat_lt (length last) n) (Some made) r e3 in
    let len : length (take n last) ≡ n = length-take-le n last (ltb-false (length last) n g.0) in
    let one_element : bytes ≡ identifier_octets i.0 i.1 ++ (length_octets (length (take n last)) ++ take n last) ++ drop n last =
    e1 ∙ ap (λ (x : List ℕ). identifier_octets i.0 i.1 ++ x)
    (e2 ∙ ap (λ (x : List ℕ). length_octets n ++ x) (sym (take-append-drop n last))
    ∙ ap (λ (x : ℕ). length_octets x ++ (take n last ++ drop n last)) (sym len)
    ∙ sym (append_assoc (length_octets (length (take n last))) (take n last) (drop n last)))
    ∙ sym (append_assoc (identifier_octets i.0 i.1) (length_octets (length (take n last)) ++ take n last) (drop n last)) in
    subst (λ (r : Element × List ℕ). (bytes ≡ element_octets r.0 ++ r.1) × (is_encodable r.0 ≡ true)) (some_is made r g.1)
    (one_element, encodable_is s l1 (subst (λ (x : ℕ). x < 2 ^ 64) (sym len) l2))

pub element_takes : (bytes : List ℕ) (s : Element) (rest : List ℕ) → element_at bytes ≡ Some (s, rest)
    → (bytes ≡ element_octets s ++ rest) × (is_encodable s ≡ true)
unfolding element_at
element_takes bytes s rest e =
    let i = bind_some (identifier_at bytes) (λ i. length_at i.1 >>= cut i.0) (s, rest) e in
    let n = bind_some (length_at i.0.1) (cut i.0.0) (s, rest) i.2 in
    let p = identifier_takes bytes i.0 i.1 in
    let q = length_takes i.0.1 n.0.0 n.0.1 n.1 in
    cut_takes bytes i.0.0 i.0.1 n.0.0 n.0.1 (s, rest) p.0 p.1 q.0 q.1 n.2

pub cut_again : (s : Element) (rest : List ℕ) → cut (s.tag, s.constructed) (length s.content, s.content ++ rest) ≡ Some (s, rest)
cut_again s rest =
    rw (
      le-ltb (length (s.content ++ rest)) (length s.content) (omega (arith, length-append s.content rest)),
      take_at s.content rest (length s.content) refl,
      drop_at s.content rest (length s.content) refl,
    ) refl

pub element_again : (s : Element) (rest : List ℕ) → is_encodable s ≡ true → element_at (element_octets s ++ rest) ≡ Some (s, rest)
unfolding element_octets element_at
element_again s rest h =
    let p = and_true (nat_lt s.tag.number (2 ^ 32)) (nat_lt (length s.content) (2 ^ 64)) h in
    let regrouped : (identifier_octets s.tag s.constructed ++ (length_octets (length s.content) ++ s.content)) ++ rest
    ≡ identifier_octets s.tag s.constructed ++ (length_octets (length s.content) ++ (s.content ++ rest)) =
    append_assoc (identifier_octets s.tag s.constructed) (length_octets (length s.content) ++ s.content) rest
    ∙ ap (λ (x : List ℕ). identifier_octets s.tag s.constructed ++ x) (append_assoc (length_octets (length s.content)) s.content rest) in
    let mid : List ℕ = length_octets (length s.content) ++ (s.content ++ rest) in
    ap element_at regrouped
    ∙ bind_is (identifier_at (identifier_octets s.tag s.constructed ++ (length_octets (length s.content) ++ (s.content ++ rest))))
    (λ i. length_at i.1 >>= cut i.0) ((s.tag, s.constructed), length_octets (length s.content) ++ (s.content ++ rest)) (Some (s, rest))
    (identifier_again s.tag s.constructed (length_octets (length s.content) ++ (s.content ++ rest)) (ltb-true s.tag.number (2 ^ 32) p.0))
    (bind_is (length_at (length_octets (length s.content) ++ (s.content ++ rest))) (cut (s.tag, s.constructed)) (length s.content, s.content ++ rest)
    (Some (s, rest)) (length_again (length s.content) (s.content ++ rest) (ltb-true (length s.content) (2 ^ 64) p.1)) (cut_again s rest))

pub element_long : (s : Element) → 0 < length (element_octets s)
unfolding element_octets
element_long s =
    omega (
      arith,
      identifier_long s.tag s.constructed,
      length-append (identifier_octets s.tag s.constructed) (length_octets (length s.content) ++ s.content),
    )

split_in_takes : (k : ℕ) (bytes : List ℕ) (ss : List Element) → split_in k bytes ≡ Some ss
    → (bytes ≡ flat_map element_octets ss) × (all_encodable ss ≡ true)
unfolding split_in
split_in_takes zero [] ss e = subst (λ (x : List Element). ([] ≡ flat_map element_octets x) × (all_encodable x ≡ true)) (some_is [] ss e) (refl, refl)
split_in_takes (suc k) [] ss e = subst (λ (x : List Element). ([] ≡ flat_map element_octets x) × (all_encodable x ≡ true)) (some_is [] ss e) (refl, refl)
split_in_takes zero (b ∷ bytes) ss e = absurd cc
split_in_takes (suc k) (b ∷ bytes) ss e =
    let x = bind_some (element_at (b ∷ bytes)) (λ x. split_in k x.1 >>= λ ss. Some (x.0 ∷ ss)) ss e in
    let y = bind_some (split_in k x.0.1) (λ ss. Some (x.0.0 ∷ ss)) ss x.2 in
    let first = element_takes (b ∷ bytes) x.0.0 x.0.1 x.1 in
    let second = split_in_takes k x.0.1 y.0 y.1 in
    subst (λ (z : List Element). (b ∷ bytes ≡ flat_map element_octets z) × (all_encodable z ≡ true)) (some_is (x.0.0 ∷ y.0) ss y.2)
    (first.0 ∙ ap (λ (z : List ℕ). element_octets x.0.0 ++ z) second.0, true_and (is_encodable x.0.0) (all_encodable y.0) first.1 second.1)

pub split_takes : (bytes : List ℕ) (ss : List Element) → split bytes ≡ Some ss → (bytes ≡ flat_map element_octets ss) × (all_encodable ss ≡ true)
unfolding split
split_takes bytes ss e = split_in_takes (length bytes) bytes ss e

split_in_cons : (k : ℕ) (bytes : List ℕ) (s : Element) (rest : List ℕ) (ss : List Element) → 0 < length bytes → element_at bytes ≡ Some (s, rest)
    → split_in k rest ≡ Some ss → split_in (suc k) bytes ≡ Some (s ∷ ss)
unfolding split_in
split_in_cons k [] s rest ss l e f = absurd (omega arith)
split_in_cons k (b ∷ bytes) s rest ss l e f = rw (e, f) refl

split_in_again : (k : ℕ) (ss : List Element) → all_encodable ss ≡ true → length (flat_map element_octets ss) ≤ k
    → split_in k (flat_map element_octets ss) ≡ Some ss
unfolding split_in
split_in_again zero [] h l = refl
split_in_again (suc k) [] h l = refl
split_in_again zero (s ∷ ss) h l = absurd (omega (arith, element_long s, length-append (element_octets s) (flat_map element_octets ss)))
split_in_again (suc k) (s ∷ ss) h l =
    let p = and_true (is_encodable s) (all_encodable ss) h in
    split_in_cons k (element_octets s ++ flat_map element_octets ss) s (flat_map element_octets ss) ss
    (omega (arith, element_long s, length-append (element_octets s) (flat_map element_octets ss))) (element_again s (flat_map element_octets ss) p.0)
    (split_in_again k ss p.1 (omega (arith, element_long s, length-append (element_octets s) (flat_map element_octets ss))))

pub split_again : (ss : List Element) → all_encodable ss ≡ true → split (flat_map element_octets ss) ≡ Some ss
unfolding split
split_again ss h = split_in_again (length (flat_map element_octets ss)) ss h (omega arith)

pub one_element_takes : (bytes : List ℕ) (s : Element) → one_element bytes ≡ Some s → (bytes ≡ element_octets s) × (is_encodable s ≡ true)
one_element_takes bytes s e =
    let x = bind_some (element_at bytes) (λ x. cond (length x.1 == 0) (Some x.0) None) s e in
    let g = chosen (length x.0.1 == 0) x.0.0 s x.2 in
    let t = element_takes bytes x.0.0 x.0.1 x.1 in
    let nothing : x.0.1 ≡ [] = nil_from_length x.0.1 (eqb-true _ _ g.0) in
    subst (λ (y : Element). (bytes ≡ element_octets y) × (is_encodable y ≡ true)) g.1
    (t.0 ∙ ap (λ (r : List ℕ). element_octets x.0.0 ++ r) nothing ∙ append-nil (element_octets x.0.0), t.1)

pub one_element_again : (s : Element) → is_encodable s ≡ true → one_element (element_octets s) ≡ Some s
one_element_again s h =
    let e : element_at (element_octets s) ≡ Some (s, []) = ap element_at (sym (append-nil (element_octets s))) ∙ element_again s [] h in
    rw e refl

pub all_encodable-append : (xs ys : List Element) → all_encodable (xs ++ ys) ≡ true → (all_encodable xs ≡ true) × (all_encodable ys ≡ true)
all_encodable-append [] ys e = (refl, e)
all_encodable-append (x ∷ xs) ys e =
    let p = and_true (is_encodable x) (all_encodable (xs ++ ys)) e in
    let q = all_encodable-append xs ys p.1 in
    (rw (p.0, q.0) refl, q.1)
