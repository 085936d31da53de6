-- What goes on has a completion, and nothing else has one.
use Rattle.std.specs.Prelude.{◌≡◌, ℕ, ◌+◌, ◌-◌, ◌*◌, ◌%◌, ◌^◌, ◌<◌, ◌≤◌, Bool, true, false, ◌&&◌, cond, nat_lt, ◌==◌, List, [], ◌∷◌, ◌++◌, length, take, drop, Option, Some, None, refl}
use Rattle.std.proofs.Common.{sym, ap, ◌∙◌, append_assoc, arith}
use Rattle.std.proofs.lemmas.Bool.{ne_eqb, lt-ltb, le-ltb, ltb-true, ltb-false, le-leb}
use Rattle.std.proofs.lemmas.List.{append-nil, length-append, take-append-le}
use Rattle.asn1_core.specs.declared.tag.Class.{Class}
use Rattle.asn1_core.specs.declared.tag.Tag.{Tag}
use Rattle.asn1_core.specs.Binds.{◌>>=◌, bind_is, some_is}
use Rattle.asn1_core.specs.Base128.{digits_at, base128_at, base128, base128_again, base128_takes}
use Rattle.der_tree.specs.Element.{Element, class_at, element_at, element_octets, identifier_at, identifier_octets, is_encodable, length_at, length_octets}
use Rattle.der_tree.specs.Element.{length_of, number_octets}
use Rattle.der_tree.specs.Fronts.{BeginsWith, IsFront}
use Rattle.der_tree.specs.Incomplete.{after_identifier, content_goes_on, digits_go_on, goes_on, identifier_goes_on, is_no_zero, length_goes_on}
use Rattle.der_tree.specs.Incomplete.{number_goes_on}
use Rattle.der_tree.specs.laws.Element.{cut, element_again}
use Rattle.der_tree.specs.laws.Identifiers.{Read, bit, high_with, identifier_again, identifier_takes, short_with, with_class}
use Rattle.der_tree.specs.laws.Lengths.{lead_number, length_again, length_takes, long_octets, short_octets}
use Rattle.asn1_core.specs.Base128.{lead}
use Rattle.der_tree.proofs.Writing.{digits_count}
use Rattle.der_tree.proofs.SplitLaws.{front_octets}

some_none : {A : Type 0} (x : A) → Some x ≡ None → ⊥
some_none x e = cc

-- ---- what is refused for good stays refused, whatever follows

refused_step : {A : Type 0} (p q r g : Bool) (x y : A) (o n : Option A) → (o ≡ None → g ≡ false → n ≡ None) → cond p (cond q (Some x) (cond r o None)) None ≡ None → cond p (cond q false (cond r g false)) false ≡ false → cond p (cond q (Some y) (cond r n None)) None ≡ None
refused_step false q r g x y o n h e f = refl
refused_step true true r g x y o n h e f = absurd cc
refused_step true false true g x y o n h e f = h e f
refused_step true false false g x y o n h e f = refl

pub digits_over : (limit high : ℕ) (after : List ℕ) → nat_lt high limit ≡ false → digits_at limit high after ≡ None
unfolding digits_at
digits_over limit high [] f = refl
digits_over limit high (b ∷ after) f = rw f refl

pub stops_over : (limit high : ℕ) (bytes : List ℕ) → nat_lt high limit ≡ false → digits_go_on limit high bytes ≡ false
unfolding digits_go_on
stops_over limit high [] f = f
stops_over limit high (b ∷ bytes) f = rw f refl

digits_refused : (limit high : ℕ) (bytes after : List ℕ) → digits_at limit high bytes ≡ None → digits_go_on limit high bytes ≡ false → digits_at limit high (bytes ++ after) ≡ None
unfolding digits_at digits_go_on
digits_refused limit high [] after e f = digits_over limit high after f
digits_refused limit high (b ∷ bytes) after e f =
    refused_step (nat_lt high limit) (nat_lt b 128) (nat_lt b 256) (digits_go_on limit (high * 128 + (b - 128)) bytes) (high * 128 + b, bytes) (high * 128 + b, bytes ++ after) (digits_at limit (high * 128 + (b - 128)) bytes) (digits_at limit (high * 128 + (b - 128)) (bytes ++ after))
    (digits_refused limit (high * 128 + (b - 128)) bytes after) e f

number_stable : (bytes after : List ℕ) (n : ℕ) (rest : List ℕ) → base128_at (2 ^ 25) bytes ≡ Some (n, rest) → base128_at (2 ^ 25) (bytes ++ after) ≡ Some (n, rest ++ after)
number_stable bytes after n rest e =
    let r = base128_takes (2 ^ 25) bytes n rest (omega arith) e in
    ap (λ (x : List ℕ). base128_at (2 ^ 25) (x ++ after)) r.0 ∙ ap (base128_at (2 ^ 25)) (append_assoc (base128 n) rest after) ∙ base128_again (2 ^ 25) n (rest ++ after) (omega (arith, r.1)) (omega (arith, r.1))

over_zero : {A : Type 0} (p g : Bool) (o n : Option A) → (o ≡ None → g ≡ false → n ≡ None) → cond p None o ≡ None → cond p false g ≡ false → cond p None n ≡ None
over_zero true g o n h e f = refl
over_zero false g o n h e f = h e f

number_refused : (bytes after : List ℕ) → base128_at (2 ^ 25) bytes ≡ None → number_goes_on bytes ≡ false → base128_at (2 ^ 25) (bytes ++ after) ≡ None
unfolding base128_at number_goes_on
number_refused [] after e f = absurd cc
number_refused (b ∷ bytes) after e f =
    over_zero (b == 128) (digits_go_on (2 ^ 25) 0 (b ∷ bytes)) (digits_at (2 ^ 25) 0 (b ∷ bytes)) (digits_at (2 ^ 25) 0 (b ∷ bytes ++ after)) (digits_refused (2 ^ 25) 0 (b ∷ bytes) after) e f

none_for : {A : Type 0} (p : Bool) (x y : A) → cond p None (Some x) ≡ None → cond p None (Some y) ≡ None
none_for true x y e = refl
none_for false x y e = absurd cc

high_refused : (c : Class) (b : ℕ) (bytes after : List ℕ) (o : Option (ℕ × List ℕ)) → base128_at (2 ^ 25) bytes ≡ o → (o >>= high_with c b) ≡ None → number_goes_on bytes ≡ false → (base128_at (2 ^ 25) (bytes ++ after) >>= high_with c b) ≡ None
high_refused c b bytes after None h e f = ap (λ (o : Option (ℕ × List ℕ)). o >>= high_with c b) (number_refused bytes after h f)
high_refused c b bytes after (Some n) h e f =
    bind_is (base128_at (2 ^ 25) (bytes ++ after)) (high_with c b) (n.0, n.1 ++ after) None (number_stable bytes after n.0 n.1 h)
    (none_for (nat_lt n.0 31) ((record { class = c; number = n.0 }, bit b), n.1) ((record { class = c; number = n.0 }, bit b), n.1 ++ after) e)

with_class_refused : (x : Bool) (b : ℕ) (bytes after : List ℕ) (c : Class) → cond x (base128_at (2 ^ 25) bytes >>= high_with c b) (short_with c b bytes) ≡ None → (x && number_goes_on bytes) ≡ false → cond x (base128_at (2 ^ 25) (bytes ++ after) >>= high_with c b) (short_with c b (bytes ++ after)) ≡ None
with_class_refused true b bytes after c e f = high_refused c b bytes after (base128_at (2 ^ 25) bytes) refl e f
with_class_refused false b bytes after c e f = absurd cc

class_refused : (o : Option Class) (b : ℕ) (bytes after : List ℕ) → (o >>= with_class b bytes) ≡ None → ((b % 32 == 31) && number_goes_on bytes) ≡ false → (o >>= with_class b (bytes ++ after)) ≡ None
class_refused None b bytes after e f = refl
class_refused (Some c) b bytes after e f = with_class_refused (b % 32 == 31) b bytes after c e f

identifier_refused : (bytes after : List ℕ) → identifier_at bytes ≡ None → identifier_goes_on bytes ≡ false → identifier_at (bytes ++ after) ≡ None
unfolding identifier_at identifier_goes_on
identifier_refused [] after e f = absurd cc
identifier_refused (b ∷ bytes) after e f = class_refused (class_at b) b bytes after e f

no_zero_front : (front after last : List ℕ) (n : ℕ) → 0 < n → n < 2 ^ 64 → front ++ after ≡ number_octets n ++ last → is_no_zero front ≡ true
no_zero_front [] after last n p q e = refl
no_zero_front (c ∷ front) after last n p q e = rw (ne_eqb c 0 (λ h. lead_number 8 n last p (omega arith) (ap (lead 0) (sym e) ∙ h))) refl

length_front : (b : ℕ) (front after : List ℕ) (n : ℕ) (last : List ℕ) → n < 2 ^ 64 → 128 ≤ b → length front < b - 128 → b ∷ (front ++ after) ≡ length_octets n ++ last → length_goes_on (b ∷ front) ≡ true
unfolding length_goes_on
length_front b front after n last p q l e =
    elim (nat_lt n 128) as (λ t. nat_lt n 128 ≡ t → length_goes_on (b ∷ front) ≡ true) [
      | true ↦ λ t.
          let f : b ∷ (front ++ after) ≡ n ∷ last = e ∙ ap (λ (x : List ℕ). x ++ last) (short_octets n (ltb-true n 128 t)) in
          let same : b ≡ n = ap (lead 0) f in
          absurd (omega (arith, same, ltb-true n 128 t))
      | false ↦ λ t.
          let f : b ∷ (front ++ after) ≡ (128 + length (number_octets n)) ∷ (number_octets n ++ last) = e ∙ ap (λ (x : List ℕ). x ++ last) (long_octets n (ltb-false n 128 t)) in
          let same : b ≡ 128 + length (number_octets n) = ap (lead 0) f in
          let tail : front ++ after ≡ number_octets n ++ last = ap (drop 1) f in
          rw (le-leb b 136 (omega (arith, same, digits_count 256 0 8 n)), lt-ltb (length front) (b - 128) l, no_zero_front front after last n (omega (arith, ltb-false n 128 t)) p tail) refl
    ] refl

abbrev followed : List ℕ → ℕ → Option (ℕ × List ℕ)
followed rest n = Some (n, rest)

more_octets : (o : Option (ℕ × List ℕ)) (b : ℕ) (bytes : List ℕ) → length_at (b ∷ bytes) ≡ o → 136 < b → o ≡ None
more_octets None b bytes h l = refl
more_octets (Some n) b bytes h l =
    let p = length_takes (b ∷ bytes) n.0 n.1 h in
    absurd (elim (nat_lt n.0 128) as (λ t. nat_lt n.0 128 ≡ t → ⊥) [
      | true ↦ λ t. let same : b ≡ n.0 = ap (lead 0) (p.0 ∙ ap (λ (x : List ℕ). x ++ n.1) (short_octets n.0 (ltb-true n.0 128 t))) in omega (arith, same, ltb-true n.0 128 t)
      | false ↦ λ t. let same : b ≡ 128 + length (number_octets n.0) = ap (lead 0) (p.0 ∙ ap (λ (x : List ℕ). x ++ n.1) (long_octets n.0 (ltb-false n.0 128 t))) in omega (arith, same, digits_count 256 0 8 n.0)
    ] refl)

pub too_many : (b : ℕ) (bytes : List ℕ) → 136 < b → length_at (b ∷ bytes) ≡ None
too_many b bytes l = more_octets (length_at (b ∷ bytes)) b bytes refl l

pub indefinite : (bytes : List ℕ) → length_at (128 ∷ bytes) ≡ None
unfolding length_at length_of
indefinite bytes = rw (le-ltb (length bytes) 0 (omega arith)) refl

none_then : (o : Option ℕ) (x y : List ℕ) → (o >>= followed x) ≡ None → (o >>= followed y) ≡ None
none_then None x y e = refl
none_then (Some n) x y e = absurd cc

length_refused_at : (o : Option (ℕ × List ℕ)) (b : ℕ) (front after : List ℕ) → length_at (b ∷ (front ++ after)) ≡ o → 128 ≤ b → length front < b - 128 → length_goes_on (b ∷ front) ≡ false → o ≡ None
length_refused_at None b front after h q l f = refl
length_refused_at (Some n) b front after h q l f =
    let p = length_takes (b ∷ (front ++ after)) n.0 n.1 h in
    absurd (let g : length_goes_on (b ∷ front) ≡ true = length_front b front after n.0 n.1 p.1 q l p.0 in let k : false ≡ true = sym f ∙ g in cc)

nothing_goes_on : length_goes_on [] ≡ true
unfolding length_goes_on
nothing_goes_on = refl

short_is_read : (b : ℕ) (bytes : List ℕ) → nat_lt b 128 ≡ true → length_at (b ∷ bytes) ≡ None → ⊥
unfolding length_at
short_is_read b bytes t e = some_none (b, bytes) (sym (rw t refl) ∙ e)

length_at_long : (b : ℕ) (bytes : List ℕ) → nat_lt b 128 ≡ false → b - 128 ≤ length bytes → length_at (b ∷ bytes) ≡ (length_of (take (b - 128) bytes) >>= followed (drop (b - 128) bytes))
unfolding length_at
length_at_long b bytes t l = rw (t, le-ltb (length bytes) (b - 128) l) refl

long_refused : (b : ℕ) (bytes after : List ℕ) (t u : Bool) → nat_lt b 128 ≡ t → nat_lt (length bytes) (b - 128) ≡ u → length_at (b ∷ bytes) ≡ None → length_goes_on (b ∷ bytes) ≡ false → length_at (b ∷ bytes ++ after) ≡ None
long_refused b bytes after true u t e n f = absurd (short_is_read b bytes t n)
long_refused b bytes after false true t e n f = length_refused_at (length_at (b ∷ bytes ++ after)) b bytes after refl (ltb-false b 128 t) (ltb-true (length bytes) (b - 128) e) f
long_refused b bytes after false false t e n f =
    let l = ltb-false (length bytes) (b - 128) e in
    length_at_long b (bytes ++ after) t (omega (arith, l, length-append bytes after))
    ∙ ap (λ (x : List ℕ). length_of x >>= followed (drop (b - 128) (bytes ++ after))) (take-append-le (b - 128) bytes after l)
    ∙ none_then (length_of (take (b - 128) bytes)) (drop (b - 128) bytes) (drop (b - 128) (bytes ++ after)) (sym (length_at_long b bytes t l) ∙ n)

true_or_false : true ≡ false → ⊥
true_or_false e = cc

length_refused : (bytes after : List ℕ) → length_at bytes ≡ None → length_goes_on bytes ≡ false → length_at (bytes ++ after) ≡ None
length_refused [] after e f = absurd (true_or_false (sym nothing_goes_on ∙ f))
length_refused (b ∷ bytes) after e f = long_refused b bytes after (nat_lt b 128) (nat_lt (length bytes) (b - 128)) refl refl e f

-- ---- what is read is read the same, whatever follows

pub identifier_stable : (bytes after : List ℕ) (i : Tag × Bool) (mid : List ℕ) → identifier_at bytes ≡ Some (i, mid) → identifier_at (bytes ++ after) ≡ Some (i, mid ++ after)
identifier_stable bytes after i mid e =
    let p = identifier_takes bytes (i, mid) e in
    ap (λ (x : List ℕ). identifier_at (x ++ after)) p.0 ∙ ap identifier_at (append_assoc (identifier_octets i.0 i.1) mid after) ∙ identifier_again i.0 i.1 (mid ++ after) p.1

pub length_stable : (bytes after : List ℕ) (n : ℕ) (last : List ℕ) → length_at bytes ≡ Some (n, last) → length_at (bytes ++ after) ≡ Some (n, last ++ after)
length_stable bytes after n last e =
    let p = length_takes bytes n last e in
    ap (λ (x : List ℕ). length_at (x ++ after)) p.0 ∙ ap length_at (append_assoc (length_octets n) last after) ∙ length_again n (last ++ after) p.1

abbrev pub element_of_parts : Option Read → Option (Element × List ℕ)
element_of_parts o = o >>= λ i. length_at i.1 >>= cut i.0

pub parts_are : (bytes : List ℕ) → element_at bytes ≡ element_of_parts (identifier_at bytes)
unfolding element_at
parts_are bytes = refl

-- the octets of the element are those before the rest
pub whole_front : (bytes : List ℕ) (t : Tag) (k : Bool) (mid last content rest : List ℕ) (n : ℕ) → identifier_at bytes ≡ Some ((t, k), mid) → length_at mid ≡ Some (n, last) → n ≤ length last → content ≡ take n last → rest ≡ drop n last
    → (length rest ≤ length bytes) × (take (length bytes - length rest) bytes ≡ element_octets (record { tag = t; constructed = k; content = content }))
whole_front bytes t k mid last content rest n e f l g h =
    let s : Element = record { tag = t; constructed = k; content = content } in
    let made : cut (t, k) (n, last) ≡ Some (s, rest) = rw (le-ltb (length last) n l, g, h) refl in
    front_octets bytes s rest (parts_are bytes ∙ bind_is (identifier_at bytes) (λ i. length_at i.1 >>= cut i.0) ((t, k), mid) (Some (s, rest)) e (bind_is (length_at mid) (cut (t, k)) (n, last) (Some (s, rest)) f made))

none_false : {A : Type 0} (p : Bool) (x : A) → cond p None (Some x) ≡ None → p ≡ false → ⊥
none_false true x e f = cc
none_false false x e f = cc

content_refused : (bytes after : List ℕ) (i : Tag × Bool) (o : Option (ℕ × List ℕ)) → length_at bytes ≡ o → (o >>= cut i) ≡ None → content_goes_on bytes o ≡ false → (length_at (bytes ++ after) >>= cut i) ≡ None
content_refused bytes after i None h e f = ap (λ (o : Option (ℕ × List ℕ)). o >>= cut i) (length_refused bytes after h f)
content_refused bytes after i (Some n) h e f = absurd (none_false (nat_lt (length n.1) n.0) (record { tag = i.0; constructed = i.1; content = take n.0 n.1 }, drop n.0 n.1) e f)

parts_refused : (bytes after : List ℕ) (o : Option Read) → identifier_at bytes ≡ o → element_of_parts o ≡ None → after_identifier bytes o ≡ false → element_of_parts (identifier_at (bytes ++ after)) ≡ None
parts_refused bytes after None h e f = ap element_of_parts (identifier_refused bytes after h f)
parts_refused bytes after (Some i) h e f =
    bind_is (identifier_at (bytes ++ after)) (λ i. length_at i.1 >>= cut i.0) (i.0, i.1 ++ after) None (identifier_stable bytes after i.0 i.1 h) (content_refused i.1 after i.0 (length_at i.1) refl e f)

element_refused : (bytes after : List ℕ) → element_at bytes ≡ None → goes_on bytes ≡ false → element_at (bytes ++ after) ≡ None
unfolding goes_on
element_refused bytes after e f = parts_are (bytes ++ after) ∙ parts_refused bytes after (identifier_at bytes) refl (sym (parts_are bytes) ∙ e) f

read_whole : (s : Element) → is_encodable s ≡ true → element_at (element_octets s) ≡ Some (s, [])
read_whole s h = ap element_at (sym (append-nil (element_octets s))) ∙ element_again s [] h

pub no_completion : (bytes : List ℕ) → element_at bytes ≡ None → goes_on bytes ≡ false → IsFront bytes → ⊥
no_completion bytes e f h = some_none (h.0, []) (sym (read_whole h.0 h.3) ∙ ap element_at h.4 ∙ element_refused bytes h.1 e f)

-- ---- of two elements neither's octets begin the other's

pub one_of_two : (s t : Element) (rest : List ℕ) → is_encodable s ≡ true → is_encodable t ≡ true → element_octets t ≡ element_octets s ++ rest → (s ≡ t) × (rest ≡ [])
one_of_two s t rest p q e =
    let same : ◌≡◌ {A = Element × List ℕ} (s, rest) (t, []) = some_is (s, rest) (t, []) (sym (element_again s rest p) ∙ ap element_at (sym e) ∙ read_whole t q) in
    (ap (λ (x : Element × List ℕ). x.0) same, ap (λ (x : Element × List ℕ). x.1) same)

last_nil : {A : Type 0} (xs ys : List A) → xs ++ ys ≡ [] → ys ≡ []
last_nil [] ys e = e
last_nil (x ∷ xs) ys e = absurd cc

pub begun_is_no_front : (bytes : List ℕ) (s : Element) (rest : List ℕ) → BeginsWith bytes s rest → IsFront bytes → ⊥
begun_is_no_front bytes s rest b h =
    let e : element_octets h.0 ≡ element_octets s ++ (rest ++ h.1) = h.4 ∙ ap (λ (x : List ℕ). x ++ h.1) b.1 ∙ append_assoc (element_octets s) rest h.1 in
    let nothing : rest ++ h.1 ≡ [] = (one_of_two s h.0 (rest ++ h.1) b.0 h.3 e).1 in
    h.2 (last_nil rest h.1 nothing)

pub not_begun : (bytes : List ℕ) → element_at bytes ≡ None → (s : Element) (rest : List ℕ) → BeginsWith bytes s rest → ⊥
not_begun bytes e s rest b = some_none (s, rest) (sym (element_again s rest b.0) ∙ ap element_at (sym b.1) ∙ e)
