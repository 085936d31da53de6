-- What goes on is completed: a number by one more digit, a length by octets of 255, contents by zeros.
use Rattle.std.specs.Prelude.{◌≡◌, ℕ, zero, suc, ◌+◌, ◌-◌, ◌*◌, ◌%◌, ◌^◌, ◌<◌, ◌≤◌, Bool, true, false, ◌&&◌, not, cond, nat_lt, nat_le, ◌==◌, List, [], ◌∷◌, ◌++◌, length, replicate, Option, Some, None, is_some, refl}
use Rattle.std.specs.List.{list_all}
use Rattle.std.proofs.Common.{sym, ap, ◌∙◌, subst, append_assoc, arith, get_or, Fits, w8}
use Rattle.std.proofs.Math.Nat.{pow-suc, pow-le-pow_right}
use Rattle.std.proofs.lemmas.Bool.{eqb-true, eqb-false, lt-ltb, ltb-true, leb-true}
use Rattle.std.proofs.lemmas.List.{append-nil, length-append, length-replicate}
use Rattle.std.proofs.lemmas.List.Folds.{list_all-append}
use Rattle.asn1_core.specs.declared.tag.Class.{Class}
use Rattle.asn1_core.specs.declared.tag.Class.TheVariants as class
use Rattle.asn1_core.specs.declared.tag.Tag.{Tag}
use Rattle.asn1_core.specs.Binds.{◌>>=◌, bind_is, and_true}
use Rattle.asn1_core.specs.Base128.{digits_at, base128_at, lead}
use Rattle.der_tree.specs.Element.{Element, class_at, element_at, element_octets, identifier_at, identifier_octets, length_at, number_of}
use Rattle.der_tree.specs.Fronts.{IsFront}
use Rattle.der_tree.specs.Incomplete.{after_identifier, content_goes_on, digits_go_on, goes_on, identifier_goes_on, is_no_zero, length_goes_on}
use Rattle.der_tree.specs.Incomplete.{number_goes_on}
use Rattle.der_tree.specs.laws.Element.{cut, cut_again, element_takes}
use Rattle.der_tree.specs.laws.Identifiers.{Read, bit, high_at, identifier_takes}
use Rattle.der_tree.specs.laws.Lengths.{length_of_is, long_again, number_nil, number_step}
use Rattle.der_tree.proofs.FrontLaws.{identifier_stable, length_stable, parts_are}

abbrev pub is_byte : ℕ → Bool
is_byte b = nat_lt b 256

abbrev pub are_bytes : List ℕ → Bool
are_bytes bytes = list_all is_byte bytes

-- ---- a number

abbrev Completed : ℕ → ℕ → List ℕ → ℕ → List ℕ → Type 0
Completed limit high bytes d tail = (n : ℕ) × (digits_at limit high (bytes ++ d ∷ tail) ≡ Some (n, tail)) × (d ≤ n)

on_step : (p q r g : Bool) → cond p (cond q false (cond r g false)) false ≡ true → (p ≡ true) × (q ≡ false) × (r ≡ true) × (g ≡ true)
on_step false q r g e = absurd cc
on_step true true r g e = absurd cc
on_step true false false g e = absurd cc
on_step true false true g e = (refl, refl, refl, e)

last_digit : (limit high d : ℕ) (tail : List ℕ) → d < 128 → nat_lt high limit ≡ true → digits_at limit high (d ∷ tail) ≡ Some (high * 128 + d, tail)
unfolding digits_at
last_digit limit high d tail l e = rw (e, lt-ltb d 128 l) refl

more_digit : (limit high b : ℕ) (bytes : List ℕ) → nat_lt high limit ≡ true → nat_lt b 128 ≡ false → nat_lt b 256 ≡ true → digits_at limit high (b ∷ bytes) ≡ digits_at limit (high * 128 + (b - 128)) bytes
unfolding digits_at
more_digit limit high b bytes p q r = rw (p, q, r) refl

digits_completed : (limit high d : ℕ) (bytes tail : List ℕ) → d < 128 → digits_go_on limit high bytes ≡ true → Completed limit high bytes d tail
unfolding digits_go_on
digits_completed limit high d [] tail l e = (high * 128 + d, last_digit limit high d tail l e, omega arith)
digits_completed limit high d (b ∷ bytes) tail l e =
    let s = on_step (nat_lt high limit) (nat_lt b 128) (nat_lt b 256) (digits_go_on limit (high * 128 + (b - 128)) bytes) e in
    let r = digits_completed limit (high * 128 + (b - 128)) d bytes tail l s.3 in
    (r.0, more_digit limit high b (bytes ++ d ∷ tail) s.0 s.1 s.2 ∙ r.1, r.2)

no_lead : (p : Bool) (g : Bool) → cond p false g ≡ true → (p ≡ false) × (g ≡ true)
no_lead true g e = absurd cc
no_lead false g e = (refl, e)

without_zero : (b : ℕ) (bytes : List ℕ) → (b == 128) ≡ false → base128_at (2 ^ 25) (b ∷ bytes) ≡ digits_at (2 ^ 25) 0 (b ∷ bytes)
unfolding base128_at
without_zero b bytes e = rw e refl

number_completed : (bytes tail : List ℕ) → number_goes_on bytes ≡ true → (n : ℕ) × (base128_at (2 ^ 25) (bytes ++ 31 ∷ tail) ≡ Some (n, tail)) × (31 ≤ n)
unfolding number_goes_on
number_completed [] tail e = (31, without_zero 31 tail refl ∙ last_digit (2 ^ 25) 0 31 tail (omega arith) refl, omega arith)
number_completed (b ∷ bytes) tail e =
    let s = no_lead (b == 128) (digits_go_on (2 ^ 25) 0 (b ∷ bytes)) e in
    let r = digits_completed (2 ^ 25) 0 31 (b ∷ bytes) tail (omega arith) s.1 in
    (r.0, without_zero b (bytes ++ 31 ∷ tail) s.0 ∙ r.1, r.2)

-- ---- an identifier

class_of : (p q r t : Bool) → t ≡ true → (c : Class) × (cond p (Some class.Universal) (cond q (Some class.Application) (cond r (Some class.Context) (cond t (Some class.Private) None))) ≡ Some c)
class_of true q r t e = (class.Universal, refl)
class_of false true r t e = (class.Application, refl)
class_of false false true t e = (class.Context, refl)
class_of false false false t e = (class.Private, rw e refl)

class_is : (b : ℕ) → nat_lt b 256 ≡ true → (c : Class) × (class_at b ≡ Some c)
class_is b e = class_of (nat_lt b 64) (nat_lt b 128) (nat_lt b 192) (nat_lt b 256) e

zero_identifier : (tail : List ℕ) → identifier_at (0 ∷ tail) ≡ Some ((record { class = class.Universal; number = 0 }, false), tail)
unfolding identifier_at
zero_identifier tail = refl

identifier_completed : (bytes tail : List ℕ) → are_bytes bytes ≡ true → identifier_goes_on bytes ≡ true → (d : ℕ) × (i : Tag × Bool) × (identifier_at (bytes ++ d ∷ tail) ≡ Some (i, tail))
unfolding identifier_goes_on
identifier_completed [] tail h e = (0, (record { class = class.Universal; number = 0 }, false), zero_identifier tail)
identifier_completed (b ∷ bytes) tail h e =
    let p = and_true (b % 32 == 31) (number_goes_on bytes) e in
    let c = class_is b (and_true (is_byte b) (are_bytes bytes) h).0 in
    let n = number_completed bytes tail p.1 in
    (31, (record { class = c.0; number = n.0 }, bit b), high_at b c.0 (bit b) n.0 (bytes ++ 31 ∷ tail) tail c.1 (eqb-true (b % 32) 31 p.0) n.1 n.2 refl)

-- ---- a length

below_56 : (r high : ℕ) → r ≤ 7 → high < 256 ^ r → high < 2 ^ 56
below_56 r high l m = let p : 256 ^ r ≤ 256 ^ 7 = pow-le-pow_right (omega arith) l in omega (arith, p, m)

below_more : (r high b : ℕ) → b < 256 → high < 256 ^ r → high * 256 + b < 256 ^ suc r
below_more r high b l m = subst (λ (x : ℕ). high * 256 + b < x) (sym (pow-suc 256 r)) (omega (arith, l, m))

-- octets of 255
abbrev fill : ℕ → List ℕ
fill zero = 255 ∷ []
fill (suc k) = 255 ∷ fill k

length-fill : (k : ℕ) → length (fill k) ≡ suc k
length-fill zero = refl
length-fill (suc k) = ap suc (length-fill k)

lead-fill : (k : ℕ) → lead 0 (fill k) ≡ 255
lead-fill zero = refl
lead-fill (suc k) = refl

fill_number : (k r high : ℕ) → r + k ≤ 7 → high < 256 ^ r → (n : ℕ) × (number_of high (fill k) ≡ Some n) × (255 ≤ n)
fill_number zero r high l m =
    (high * 256 + 255, number_step high 255 (high * 256 + 255) [] (below_56 r high (omega arith) m) (omega arith) refl ∙ number_nil (high * 256 + 255), omega arith)
fill_number (suc k) r high l m =
    let x = fill_number k (suc r) (high * 256 + 255) (omega arith) (below_more r high 255 (omega arith) m) in
    (x.0, number_step high 255 (high * 256 + 255) (fill k) (below_56 r high (omega arith) m) (omega arith) refl ∙ x.1, x.2)

filled_number : (bytes : List ℕ) (k r high : ℕ) → are_bytes bytes ≡ true → r + (length bytes + k) ≤ 7 → high < 256 ^ r → (n : ℕ) × (number_of high (bytes ++ fill k) ≡ Some n) × (255 ≤ n)
filled_number [] k r high h l m = fill_number k r high (omega arith) m
filled_number (b ∷ bytes) k r high h l m =
    let p = and_true (is_byte b) (are_bytes bytes) h in
    let q = ltb-true b 256 p.0 in
    let x = filled_number bytes k (suc r) (high * 256 + b) p.1 (omega arith) (below_more r high b q m) in
    (x.0, number_step high b (high * 256 + b) (bytes ++ fill k) (below_56 r high (omega arith) m) q refl ∙ x.1, x.2)

-- at most eight octets are a number
pub has_number : (bytes : List ℕ) (r high : ℕ) → are_bytes bytes ≡ true → r + length bytes ≤ 8 → high < 256 ^ r → (n : ℕ) × (number_of high bytes ≡ Some n)
has_number [] r high h l m = (high, number_nil high)
has_number (b ∷ bytes) r high h l m =
    let p = and_true (is_byte b) (are_bytes bytes) h in
    let q = ltb-true b 256 p.0 in
    let x = has_number bytes (suc r) (high * 256 + b) p.1 (omega arith) (below_more r high b q m) in
    (x.0, number_step high b (high * 256 + b) bytes (below_56 r high (omega arith) m) q refl ∙ x.1)

pub bytes_are : (bytes : List ℕ) → ((i : ℕ) → Fits w8 (get_or bytes i 0)) → are_bytes bytes ≡ true
bytes_are [] h = refl
bytes_are (b ∷ bytes) h = rw (lt-ltb b 256 (omega (arith, h 0)), bytes_are bytes (λ i. h (suc i))) refl

pub is_number : (bytes : List ℕ) → ((i : ℕ) → Fits w8 (get_or bytes i 0)) → length bytes ≤ 8 → is_some (number_of 0 bytes) ≡ true
is_number bytes h l = rw (has_number bytes 0 0 (bytes_are bytes h) (omega arith) (omega arith)).1 refl

room : (p : Bool) (o : Option ℕ) → is_some (cond p o None) ≡ true → p ≡ true
room true o e = refl
room false o e = absurd cc

pub number_room : (high : ℕ) (bytes : List ℕ) → is_some (number_of high bytes) ≡ true → 0 < length bytes → high < 2 ^ 56
unfolding number_of
number_room high [] e l = absurd (omega arith)
number_room high (b ∷ bytes) e l = ltb-true high (2 ^ 56) (room (nat_lt high (2 ^ 56)) (cond (nat_lt b 256) (number_of (high * 256 + b) bytes) None) e)

not_false : (p : Bool) → not p ≡ true → p ≡ false
not_false true e = absurd cc
not_false false e = refl

filled_lead : (bytes : List ℕ) (k : ℕ) → is_no_zero bytes ≡ true → lead 0 (bytes ++ fill k) ≡ 0 → ⊥
filled_lead [] k e f = omega (arith, lead-fill k)
filled_lead (b ∷ bytes) k e f = eqb-false b 0 (not_false (b == 0) e) f

short_length : (tail : List ℕ) → length_at (0 ∷ tail) ≡ Some (0, tail)
unfolding length_at
short_length tail = refl

length_completed : (bytes : List ℕ) → are_bytes bytes ≡ true → length_goes_on bytes ≡ true → (octets : List ℕ) × (n : ℕ) × ((tail : List ℕ) → length_at (bytes ++ (octets ++ tail)) ≡ Some (n, tail))
unfolding length_goes_on
length_completed [] h e = (0 ∷ [], 0, short_length)
length_completed (b ∷ bytes) h e =
    let p = and_true (nat_le b 136 && nat_lt (length bytes) (b - 128)) (is_no_zero bytes) e in
    let q = and_true (nat_le b 136) (nat_lt (length bytes) (b - 128)) p.0 in
    let most = leb-true b 136 q.0 in
    let fewer = ltb-true (length bytes) (b - 128) q.1 in
    let k : ℕ = b - 128 - length bytes - 1 in
    let x = filled_number bytes k 0 0 (and_true (is_byte b) (are_bytes bytes) h).1 (omega arith) (omega arith) in
    let count : b ≡ 128 + length (bytes ++ fill k) = omega (arith, length-append bytes (fill k), length-fill k) in (
      fill k,
      x.0,
      λ tail.
          ap (λ (y : List ℕ). length_at (b ∷ y)) (sym (append_assoc bytes (fill k) tail))
          ∙ ap (λ (y : ℕ). length_at (y ∷ ((bytes ++ fill k) ++ tail))) count
          ∙ long_again (bytes ++ fill k) tail x.0 (length_of_is (bytes ++ fill k) x.0 (filled_lead bytes k p.1) x.1 (omega (arith, x.2))),
    )

-- ---- an element

abbrev Completes : List ℕ → Type 0
Completes bytes = (after : List ℕ) × (s : Element) × (element_at (bytes ++ after) ≡ Some (s, []))

from_parts : (bytes : List ℕ) (i : Tag × Bool) (mid content : List ℕ) → identifier_at bytes ≡ Some (i, mid) → length_at mid ≡ Some (length content, content) → element_at bytes ≡ Some (record { tag = i.0; constructed = i.1; content = content }, [])
from_parts bytes i mid content e f =
    let s : Element = record { tag = i.0; constructed = i.1; content = content } in
    let whole : length_at mid ≡ Some (length content, content ++ []) = f ∙ ap (λ (x : List ℕ). Some (length content, x)) (sym (append-nil content)) in
    parts_are bytes ∙ bind_is (identifier_at bytes) (λ i. length_at i.1 >>= cut i.0) (i, mid) (Some (s, [])) e (bind_is (length_at mid) (cut i) (length content, content ++ []) (Some (s, [])) whole (cut_again s []))

no_content : (bytes : List ℕ) → are_bytes bytes ≡ true → identifier_goes_on bytes ≡ true → Completes bytes
no_content bytes h e =
    let x = identifier_completed bytes (0 ∷ []) h e in
    (x.0 ∷ 0 ∷ [], record { tag = x.1.0; constructed = x.1.1; content = [] }, from_parts (bytes ++ x.0 ∷ 0 ∷ []) x.1 (0 ∷ []) [] x.2 (short_length []))

zeros_content : (bytes : List ℕ) (i : Tag × Bool) (mid : List ℕ) → identifier_at bytes ≡ Some (i, mid) → are_bytes mid ≡ true → length_goes_on mid ≡ true → Completes bytes
zeros_content bytes i mid e h f =
    let x = length_completed mid h f in
    let read : length_at (mid ++ (x.0 ++ replicate x.1 0)) ≡ Some (length (replicate x.1 0), replicate x.1 0) = x.2 (replicate x.1 0) ∙ ap (λ (n : ℕ). Some (n, replicate x.1 0)) (sym (length-replicate {A = ℕ} x.1 0)) in
    (x.0 ++ replicate x.1 0, record { tag = i.0; constructed = i.1; content = replicate x.1 0 }, from_parts (bytes ++ (x.0 ++ replicate x.1 0)) i (mid ++ (x.0 ++ replicate x.1 0)) (replicate x.1 0) (identifier_stable bytes (x.0 ++ replicate x.1 0) i mid e) read)

more_content : (bytes : List ℕ) (i : Tag × Bool) (mid : List ℕ) (n : ℕ) (last : List ℕ) → identifier_at bytes ≡ Some (i, mid) → length_at mid ≡ Some (n, last) → length last < n → Completes bytes
more_content bytes i mid n last e f l =
    let count : length (last ++ replicate (n - length last) 0) ≡ n = omega (arith, length-append last (replicate (n - length last) 0), length-replicate {A = ℕ} (n - length last) 0, l) in
    let read : length_at (mid ++ replicate (n - length last) 0) ≡ Some (length (last ++ replicate (n - length last) 0), last ++ replicate (n - length last) 0) = length_stable mid (replicate (n - length last) 0) n last f ∙ ap (λ (k : ℕ). Some (k, last ++ replicate (n - length last) 0)) (sym count) in
    (replicate (n - length last) 0, record { tag = i.0; constructed = i.1; content = last ++ replicate (n - length last) 0 }, from_parts (bytes ++ replicate (n - length last) 0) i (mid ++ replicate (n - length last) 0) (last ++ replicate (n - length last) 0) (identifier_stable bytes (replicate (n - length last) 0) i mid e) read)

bytes_after : (front rest bytes : List ℕ) → bytes ≡ front ++ rest → are_bytes bytes ≡ true → are_bytes rest ≡ true
bytes_after front rest bytes e h = (and_true (are_bytes front) (are_bytes rest) (sym (list_all-append is_byte front rest) ∙ ap are_bytes (sym e) ∙ h)).1

content_completes : (bytes : List ℕ) (i : Tag × Bool) (mid : List ℕ) (o : Option (ℕ × List ℕ)) → identifier_at bytes ≡ Some (i, mid) → are_bytes bytes ≡ true → length_at mid ≡ o → content_goes_on mid o ≡ true → Completes bytes
content_completes bytes i mid None e h f g =
    zeros_content bytes i mid e (bytes_after (identifier_octets i.0 i.1) mid bytes (identifier_takes bytes (i, mid) e).0 h) g
content_completes bytes i mid (Some n) e h f g = more_content bytes i mid n.0 n.1 e f (ltb-true (length n.1) n.0 g)

parts_complete : (bytes : List ℕ) (o : Option Read) → identifier_at bytes ≡ o → are_bytes bytes ≡ true → after_identifier bytes o ≡ true → Completes bytes
parts_complete bytes None e h g = no_content bytes h g
parts_complete bytes (Some i) e h g = content_completes bytes i.0 i.1 (length_at i.1) e h refl g

element_completes : (bytes : List ℕ) → are_bytes bytes ≡ true → goes_on bytes ≡ true → Completes bytes
unfolding goes_on
element_completes bytes h e = parts_complete bytes (identifier_at bytes) refl h e

some_none : {A : Type 0} (x : A) → Some x ≡ None → ⊥
some_none x e = cc

pub completion : (bytes : List ℕ) → are_bytes bytes ≡ true → element_at bytes ≡ None → goes_on bytes ≡ true → IsFront bytes
completion bytes h e f =
    let x = element_completes bytes h f in
    let t = element_takes (bytes ++ x.0) x.1 [] x.2 in
    (x.1, x.0, λ g. some_none (x.1, []) (sym x.2 ∙ ap (λ (y : List ℕ). element_at (bytes ++ y)) g ∙ ap element_at (append-nil bytes) ∙ e), t.1, sym (t.0 ∙ append-nil (element_octets x.1)))
