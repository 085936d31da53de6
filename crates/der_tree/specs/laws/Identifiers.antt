-- Identifiers, written and read.
use Rattle.std.specs.Prelude.{Bool, List, None, Option, Some, cond, false, length, nat_lt, not, refl, true, ℕ, [], ◌%◌, ◌++◌, ◌+◌, ◌-◌, ◌/◌, ◌<◌, ◌==◌, ◌^◌}
use Rattle.std.specs.Prelude.{◌∷◌, ◌≡◌, ◌≤◌}
use Rattle.std.proofs.Common.{ap, arith, subst, sym, ◌∙◌}
use Rattle.std.proofs.lemmas.Bool.{eq-eqb, eqb-false, eqb-true, le-ltb, lt-ltb, ltb-false, ltb-true, ne_eqb}
use Rattle.asn1_core.specs.Base128.{base128, base128_again, base128_at, base128_takes}
use Rattle.asn1_core.specs.Binds.{bind_some, kept_unless, some_is, ◌>>=◌}
use Rattle.asn1_core.specs.declared.tag.Class.{Class}
use Rattle.asn1_core.specs.declared.tag.Class.TheVariants as class
use Rattle.asn1_core.specs.declared.tag.Tag.{Tag}
use Rattle.der_tree.specs.Element.{class_at, class_bits, constructed_bit, identifier_at, identifier_octets}

abbrev pub first_byte : Class → Bool → ℕ → ℕ
first_byte c k m = class_bits c + constructed_bit k + m

class_again : (c : Class) (m : ℕ) → m < 64 → class_at (class_bits c + m) ≡ Some c
class_again class.Universal m l = rw (lt-ltb (0 + m) 64 (omega arith)) refl
class_again class.Application m l = rw (le-ltb (64 + m) 64 (omega arith), lt-ltb (64 + m) 128 (omega arith)) refl
class_again class.Context m l = rw (le-ltb (128 + m) 64 (omega arith), le-ltb (128 + m) 128 (omega arith), lt-ltb (128 + m) 192 (omega arith)) refl
class_again class.Private m l =
    rw (le-ltb (192 + m) 64 (omega arith), le-ltb (192 + m) 128 (omega arith), le-ltb (192 + m) 192 (omega arith), lt-ltb (192 + m) 256 (omega arith)) refl

first_class : (c : Class) (k : Bool) (m : ℕ) → m < 32 → class_at (first_byte c k m) ≡ Some c
first_class c true m l = let e : class_bits c + 32 + m ≡ class_bits c + (32 + m) = omega arith in ap class_at e ∙ class_again c (32 + m) (omega arith)
first_class c false m l = let e : class_bits c + 0 + m ≡ class_bits c + m = omega arith in ap class_at e ∙ class_again c m (omega arith)

first_low : (c : Class) (k : Bool) (m : ℕ) → m < 32 → first_byte c k m % 32 ≡ m
first_low class.Universal true m l = omega arith
first_low class.Universal false m l = omega arith
first_low class.Application true m l = omega arith
first_low class.Application false m l = omega arith
first_low class.Context true m l = omega arith
first_low class.Context false m l = omega arith
first_low class.Private true m l = omega arith
first_low class.Private false m l = omega arith

abbrev pub bit : ℕ → Bool
bit b = not (b / 32 % 2 == 0)

bit_on : (b : ℕ) → b / 32 % 2 ≡ 1 → bit b ≡ true
bit_on b e = rw (ne_eqb (b / 32 % 2) 0 (λ h. omega arith)) refl

bit_off : (b : ℕ) → b / 32 % 2 ≡ 0 → bit b ≡ false
bit_off b e = rw (eq-eqb (b / 32 % 2) 0 e) refl

first_bit : (c : Class) (k : Bool) (m : ℕ) → m < 32 → bit (first_byte c k m) ≡ k
first_bit class.Universal true m l = bit_on (0 + 32 + m) (omega arith)
first_bit class.Universal false m l = bit_off (0 + 0 + m) (omega arith)
first_bit class.Application true m l = bit_on (64 + 32 + m) (omega arith)
first_bit class.Application false m l = bit_off (64 + 0 + m) (omega arith)
first_bit class.Context true m l = bit_on (128 + 32 + m) (omega arith)
first_bit class.Context false m l = bit_off (128 + 0 + m) (omega arith)
first_bit class.Private true m l = bit_on (192 + 32 + m) (omega arith)
first_bit class.Private false m l = bit_off (192 + 0 + m) (omega arith)

short_at : (b : ℕ) (c : Class) (k : Bool) (n : ℕ) (rest : List ℕ) → class_at b ≡ Some c → b % 32 ≡ n → n < 31 → bit b ≡ k
    → identifier_at (b ∷ rest) ≡ Some ((record { class = c; number = n }, k), rest)
unfolding identifier_at
short_at b c k n rest e f l g = rw (e, ne_eqb (b % 32) 31 (λ h. omega arith), f, g) refl

pub high_at : (b : ℕ) (c : Class) (k : Bool) (n : ℕ) (bytes rest : List ℕ) → class_at b ≡ Some c → b % 32 ≡ 31 → base128_at (2 ^ 25) bytes ≡ Some (n, rest)
    → 31 ≤ n → bit b ≡ k → identifier_at (b ∷ bytes) ≡ Some ((record { class = c; number = n }, k), rest)
unfolding identifier_at
high_at b c k n bytes rest e f h l g = rw (e, f, h, le-ltb n 31 l, g) refl

pub identifier_again : (t : Tag) (k : Bool) (rest : List ℕ) → t.number < 2 ^ 32 → identifier_at (identifier_octets t k ++ rest) ≡ Some ((t, k), rest)
unfolding identifier_octets
identifier_again t k rest l =
    elim (nat_lt t.number 31) as (λ x. nat_lt t.number 31 ≡ x
    → identifier_at (cond x (first_byte t.class k t.number ∷ []) (first_byte t.class k 31 ∷ base128 t.number) ++ rest) ≡ Some ((t, k), rest)) [
      | true ↦ λ x. let m = ltb-true t.number 31 x in
          short_at (first_byte t.class k t.number) t.class k t.number rest (first_class t.class k t.number (omega arith))
          (first_low t.class k t.number (omega arith)) m (first_bit t.class k t.number (omega arith))
      | false ↦ λ x.
          high_at (first_byte t.class k 31) t.class k t.number (base128 t.number ++ rest) rest (first_class t.class k 31 (omega arith))
          (first_low t.class k 31 (omega arith)) (base128_again (2 ^ 25) t.number rest (omega arith) (omega arith)) (ltb-false t.number 31 x)
          (first_bit t.class k 31 (omega arith))
    ] refl

class_takes_at : (b : ℕ) (c : Class) (p q r t : Bool) → nat_lt b 64 ≡ p → nat_lt b 128 ≡ q → nat_lt b 192 ≡ r → nat_lt b 256 ≡ t
    → cond p (Some class.Universal) (cond q (Some class.Application) (cond r (Some class.Context) (cond t (Some class.Private) None))) ≡ Some c
    → (m : ℕ) × (b ≡ class_bits c + m) × (m < 64)
class_takes_at b c true q r t e1 e2 e3 e4 e =
    let l = ltb-true b 64 e1 in subst (λ (c : Class). (m : ℕ) × (b ≡ class_bits c + m) × (m < 64)) (some_is class.Universal c e) (b, omega arith, l)
class_takes_at b c false true r t e1 e2 e3 e4 e =
    let l = ltb-false b 64 e1 in let h = ltb-true b 128 e2 in subst (λ (c : Class). (m : ℕ) × (b ≡ class_bits c + m) × (m < 64))
    (some_is class.Application c e) (b - 64, omega arith, omega arith)
class_takes_at b c false false true t e1 e2 e3 e4 e =
    let l = ltb-false b 128 e2 in let h = ltb-true b 192 e3 in subst (λ (c : Class). (m : ℕ) × (b ≡ class_bits c + m) × (m < 64))
    (some_is class.Context c e) (b - 128, omega arith, omega arith)
class_takes_at b c false false false true e1 e2 e3 e4 e =
    let l = ltb-false b 192 e3 in let h = ltb-true b 256 e4 in subst (λ (c : Class). (m : ℕ) × (b ≡ class_bits c + m) × (m < 64))
    (some_is class.Private c e) (b - 192, omega arith, omega arith)
class_takes_at b c false false false false e1 e2 e3 e4 e = absurd cc

class_takes : (b : ℕ) (c : Class) → class_at b ≡ Some c → (m : ℕ) × (b ≡ class_bits c + m) × (m < 64)
class_takes b c e = class_takes_at b c (nat_lt b 64) (nat_lt b 128) (nat_lt b 192) (nat_lt b 256) refl refl refl refl e

first_off : (b : ℕ) (c : Class) (m : ℕ) → b ≡ class_bits c + m → m < 64 → b / 32 % 2 ≡ 0 → b ≡ first_byte c false (b % 32)
first_off b class.Universal m e l h = omega arith
first_off b class.Application m e l h = omega arith
first_off b class.Context m e l h = omega arith
first_off b class.Private m e l h = omega arith

first_on : (b : ℕ) (c : Class) (m : ℕ) → b ≡ class_bits c + m → m < 64 → (b / 32 % 2 ≡ 0 → ⊥) → b ≡ first_byte c true (b % 32)
first_on b class.Universal m e l h = omega arith
first_on b class.Application m e l h = omega arith
first_on b class.Context m e l h = omega arith
first_on b class.Private m e l h = omega arith

first_of : (b : ℕ) (c : Class) → class_at b ≡ Some c → b ≡ first_byte c (bit b) (b % 32)
first_of b c e =
    let m = class_takes b c e in
    elim (b / 32 % 2 == 0) as (λ x. (b / 32 % 2 == 0) ≡ x → b ≡ first_byte c (not x) (b % 32)) [
      | true ↦ λ x. first_off b c m.0 m.1 m.2 (eqb-true (b / 32 % 2) 0 x)
      | false ↦ λ x. first_on b c m.0 m.1 m.2 (eqb-false (b / 32 % 2) 0 x)
    ] refl

short_identifier : (t : Tag) (k : Bool) → t.number < 31 → identifier_octets t k ≡ first_byte t.class k t.number ∷ []
unfolding identifier_octets
short_identifier t k l = rw (lt-ltb t.number 31 l) refl

high_identifier : (t : Tag) (k : Bool) → 31 ≤ t.number → identifier_octets t k ≡ first_byte t.class k 31 ∷ base128 t.number
unfolding identifier_octets
high_identifier t k l = rw (le-ltb t.number 31 l) refl

short_takes : (b : ℕ) (c : Class) (bytes : List ℕ) → class_at b ≡ Some c → (b % 32 ≡ 31 → ⊥) → (t : Tag) → t.class ≡ c → t.number ≡ b % 32
    → (b ∷ bytes ≡ identifier_octets t (bit b) ++ bytes) × (t.number < 2 ^ 32)
short_takes b c bytes e h t f g =
    let l : t.number < 31 = omega arith in (
      ap (λ (x : ℕ). x ∷ bytes) (first_of b c e ∙ ap (λ (x : Class). first_byte x (bit b) (b % 32)) (sym f)
          ∙ ap (λ (x : ℕ). first_byte t.class (bit b) x) (sym g)) ∙ ap (λ (x : List ℕ). x ++ bytes) (sym (short_identifier t (bit b) l)),
      omega arith,
    )

high_takes : (b : ℕ) (c : Class) (bytes rest : List ℕ) → class_at b ≡ Some c → b % 32 ≡ 31 → (t : Tag) → t.class ≡ c
    → base128_at (2 ^ 25) bytes ≡ Some (t.number, rest) → 31 ≤ t.number → (b ∷ bytes ≡ identifier_octets t (bit b) ++ rest) × (t.number < 2 ^ 32)
high_takes b c bytes rest e h t f g l =
    let r = base128_takes (2 ^ 25) bytes t.number rest (omega arith) g in
    let head : b ≡ first_byte t.class (bit b) 31 = first_of b c e ∙ ap (λ (x : ℕ). first_byte c (bit b) x) h
    ∙ ap (λ (x : Class). first_byte x (bit b) 31) (sym f) in (
      ap (λ (x : ℕ). x ∷ bytes) head ∙ ap (λ (x : List ℕ). first_byte t.class (bit b) 31 ∷ x) r.0
          ∙ ap (λ (x : List ℕ). x ++ rest) (sym (high_identifier t (bit b) l)),
      omega (arith, r.1),
    )

abbrev pub Read : Type 0
Read = (Tag × Bool) × List ℕ

abbrev Spelled : List ℕ → Read → Type 0
Spelled bytes r = (bytes ≡ identifier_octets r.0.0 r.0.1 ++ r.1) × (r.0.0.number < 2 ^ 32)

abbrev pub high_with : Class → ℕ → ℕ × List ℕ → Option Read
high_with c b n = cond (nat_lt n.0 31) None (Some ((record { class = c; number = n.0 }, bit b), n.1))

abbrev pub short_with : Class → ℕ → List ℕ → Option Read
short_with c b bytes = Some ((record { class = c; number = b % 32 }, bit b), bytes)

abbrev pub with_class : ℕ → List ℕ → Class → Option Read
with_class b bytes c = cond (b % 32 == 31) (base128_at (2 ^ 25) bytes >>= high_with c b) (short_with c b bytes)

with_class_takes : (b : ℕ) (bytes : List ℕ) (c : Class) (r : Read) (x : Bool) → class_at b ≡ Some c → (b % 32 == 31) ≡ x
    → cond x (base128_at (2 ^ 25) bytes >>= high_with c b) (short_with c b bytes) ≡ Some r → Spelled (b ∷ bytes) r
with_class_takes b bytes c r true e x f =
    let n = bind_some (base128_at (2 ^ 25) bytes) (high_with c b) r f in
    let made : Read = ((record { class = c; number = n.0.0 }, bit b), n.0.1) in
    let g = kept_unless (nat_lt n.0.0 31) (Some made) r n.2 in
    subst (λ (r : Read). Spelled (b ∷ bytes) r) (some_is made r g.1)
    (high_takes b c bytes n.0.1 e (eqb-true (b % 32) 31 x) (record { class = c; number = n.0.0 }) refl n.1 (ltb-false n.0.0 31 g.0))
with_class_takes b bytes c r false e x f =
    let made : Read = ((record { class = c; number = b % 32 }, bit b), bytes) in
    subst (λ (r : Read). Spelled (b ∷ bytes) r) (some_is made r f)
    (short_takes b c bytes e (eqb-false (b % 32) 31 x) (record { class = c; number = b % 32 }) refl refl)

pub identifier_takes : (bytes : List ℕ) (r : (Tag × Bool) × List ℕ) → identifier_at bytes ≡ Some r
    → (bytes ≡ identifier_octets r.0.0 r.0.1 ++ r.1) × (r.0.0.number < 2 ^ 32)
unfolding identifier_at
identifier_takes [] r e = absurd cc
identifier_takes (b ∷ bytes) r e =
    let c = bind_some (class_at b) (with_class b bytes) r e in
    with_class_takes b bytes c.0 r (b % 32 == 31) c.1 refl c.2

pub identifier_long : (t : Tag) (k : Bool) → 0 < length (identifier_octets t k)
unfolding identifier_octets
identifier_long t k =
    elim (nat_lt t.number 31) as (λ x. 0 < length (cond x (first_byte t.class k t.number ∷ []) (first_byte t.class k 31 ∷ base128 t.number)))
    [ true ↦ omega arith | false ↦ omega arith ]
