-- Texts whose characters pass a test, and where such a text ends.
use Rattle.std.proofs.Common.{◌≡◌, ℕ, zero, suc, ◌+◌, ◌/◌, ◌%◌, ◌<◌, ◌==◌, Bool, true, false, cond, List, [], ◌∷◌, ◌++◌, decimal, slice_index, refl, ap, sym, ◌∙◌, arith}
use Rattle.std.specs.Fmt.{digit_glyph, digits, digits_onto}
use Rattle.std.specs.List.{flat_map, join_by, list_all}
use Rattle.std.proofs.lemmas.Bool.{agree_below, agree_below_at, both_ways, lt-ltb}
use Rattle.asn1_core.specs.Binds.{and_true, true_and}
use Rattle.hex.specs.Hex.{encode_lower, encode_with, lower_digits}

-- ---- lists

abbrev first_or_0 : List ℕ → ℕ
first_or_0 [] = 0
first_or_0 (c ∷ x) = c

abbrev after_first : List ℕ → List ℕ
after_first [] = []
after_first (c ∷ x) = x

pub head_is : (c d : ℕ) (x y : List ℕ) → c ∷ x ≡ d ∷ y → c ≡ d
head_is c d x y e = ap first_or_0 e

pub tail_is : (c d : ℕ) (x y : List ℕ) → c ∷ x ≡ d ∷ y → x ≡ y
tail_is c d x y e = ap after_first e

pub cons_is : (c d : ℕ) (x y : List ℕ) → c ≡ d → x ≡ y → c ∷ x ≡ d ∷ y
cons_is c d x y h k = ap (λ (n : ℕ). n ∷ x) h ∙ ap (λ (t : List ℕ). d ∷ t) k

pub never_nil : (c : ℕ) (x : List ℕ) → [] ≡ c ∷ x → ⊥
never_nil c x e = cc

-- ---- where a text ends

-- it is over, or the next character fails the test
abbrev pub Ends : (ℕ → Bool) → List ℕ → Type 0
Ends p [] = Unit {0}
Ends p (c ∷ rest) = p c ≡ false

-- of one text there is one longest front that passes
pub splits : (p : ℕ → Bool) (x y r s : List ℕ) → list_all p x ≡ true → list_all p y ≡ true → Ends p r → Ends p s
    → x ++ r ≡ y ++ s → (x ≡ y) × (r ≡ s)
splits p [] [] r s h k f g e = (refl, e)
splits p [] (d ∷ y) [] s h k f g e = absurd (never_nil d (y ++ s) e)
splits p [] (d ∷ y) (c ∷ r) s h k f g e =
    absurd (both_ways (p c) f (ap p (head_is c d r (y ++ s) e) ∙ (and_true (p d) (list_all p y) k).0))
splits p (c ∷ x) [] r [] h k f g e = absurd (never_nil c (x ++ r) (sym e))
splits p (c ∷ x) [] r (d ∷ s) h k f g e =
    absurd (both_ways (p d) g (ap p (sym (head_is c d (x ++ r) s e)) ∙ (and_true (p c) (list_all p x) h).0))
splits p (c ∷ x) (d ∷ y) r s h k f g e =
    let rest = splits p x y r s (and_true (p c) (list_all p x) h).1 (and_true (p d) (list_all p y) k).1 f g (tail_is c d (x ++ r) (y ++ s) e) in
    (cons_is c d x y (head_is c d (x ++ r) (y ++ s) e) rest.0, rest.1)

-- ---- each character passes

pub one_more : (p : ℕ → Bool) (c : ℕ) (x : List ℕ) → p c ≡ true → list_all p x ≡ true → list_all p (c ∷ x) ≡ true
one_more p c x h k = true_and (p c) (list_all p x) h k

pub all_append : (p : ℕ → Bool) (x y : List ℕ) → list_all p x ≡ true → list_all p y ≡ true → list_all p (x ++ y) ≡ true
all_append p [] y h k = k
all_append p (c ∷ x) y h k =
    let q = and_true (p c) (list_all p x) h in
    one_more p c (x ++ y) q.0 (all_append p x y q.1 k)

pub all_flat : {X : Type 0} (p : ℕ → Bool) (f : X → List ℕ) → ((x : X) → list_all p (f x) ≡ true) → (xs : List X) → list_all p (flat_map f xs) ≡ true
all_flat p f h [] = refl
all_flat p f h (x ∷ xs) = all_append p (f x) (flat_map f xs) (h x) (all_flat p f h xs)

pub all_joined : {X : Type 0} (p : ℕ → Bool) (f : X → List ℕ) (sep : List ℕ) → ((x : X) → list_all p (f x) ≡ true) → list_all p sep ≡ true
    → (xs : List X) → list_all p (join_by f sep xs) ≡ true
all_joined p f sep h k [] = refl
all_joined {X} p f sep h k (x ∷ xs) =
    all_append p (f x) (flat_map (λ (y : X). sep ++ f y) xs) (h x)
    (all_flat p (λ (y : X). sep ++ f y) (λ (y : X). all_append p sep (f y) k (h y)) xs)

pub all_cond : (p : ℕ → Bool) (b : Bool) (x y : List ℕ) → list_all p x ≡ true → list_all p y ≡ true → list_all p (cond b x y) ≡ true
all_cond p true x y h k = h
all_cond p false x y h k = k

-- ---- digits

-- the digits pass
abbrev pub passes_digits : (ℕ → Bool) → Bool
passes_digits p = agree_below (λ (d : ℕ). p (48 + d)) (λ (d : ℕ). true) 10

pub digit_passes : (p : ℕ → Bool) → passes_digits p ≡ true → (d : ℕ) → d < 10 → p (48 + d) ≡ true
digit_passes p h d l = agree_below_at (λ (d : ℕ). p (48 + d)) (λ (d : ℕ). true) 10 d h l

glyph_passes : (p : ℕ → Bool) → passes_digits p ≡ true → (d : ℕ) → d < 10 → p (digit_glyph false d) ≡ true
glyph_passes p h d l = ap (λ (t : Bool). p (cond t (48 + d) (87 + d))) (lt-ltb d 10 l) ∙ digit_passes p h d l

onto_passes : (p : ℕ → Bool) → passes_digits p ≡ true → (k n : ℕ) (acc : List ℕ) → list_all p acc ≡ true → list_all p (digits_onto k 10 false n acc) ≡ true
onto_passes p h zero n acc e = e
onto_passes p h (suc k) n acc e =
    let more : list_all p (digit_glyph false (n % 10) ∷ acc) ≡ true =
    one_more p (digit_glyph false (n % 10)) acc (glyph_passes p h (n % 10) (omega arith)) e in
    all_cond p (n / 10 == 0) (digit_glyph false (n % 10) ∷ acc) (digits_onto k 10 false (n / 10) (digit_glyph false (n % 10) ∷ acc)) more
    (onto_passes p h k (n / 10) (digit_glyph false (n % 10) ∷ acc) more)

pub decimal_passes : (p : ℕ → Bool) → passes_digits p ≡ true → (n : ℕ) → list_all p (decimal n) ≡ true
unfolding digits
decimal_passes p h n = onto_passes p h 64 n [] refl

-- a place past the end of a table has 0
at_place : (p : ℕ → Bool) → p 0 ≡ true → (t : List ℕ) → list_all p t ≡ true → (i : ℕ) → p (slice_index t i) ≡ true
at_place p z [] h i = z
at_place p z (c ∷ t) h zero = (and_true (p c) (list_all p t) h).0
at_place p z (c ∷ t) h (suc i) = at_place p z t (and_true (p c) (list_all p t) h).1 i

pub hex_passes : (p : ℕ → Bool) → p 0 ≡ true → list_all p lower_digits ≡ true → (xs : List ℕ) → list_all p (encode_lower xs) ≡ true
unfolding encode_with
hex_passes p z h [] = refl
hex_passes p z h (b ∷ xs) =
    one_more p (slice_index lower_digits (b / 16)) (slice_index lower_digits (b % 16) ∷ encode_lower xs) (at_place p z lower_digits h (b / 16))
    (one_more p (slice_index lower_digits (b % 16)) (encode_lower xs) (at_place p z lower_digits h (b % 16)) (hex_passes p z h xs))
