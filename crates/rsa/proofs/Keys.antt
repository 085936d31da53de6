-- Whether a key is decided.
use Rattle.std.proofs.Common.{◌≡◌, ◌≢◌, ◌&&◌, eqb, get_or, ℕ, ◌-◌, ◌%◌, ◌^◌, ◌<◌, ◌≤◌, Bool, true, false, leb, ltb, List, length, refl, sym, ◌∙◌, ap, arith}
use Rattle.std.proofs.lemmas.Bool.{lt-ltb, le-ltb, le-leb, eq-eqb, ne_eqb, and_parts, ltb-true, leb-true}
use Rattle.rsa.specs.Primitives.{os2ip, is_decided, is_modulus, is_public_exponent}
use Rattle.rsa.proofs.Octets.{parity}

-- ---- whether a key is decided
pub modulus_is : (ds : List ℕ) → length ds ≤ 1024 → get_or ds 0 0 ≢ 0 → 0 < length ds → eqb (get_or ds (length ds - 1) 0 % 2) 1 ≡ is_modulus ds
modulus_is ds h n p =
    let z : 0 < get_or ds 0 0 = omega arith in
    rw (le-leb (length ds) 1024 h, lt-ltb 0 (get_or ds 0 0) z, parity ds p) refl

pub exponent_is : (e n : ℕ) (r b : Bool) → e ≡ n → e < 2 ^ 32 → r ≡ (leb 3 e && eqb (e % 2) 1) → r ≡ b → is_public_exponent n ≡ b
exponent_is e n r b q l h g =
    let f : is_public_exponent e ≡ b = rw (lt-ltb e (2 ^ 32) l) (sym h ∙ g) in
    ap is_public_exponent (sym q) ∙ f

pub large_exponent : (n : ℕ) → 2 ^ 32 ≤ n → is_public_exponent n ≡ false
large_exponent n h = rw (le-ltb n (2 ^ 32) h) refl

first_fails : (a b c : Bool) → a ≡ false → (a && b && c) ≡ false
first_fails a b c h = rw h refl

second_fails : (a b c : Bool) → a ≡ true → b ≡ false → (a && b && c) ≡ false
second_fails a b c h g = rw (h, g) refl

third_decides : (a b c t : Bool) → a ≡ true → b ≡ true → c ≡ t → (a && b && c) ≡ t
third_decides a b c t h g f = rw (h, g, f) refl

pub no_modulus : (modulus exponent signature : List ℕ) → is_modulus modulus ≡ false → is_decided modulus exponent signature ≡ false
unfolding is_decided
no_modulus modulus exponent signature h =
    first_fails (is_modulus modulus) (is_public_exponent (os2ip exponent)) (eqb (length signature) (length modulus)) h

pub no_exponent : (modulus exponent signature : List ℕ) → is_modulus modulus ≡ true → is_public_exponent (os2ip exponent) ≡ false
    → is_decided modulus exponent signature ≡ false
unfolding is_decided
no_exponent modulus exponent signature h g =
    second_fails (is_modulus modulus) (is_public_exponent (os2ip exponent)) (eqb (length signature) (length modulus)) h g

pub other_length : (modulus exponent signature : List ℕ) → is_modulus modulus ≡ true → is_public_exponent (os2ip exponent) ≡ true
    → length signature ≢ length modulus → is_decided modulus exponent signature ≡ false
unfolding is_decided
other_length modulus exponent signature h g f =
    third_decides (is_modulus modulus) (is_public_exponent (os2ip exponent)) (eqb (length signature) (length modulus)) false h g
    (ne_eqb (length signature) (length modulus) f)

pub decided : (modulus exponent signature : List ℕ) → is_modulus modulus ≡ true → is_public_exponent (os2ip exponent) ≡ true
    → length signature ≡ length modulus → is_decided modulus exponent signature ≡ true
unfolding is_decided
decided modulus exponent signature h g f =
    third_decides (is_modulus modulus) (is_public_exponent (os2ip exponent)) (eqb (length signature) (length modulus)) true h g
    (eq-eqb (length signature) (length modulus) f)

pub first_positive : (ds : List ℕ) → is_modulus ds ≡ true → 0 < get_or ds 0 0
first_positive ds h =
    let p = and_parts (leb (length ds) 1024 && ltb 0 (get_or ds 0 0)) (eqb (os2ip ds % 2) 1) h in
    let q = and_parts (leb (length ds) 1024) (ltb 0 (get_or ds 0 0)) p.0 in
    ltb-true 0 (get_or ds 0 0) q.1

pub positive : (e : ℕ) (r : Bool) → r ≡ (leb 3 e && eqb (e % 2) 1) → r ≡ true → 0 < e
positive e r h g =
    let p = and_parts (leb 3 e) (eqb (e % 2) 1) (sym h ∙ g) in
    let q = leb-true 3 e p.0 in
    omega (arith, q)
