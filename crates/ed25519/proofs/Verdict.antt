-- What the verification answers at each of its ends.
use Rattle.std.proofs.Common.{◌≡◌, ◌≢◌, ℕ, ◌-◌, ◌%◌, ◌<◌, ◌≤◌, Bool, true, false, IsTrue, inl, inr, List, [], ◌∷◌, length, take, drop, refl, ◌∙◌, ap, arith, Option, Some, None, length-take, length-drop}
use Rattle.std.proofs.lemmas.List.{take_all}
use Rattle.std.proofs.lemmas.Bool.{lt-ltb, le-ltb, eq-eqb, ne_eqb, cases_lt}
use Rattle.std.specs.Option.{option_map}
use Rattle.modular.specs.Numbers.{value, little_endian}
use Rattle.ed25519.specs.Field.{p, times}
use Rattle.ed25519.specs.Curve.{Point, B, L, add, multiple, is_same_point, decode_point}
use Rattle.ed25519.specs.Extended.{Coordinates, extended, extended_add, extended_multiple, is_same_extended}
use Rattle.ed25519.proofs.Agreement.{sum_shown, multiple_shown, same_is, base_shown, decoded_shown}
use Rattle.ed25519.specs.Verification.{meets_equation, challenge, verifies}

pub order_is : value (0x5812_631a_5cf5_d3ed ∷ 0x14de_f9de_a2f7_9cd6 ∷ 0 ∷ 0x1000_0000_0000_0000 ∷ []) ≡ L
unfolding value L
order_is = refl

pub base_is : ◌≡◌ {A = Coordinates} (record {
  X = value (0xc956_2d60_8f25_d51a ∷ 0x692c_c760_9525_a7b2 ∷ 0xc0a4_e231_fdd6_dc5c ∷ 0x2169_36d3_cd6e_53fe ∷ []) % p;
  Y = value (0x6666_6666_6666_6658 ∷ 0x6666_6666_6666_6666 ∷ 0x6666_6666_6666_6666 ∷ 0x6666_6666_6666_6666 ∷ []) % p;
  Z = value (1 ∷ 0 ∷ 0 ∷ 0 ∷ []) % p;
  T = value (0x6dde_8ab3_a5b7_dda3 ∷ 0x20f0_9f80_7751_52f5 ∷ 0x66ea_4e8e_64ab_e37d ∷ 0x6787_5f0f_d78b_7665 ∷ []) % p;
}) (extended B)
unfolding value p B extended times
base_is = refl

-- ---- decoded points: what the code has is the coordinates of what the octets encode
none_of : (o : Option Point) → None ≡ option_map extended o → o ≡ None
none_of None h = refl
none_of (Some P) h = absurd (cc)

some_of : (o : Option Point) (C : Coordinates) → Some C ≡ option_map extended o → (P : Point) × (o ≡ Some P) × (C ≡ extended P)
some_of None C h = absurd (cc)
some_of (Some P) C h = (P, refl, cc)

pub one_of : (o : Option Point) (C : Coordinates) → Some C ≡ option_map extended o → C.Z ≡ 1
unfolding extended
one_of o C h = let q = some_of o C h in ap (λ (E : Coordinates). E.Z) q.2

pub no_r : (s k : ℕ) (r a : Option Point) → None ≡ option_map extended r → false ≡ meets_equation r s a k
unfolding meets_equation
no_r s k r a h = rw (none_of r h) refl

pub no_a : (s k : ℕ) (r a : Option Point) (R : Coordinates) → Some R ≡ option_map extended r → None ≡ option_map extended a
    → false ≡ meets_equation r s a k
unfolding meets_equation
no_a s k r a R h g = let q = some_of r R h in rw (q.1, none_of a g) refl

pub s_too_large : (s k l n : ℕ) (b : Bool) (r a : Option Point) (R A : Coordinates) → Some R ≡ option_map extended r → Some A ≡ option_map extended a
    → n ≡ s → l ≡ L → b ≡ false → ((IsTrue b → n < l) × (n < l → IsTrue b)) → false ≡ meets_equation r s a k
unfolding meets_equation
s_too_large s k l n b r a R A h g e f i t =
    let o : L ≤ s = elim (cases_lt n l) [
      | inl m ↦ absurd (let u : b ≡ true = t.1 m in (cc))
      | inr m ↦ rw (e, f) at m
    ] in
    let q = some_of r R h in
    let w = some_of a A g in
    rw (q.1, w.1, le-ltb s L o) refl

pub equation_tested : (s k l n : ℕ) (b c : Bool) (r a : List ℕ) (R A P Q M base : Coordinates)
    → Some R ≡ option_map extended (decode_point r) → Some A ≡ option_map extended (decode_point a)
    → n ≡ s → l ≡ L → b ≡ true → ((IsTrue b → n < l) × (n < l → IsTrue b))
    → base ≡ extended B → P ≡ extended_multiple 256 n base → M ≡ extended_multiple 512 k A → Q ≡ extended_add R M → c ≡ is_same_extended P Q
    → c ≡ meets_equation (decode_point r) s (decode_point a) k
unfolding meets_equation
equation_tested s k l n b c r a R A P Q M base h g e f i t hb hp hm hq hc =
    let o : s < L = rw (e, f) at (t.0 i) in
    let q = some_of (decode_point r) R h in
    let w = some_of (decode_point a) A g in
    let left : P ≡ extended_multiple 256 s (extended B) = rw (e, hb) at hp in
    let right : Q ≡ extended_add (extended q.0) (extended_multiple 512 k (extended w.0)) = rw (hm, q.2, w.2) at hq in
    let same = same_is (extended_multiple 256 s (extended B)) (extended_add (extended q.0) (extended_multiple 512 k (extended w.0)))
    (multiple 256 s B) (add q.0 (multiple 512 k w.0))
    (multiple_shown 256 s (extended B) B base_shown)
    (sum_shown (extended q.0) (extended_multiple 512 k (extended w.0)) q.0 (multiple 512 k w.0) (decoded_shown r q.0 q.1)
    (multiple_shown 512 k (extended w.0) w.0 (decoded_shown a w.0 w.1))) in
    let answer : c ≡ is_same_point (multiple 256 s B) (add q.0 (multiple 512 k w.0)) = rw (left, right) at hc ∙ same in
    rw (q.1, w.1, lt-ltb s L o) answer

pub key_length_wrong : (key message signature : List ℕ) → length key ≢ 32 → false ≡ verifies key message signature
unfolding verifies
key_length_wrong key message signature h = rw (ne_eqb (length key) 32 h) refl

pub signature_length_wrong : (key message signature : List ℕ) → length key ≡ 32 → length signature ≢ 64 → false ≡ verifies key message signature
unfolding verifies
signature_length_wrong key message signature g h = rw (eq-eqb (length key) 32 g, ne_eqb (length signature) 64 h) refl

pub verified : (key message signature : List ℕ) (k : ℕ) (c : Bool) → length key ≡ 32 → length signature ≡ 64
    → k ≡ challenge (take 32 signature) key message
    → c ≡ meets_equation (decode_point (take 32 signature)) (little_endian (drop 32 signature)) (decode_point key) k
    → c ≡ verifies key message signature
unfolding verifies
verified key message signature k c g h e f =
    rw (eq-eqb (length key) 32 g, eq-eqb (length signature) 64 h) (rw e at f)

pub first_half : (xs : List ℕ) → length xs ≡ 64 → length (take 32 xs) ≡ 32
first_half xs h = simp length-take (omega arith)

pub second_half : (xs : List ℕ) → length xs ≡ 64 → take (length xs - 32) (drop 32 xs) ≡ drop 32 xs
second_half xs h = take_all (length xs - 32) (drop 32 xs) (simp length-drop (omega arith))
