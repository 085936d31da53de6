-- The restricted character string types (X.680, 41), and their contents octets (X.690, 8.23).
use Rattle.std.specs.Prelude.{◌≡◌, ℕ, suc, zero, ◌+◌, ◌*◌, ◌%◌, ◌^◌, ◌<◌, Bool, true, cond, ◌||◌, ◌==◌, List, [], ◌∷◌, length, refl}
use Rattle.std.specs.List.{prefix_len, take_while}
use Rattle.std.specs.Char.{is_ascii_alphanumeric, is_ascii_digit, is_ascii}
use Rattle.std.specs.Int.{is_in_range}
use Rattle.std.specs.Str.{chars, IsAscii}
use Rattle.std.specs.Str.Lossy.{utf8_valid_len}
use Rattle.std.proofs.Common.{ap, sym, ◌∙◌, arith}
use Rattle.std.proofs.Math.Dec.{lit<}
use Rattle.std.proofs.Math.Nat.{mod-one, mul-mod_left}
use Rattle.std.proofs.lemmas.List.Folds.{length-prefix_len}
use Rattle.std.proofs.lemmas.Str.{utf8_valid_len-IsUtf8, IsUtf8-from_ascii, chars-IsAscii}
-- the code is that of a character of Unicode: 0 to 10FFFF without D800 to DFFF
pub use lib.Utf8.{scalar}

pub record StringType : Type 0 where
  -- of the universal tag
  pub number : ℕ
  -- how many octets each unit has that characters are written in
  pub width : ℕ
  -- the codes of the characters that octets are
  pub characters : List ℕ → List ℕ
  -- how many octets the leading characters take, up to the first that isn't of the type
  pub valid_len : List ℕ → ℕ
  pub wide : 0 < width
  -- there is a text of each length
  pub long : (n : ℕ) → (octets : List ℕ) × (length octets % width ≡ 0) × (valid_len octets ≡ length octets) × (length (characters octets) ≡ n)

-- ---- one octet a character

-- the character 0, so often
abbrev zeros : ℕ → List ℕ
zeros zero = []
zeros (suc n) = 48 ∷ zeros n

length-zeros : (n : ℕ) → length (zeros n) ≡ n
length-zeros zero = refl
length-zeros (suc n) = ap (λ k. suc k) (length-zeros n)

prefix_len-zeros : (is_one : ℕ → Bool) → is_one 48 ≡ true → (n : ℕ) → prefix_len is_one (zeros n) ≡ n
prefix_len-zeros is_one h zero = refl
prefix_len-zeros is_one h (suc n) = ap (λ t. cond t (1 + prefix_len is_one (zeros n)) 0) h ∙ ap (λ k. 1 + k) (prefix_len-zeros is_one h n) ∙ omega arith

pub zeros_valid : (is_one : ℕ → Bool) → is_one 48 ≡ true → (n : ℕ) → length (take_while is_one (zeros n)) ≡ length (zeros n)
zeros_valid is_one h n = length-prefix_len is_one (zeros n) ∙ prefix_len-zeros is_one h n ∙ sym (length-zeros n)

pub long_octets : (is_one : ℕ → Bool) → is_one 48 ≡ true → (n : ℕ) → (octets : List ℕ) × (length octets % 1 ≡ 0) × (length (take_while is_one octets) ≡ length octets) × (length octets ≡ n)
long_octets is_one h n = (zeros n, mod-one (length (zeros n)), zeros_valid is_one h n, length-zeros n)

abbrev pub of_octets : ℕ → (is_one : ℕ → Bool) → is_one 48 ≡ true → StringType
of_octets number is_one h = record {
  number = number;
  width = 1;
  characters = λ octets. octets;
  valid_len = λ octets. length (take_while is_one octets);
  wide = lit< tt;
  long = long_octets is_one h;
}

-- digits and space (X.680, table 9)
abbrev pub is_numeric : ℕ → Bool
is_numeric c = is_ascii_digit c || (c == 32)

-- letters, digits, space and ' ( ) + , - . / : = ? (X.680, table 10)
abbrev pub is_printable : ℕ → Bool
is_printable c = is_ascii_alphanumeric c || (c == 32 || is_in_range 39 41 c || is_in_range 43 47 c || c == 58 || c == 61 || c == 63)

-- the graphic characters of ASCII, and space (X.680, table 8)
abbrev pub is_visible : ℕ → Bool
is_visible c = is_in_range 32 126 c

abbrev pub numeric : StringType
numeric = of_octets 18 is_numeric refl

abbrev pub printable : StringType
printable = of_octets 19 is_printable refl

abbrev pub ia5 : StringType
ia5 = of_octets 22 is_ascii refl

abbrev pub visible : StringType
visible = of_octets 26 is_visible refl

-- whichever octets they are
pub long_any : (n : ℕ) → (octets : List ℕ) × (length octets % 1 ≡ 0) × (length octets ≡ length octets) × (length octets ≡ n)
long_any n = (zeros n, mod-one (length (zeros n)), refl, length-zeros n)

abbrev pub of_any_octets : ℕ → StringType
of_any_octets number = record { number = number; width = 1; characters = λ octets. octets; valid_len = length; wide = lit< tt; long = long_any }

abbrev pub teletex : StringType
teletex = of_any_octets 20

abbrev pub graphic : StringType
graphic = of_any_octets 25

abbrev pub general : StringType
general = of_any_octets 27

-- ---- four and two octets a character, the first the highest (X.690, 8.23.7, 8.23.8)

abbrev pub quads : List ℕ → List ℕ
quads [] = []
quads (a ∷ []) = []
quads (a ∷ b ∷ []) = []
quads (a ∷ b ∷ c ∷ []) = []
quads (a ∷ b ∷ c ∷ d ∷ rest) = (2 ^ 24 * a + 2 ^ 16 * b + 2 ^ 8 * c + d) ∷ quads rest

abbrev pub pairs : List ℕ → List ℕ
pairs [] = []
pairs (a ∷ []) = []
pairs (a ∷ b ∷ rest) = (2 ^ 8 * a + b) ∷ pairs rest

abbrev four_zeros : ℕ → List ℕ
four_zeros zero = []
four_zeros (suc n) = 0 ∷ 0 ∷ 0 ∷ 48 ∷ four_zeros n

quads-zeros : (n : ℕ) → quads (four_zeros n) ≡ zeros n
quads-zeros zero = refl
quads-zeros (suc n) = ap (λ ns. 48 ∷ ns) (quads-zeros n)

length-four_zeros : (n : ℕ) → length (four_zeros n) ≡ n * 4
length-four_zeros zero = refl
length-four_zeros (suc n) = let h : length (four_zeros n) ≡ n * 4 = length-four_zeros n in omega arith

abbrev two_zeros : ℕ → List ℕ
two_zeros zero = []
two_zeros (suc n) = 0 ∷ 48 ∷ two_zeros n

pairs-zeros : (n : ℕ) → pairs (two_zeros n) ≡ zeros n
pairs-zeros zero = refl
pairs-zeros (suc n) = ap (λ ns. 48 ∷ ns) (pairs-zeros n)

length-two_zeros : (n : ℕ) → length (two_zeros n) ≡ n * 2
length-two_zeros zero = refl
length-two_zeros (suc n) = let h : length (two_zeros n) ≡ n * 2 = length-two_zeros n in omega arith

pub long_quads : (n : ℕ) → (octets : List ℕ) × (length octets % 4 ≡ 0) × (4 * prefix_len scalar (quads octets) ≡ length octets) × (length (quads octets) ≡ n)
long_quads n =
    let l = length-four_zeros n in
    let k : prefix_len scalar (quads (four_zeros n)) ≡ n = ap (prefix_len scalar) (quads-zeros n) ∙ prefix_len-zeros scalar refl n in
    (four_zeros n, ap (λ k. k % 4) l ∙ mul-mod_left n 4, omega (arith, l, k), ap length (quads-zeros n) ∙ length-zeros n)

pub long_pairs : (n : ℕ) → (octets : List ℕ) × (length octets % 2 ≡ 0) × (2 * prefix_len scalar (pairs octets) ≡ length octets) × (length (pairs octets) ≡ n)
long_pairs n =
    let l = length-two_zeros n in
    let k : prefix_len scalar (pairs (two_zeros n)) ≡ n = ap (prefix_len scalar) (pairs-zeros n) ∙ prefix_len-zeros scalar refl n in
    (two_zeros n, ap (λ k. k % 2) l ∙ mul-mod_left n 2, omega (arith, l, k), ap length (pairs-zeros n) ∙ length-zeros n)

abbrev pub universal_string : StringType
universal_string = record { number = 28; width = 4; characters = quads; valid_len = λ octets. 4 * prefix_len scalar (quads octets); wide = lit< tt; long = long_quads }

abbrev pub bmp : StringType
bmp = record { number = 30; width = 2; characters = pairs; valid_len = λ octets. 2 * prefix_len scalar (pairs octets); wide = lit< tt; long = long_pairs }

-- ---- UTF-8 (X.690, 8.23.10)

zeros_ascii : (n : ℕ) → IsAscii (zeros n)
zeros_ascii zero i = lit< tt
zeros_ascii (suc n) zero = lit< tt
zeros_ascii (suc n) (suc i) = zeros_ascii n i

pub long_utf8 : (n : ℕ) → (octets : List ℕ) × (length octets % 1 ≡ 0) × (utf8_valid_len octets ≡ length octets) × (length (chars octets) ≡ n)
long_utf8 n =
    let a = zeros_ascii n in
    (zeros n, mod-one (length (zeros n)), utf8_valid_len-IsUtf8 (zeros n) (IsUtf8-from_ascii (zeros n) a), ap length (chars-IsAscii (zeros n) a) ∙ length-zeros n)

abbrev pub utf8 : StringType
utf8 = record { number = 12; width = 1; characters = chars; valid_len = utf8_valid_len; wide = lit< tt; long = long_utf8 }
