-- Values with one text are one: octets, serial numbers, bit strings, versions and times.
use Rattle.std.proofs.Common.{◌≡◌, ℕ, zero, suc, ◌+◌, ◌/◌, ◌%◌, ◌^◌, ◌<◌, ◌≤◌, ◌==◌, inl, inr, Bool, true, false, not, cond, ℤ, pos, negsuc, int_le, List, [], ◌∷◌, ◌++◌, codes, decimal, drop, take, Some, None, Result, Ok, refl, ap, sym, ◌∙◌, subst, arith}
use Rattle.std.specs.List.{list_all}
use Rattle.std.proofs.lemmas.Bool.{cases_eq, cases_lt, cond_both, le-leb, ne_eqb}
use Rattle.std.proofs.lemmas.Fmt.{decimal_injective}
use Rattle.std.proofs.lemmas.List.{append_cancel_left}
use Rattle.asn1_core.specs.Binds.{and_true, some_is}
use Rattle.asn1_core.specs.Bits.{Bits}
use Rattle.asn1_core.specs.GeneralizedTime.{fraction, fraction_digits, generalized_time_back, generalized_time_contents, generalized_time_to, is_four_digit_year}
use Rattle.asn1_core.specs.Twos.{is_negative}
use Rattle.asn1_core.specs.TwoDigits.{two_digits}
use Rattle.asn1_core.specs.UtcTime.{is_utc_time_year, twelve_digits, year_of}
use Rattle.asn1_core.specs.declared.time.generalized_time.GeneralizedTime.{GeneralizedTime}
use Rattle.hex.proofs.HexLemmas.{decode_of-encode_lower}
use Rattle.hex.specs.Hex.{IsBytes, decode_of}
use Rattle.hex.specs.declared.error.FromHexError.{FromHexError}
use Rattle.jiff.specs.Types.{DateTime}
use Rattle.pkix_cert.specs.Times.{moment_of, time}
use Rattle.pkix_cert.specs.Versions.{raw_value, version_of}
use Rattle.pkix_cert.specs.declared.certificate.Version.{Version}
use Rattle.pkix_cert.specs.declared.time.Time.{Time}
use Rattle.pkix_cert.specs.declared.time.Time.TheVariants.{Utc, General}
use Rattle.shelf_explain.specs.BitNames.{bits_text, unused_text}
use Rattle.shelf_explain.specs.Blocks.{time_text, version_text}
use Rattle.shelf_explain.specs.Lines.{hex_text, labelled}
use Rattle.shelf_explain.specs.Numbers.{hex_number, in_decimal, in_parentheses, serial_text}
use Rattle.shelf_explain.specs.Times.{contents_text, moment_text, rfc_3339}
use Rattle.explained_whole.proofs.Breaks.{no_break, no_comma, unbroken}
use Rattle.explained_whole.proofs.Texts.{Ends, hex_passes, never_nil, one_more, splits}

-- ---- octets

ok_is : (x y : List ℕ) → ◌≡◌ {A = Result (List ℕ) FromHexError} (Ok x) (Ok y) → x ≡ y
ok_is x y e = cc

pub hex_same : (x y : List ℕ) → IsBytes x → IsBytes y → hex_text x ≡ hex_text y → x ≡ y
unfolding hex_text
hex_same x y h k e = ok_is x y (sym (decode_of-encode_lower x h) ∙ ap decode_of e ∙ decode_of-encode_lower y k)

abbrev no_space : ℕ → Bool
no_space c = not (c == 32)

hex_unspaced : (x : List ℕ) → list_all no_space (hex_text x) ≡ true
unfolding hex_text
hex_unspaced x = hex_passes no_space refl refl x

hex_no_comma : (x : List ℕ) → list_all no_comma (hex_text x) ≡ true
unfolding hex_text
hex_no_comma x = hex_passes no_comma refl refl x

in_decimal_ends : (x : List ℕ) → Ends no_space (in_decimal x)
unfolding in_decimal in_parentheses labelled
in_decimal_ends x = cond_both (is_negative x) [] _ (λ (t : List ℕ). Ends no_space t) (λ _. tt) (λ _. refl)

pub serial_same : (x y : List ℕ) → IsBytes x → IsBytes y → serial_text x ≡ serial_text y → x ≡ y
unfolding serial_text hex_number
serial_same x y h k e =
    let f : hex_text x ++ in_decimal x ≡ hex_text y ++ in_decimal y = append_cancel_left (codes "0x") (hex_text x ++ in_decimal x) (hex_text y ++ in_decimal y) e in
    hex_same x y h k
    (splits no_space (hex_text x) (hex_text y) (in_decimal x) (in_decimal y) (hex_unspaced x) (hex_unspaced y) (in_decimal_ends x) (in_decimal_ends y) f).0

-- ---- bit strings

unused_ends : (n : ℕ) → Ends no_comma (unused_text n)
unfolding unused_text labelled
unused_ends n = cond_both (n == 0) [] _ (λ (t : List ℕ). Ends no_comma t) (λ _. tt) (λ _. refl)

some_unused : (n : ℕ) → (n ≡ 0 → ⊥) → unused_text n ≡ codes ", unused bits " ++ decimal n
unfolding unused_text labelled
some_unused n h = rw (ne_eqb n 0 h) refl

none_unused : (n : ℕ) → n ≡ 0 → unused_text n ≡ []
unfolding unused_text
none_unused n h = ap unused_text h

unused_same : (n m : ℕ) → n < 8 → m < 8 → unused_text n ≡ unused_text m → n ≡ m
unused_same n m h k e = elim (cases_eq n 0) [
  | inl a ↦ elim (cases_eq m 0) [
    | inl b ↦ a ∙ sym b
    | inr b ↦ absurd (never_nil 44 (codes " unused bits " ++ decimal m) (sym (none_unused n a) ∙ e ∙ some_unused m b))
  ]
  | inr a ↦ elim (cases_eq m 0) [
    | inl b ↦ absurd (never_nil 44 (codes " unused bits " ++ decimal n) (sym (none_unused m b) ∙ sym e ∙ some_unused n a))
    | inr b ↦ decimal_injective n m (omega arith) (omega arith)
        (append_cancel_left (codes ", unused bits ") (decimal n) (decimal m) (sym (some_unused n a) ∙ e ∙ some_unused m b))
  ]
]

pub bits_same : (a b : Bits) → IsBytes a.bytes → IsBytes b.bytes → a.unused < 8 → b.unused < 8 → bits_text a ≡ bits_text b → a ≡ b
unfolding bits_text
bits_same a b h k m n e =
    let q = splits no_comma (hex_text a.bytes) (hex_text b.bytes) (unused_text a.unused) (unused_text b.unused) (hex_no_comma a.bytes) (hex_no_comma b.bytes)
    (unused_ends a.unused) (unused_ends b.unused) e in
    let x = hex_same a.bytes b.bytes h k q.0 in
    let y = unused_same a.unused b.unused m n q.1 in
    λ i. record { bytes = x i; unused = y i }

-- ---- versions

abbrev first_or_0 : List ℕ → ℕ
first_or_0 [] = 0
first_or_0 (c ∷ x) = c

low_version : (n : ℕ) → n ≤ 2 → first_or_0 (version_text (version_of n)) ≡ 49 + n
unfolding version_text
low_version zero l = refl
low_version (suc zero) l = refl
low_version (suc (suc zero)) l = refl
low_version (suc (suc (suc n))) l = absurd (omega arith)

high_version : (n : ℕ) → 2 < n → version_text (version_of n) ≡ codes "number " ++ decimal n
unfolding version_text labelled
high_version n l =
    rw (ne_eqb n 0 (λ (e : n ≡ 0). omega arith), ne_eqb n 1 (λ (e : n ≡ 1). omega arith), ne_eqb n 2 (λ (e : n ≡ 2). omega arith)) refl

apart : (n m : ℕ) → n ≤ 2 → 2 < m → version_text (version_of n) ≡ version_text (version_of m) → ⊥
apart n m l h e =
    let f : 49 + n ≡ 110 = sym (low_version n l) ∙ ap first_or_0 (e ∙ high_version m h) in
    omega arith

number_same : (n m : ℕ) → n < 2 ^ 64 → m < 2 ^ 64 → version_text (version_of n) ≡ version_text (version_of m) → n ≡ m
number_same n m h k e = elim (cases_lt 2 n) [
  | inl a ↦ elim (cases_lt 2 m) [
    | inl b ↦ decimal_injective n m h k (append_cancel_left (codes "number ") (decimal n) (decimal m) (sym (high_version n a) ∙ e ∙ high_version m b))
    | inr b ↦ absurd (apart m n b a (sym e))
  ]
  | inr a ↦ elim (cases_lt 2 m) [
    | inl b ↦ absurd (apart n m a b e)
    | inr b ↦ (let f : 49 + n ≡ 49 + m = sym (low_version n a) ∙ ap first_or_0 e ∙ low_version m b in omega arith)
  ]
]

pub version_same : (a b : Version) → raw_value a < 2 ^ 64 → raw_value b < 2 ^ 64 → version_text a ≡ version_text b → a ≡ b
version_same a b h k e = ap version_of (number_same (raw_value a) (raw_value b) h k e)

-- ---- times

-- the digits of a time alone
abbrev unspread : List ℕ → List ℕ
unspread t = take 4 t ++ take 2 (drop 5 t) ++ take 2 (drop 8 t) ++ take 2 (drop 11 t) ++ take 2 (drop 14 t) ++ drop 17 t

unspread_back : (a b c d e f g h i j k l : ℕ) (rest : List ℕ)
    → unspread (rfc_3339 (a ∷ b ∷ c ∷ d ∷ e ∷ f ∷ g ∷ h ∷ i ∷ j ∷ k ∷ l ∷ rest)) ≡ a ∷ b ∷ c ∷ d ∷ e ∷ f ∷ g ∷ h ∷ i ∷ j ∷ k ∷ l ∷ rest
unfolding rfc_3339
unspread_back a b c d e f g h i j k l rest = refl

-- the contents octets of a time whose year has four digits
abbrev spelled : DateTime → List ℕ
spelled at = two_digits (year_of at / 100) ++ twelve_digits at ++ fraction at.time.subsec_nanosecond ++ 90 ∷ []

contents_are : (t : GeneralizedTime) → is_four_digit_year t.at ≡ true → generalized_time_to t ≡ Some (spelled t.at)
contents_are t h = ap (λ (b : Bool). cond b (Some (spelled t.at)) None) h

text_is : (t : GeneralizedTime) → is_four_digit_year t.at ≡ true → moment_text t ≡ rfc_3339 (spelled t.at)
unfolding moment_text generalized_time_contents contents_text
text_is t h = ap contents_text (contents_are t h)

spelled_back : (at : DateTime) → unspread (rfc_3339 (spelled at)) ≡ spelled at
spelled_back at = unspread_back _ _ _ _ _ _ _ _ _ _ _ _ _

moment_same : (t u : GeneralizedTime) → is_four_digit_year t.at ≡ true → is_four_digit_year u.at ≡ true → moment_text t ≡ moment_text u → t ≡ u
moment_same t u h k e =
    let f : rfc_3339 (spelled t.at) ≡ rfc_3339 (spelled u.at) = sym (text_is t h) ∙ e ∙ text_is u k in
    let g : spelled t.at ≡ spelled u.at = sym (spelled_back t.at) ∙ ap unspread f ∙ spelled_back u.at in
    some_is t u
    (sym (generalized_time_back t (spelled u.at) (contents_are t h ∙ ap (λ (x : List ℕ). Some x) g)) ∙ generalized_time_back u (spelled u.at) (contents_are u k))

abbrev as_general : Time → GeneralizedTime
as_general t = record { at = moment_of t }

later : (z : ℤ) → int_le (pos 1950) z ≡ true → int_le (pos 0) z ≡ true
later (pos n) h = le-leb 0 n (omega arith)
later (negsuc n) h = absurd cc

-- a time that has an encoding has a year of four digits
pub has_year : (t : Time) → time.has_tree t ≡ true → is_four_digit_year (moment_of t) ≡ true
has_year (Utc t) h =
    let years = (and_true (is_utc_time_year t.at) (t.at.time.subsec_nanosecond == 0) h).0 in
    later t.at.date.year (and_true (int_le (pos 1950) t.at.date.year) (int_le t.at.date.year (pos 2049)) years).0
has_year (General t) h = h

time_is : (t : Time) → time_text t ≡ moment_text (as_general t)
unfolding time_text
time_is (Utc t) = refl
time_is (General t) = refl

pub time_same : (t u : Time) → time.has_tree t ≡ true → time.has_tree u ≡ true → time_text t ≡ time_text u → moment_of t ≡ moment_of u
time_same t u h k e =
    ap (λ (x : GeneralizedTime). x.at)
    (moment_same (as_general t) (as_general u) (has_year t h) (has_year u k) (sym (time_is t) ∙ e ∙ time_is u))

-- ---- times have no line break

digit_unbroken : (n : ℕ) (rest : List ℕ) → unbroken rest → unbroken ((48 + n) ∷ rest)
digit_unbroken n rest h = one_more no_break (48 + n) rest (ap not (ne_eqb (48 + n) 10 (λ (e : 48 + n ≡ 10). omega arith))) h

digits_unbroken : (k n : ℕ) (rest : List ℕ) → unbroken rest → unbroken (fraction_digits k n ++ rest)
unfolding fraction_digits
digits_unbroken zero n rest h = h
digits_unbroken (suc k) n rest h =
    cond_both (n == 0) [] ((48 + n / 10 ^ k) ∷ fraction_digits k (n % 10 ^ k)) (λ (t : List ℕ). unbroken (t ++ rest)) (λ _. h)
    (λ _. digit_unbroken (n / 10 ^ k) (fraction_digits k (n % 10 ^ k) ++ rest) (digits_unbroken k (n % 10 ^ k) rest h))

fraction_unbroken : (n : ℕ) → unbroken (fraction n ++ 90 ∷ [])
fraction_unbroken n =
    cond_both (n == 0) [] (46 ∷ fraction_digits 9 n) (λ (t : List ℕ). unbroken (t ++ 90 ∷ [])) (λ _. refl)
    (λ _. one_more no_break 46 (fraction_digits 9 n ++ 90 ∷ []) refl (digits_unbroken 9 n (90 ∷ []) refl))

spread_unbroken : (a b c d e f g h i j k l m n : ℕ) (rest : List ℕ) → unbroken rest
    → unbroken (rfc_3339 ((48 + a) ∷ (48 + b) ∷ (48 + c) ∷ (48 + d) ∷ (48 + e) ∷ (48 + f) ∷ (48 + g) ∷ (48 + h) ∷ (48 + i) ∷ (48 + j) ∷ (48 + k) ∷ (48 + l) ∷ (48 + m) ∷ (48 + n) ∷ rest))
unfolding rfc_3339
spread_unbroken a b c d e f g h i j k l m n rest z =
    let s13 : List ℕ = (48 + m) ∷ (48 + n) ∷ rest in
    let s11 : List ℕ = (48 + k) ∷ (48 + l) ∷ 58 ∷ s13 in
    let s9 : List ℕ = (48 + i) ∷ (48 + j) ∷ 58 ∷ s11 in
    let s7 : List ℕ = (48 + g) ∷ (48 + h) ∷ 84 ∷ s9 in
    let s5 : List ℕ = (48 + e) ∷ (48 + f) ∷ 45 ∷ s7 in
    let u13 : unbroken s13 = digit_unbroken m ((48 + n) ∷ rest) (digit_unbroken n rest z) in
    let u11 : unbroken s11 = digit_unbroken k ((48 + l) ∷ 58 ∷ s13) (digit_unbroken l (58 ∷ s13) u13) in
    let u9 : unbroken s9 = digit_unbroken i ((48 + j) ∷ 58 ∷ s11) (digit_unbroken j (58 ∷ s11) u11) in
    let u7 : unbroken s7 = digit_unbroken g ((48 + h) ∷ 84 ∷ s9) (digit_unbroken h (84 ∷ s9) u9) in
    let u5 : unbroken s5 = digit_unbroken e ((48 + f) ∷ 45 ∷ s7) (digit_unbroken f (45 ∷ s7) u7) in
    digit_unbroken a ((48 + b) ∷ (48 + c) ∷ (48 + d) ∷ 45 ∷ s5)
    (digit_unbroken b ((48 + c) ∷ (48 + d) ∷ 45 ∷ s5) (digit_unbroken c ((48 + d) ∷ 45 ∷ s5) (digit_unbroken d (45 ∷ s5) u5)))

some_unbroken : (b : Bool) (x : List ℕ) → unbroken (rfc_3339 x) → unbroken (contents_text (cond b (Some x) None))
unfolding contents_text
some_unbroken true x h = h
some_unbroken false x h = refl

pub moment_unbroken : (t : GeneralizedTime) → unbroken (moment_text t)
unfolding moment_text generalized_time_contents
moment_unbroken t =
    some_unbroken (is_four_digit_year t.at) (spelled t.at)
    (spread_unbroken _ _ _ _ _ _ _ _ _ _ _ _ _ _ (fraction t.at.time.subsec_nanosecond ++ 90 ∷ []) (fraction_unbroken t.at.time.subsec_nanosecond))

pub time_unbroken : (t : Time) → unbroken (time_text t)
time_unbroken t = subst unbroken (sym (time_is t)) (moment_unbroken (as_general t))
