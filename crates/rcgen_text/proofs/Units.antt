-- Characters of two and of four octets.
use Rattle.std.proofs.Common.{◌≡◌, ℕ, ◌+◌, ◌*◌, ◌/◌, ◌%◌, ◌^◌, ◌<◌, true, nat_lt, List, [], ◌∷◌, ◌++◌, length, refl, arith, ap, ◌∙◌}
use Rattle.std.proofs.Common.{append_assoc, append-nil, IsUtf8, chars, sym, subst, eq-eqb}
use Rattle.std.specs.List.{flat_map, list_all}
use Rattle.std.specs.Str.{all_scalars}
use Rattle.std.proofs.Math.Utf8.{scalar_fits}
use Rattle.std.proofs.lemmas.Bool.{ltb-true}
use Rattle.std.proofs.lemmas.Str.{scalars-chars, chars_past_char, chars-nil}
use Rattle.std.proofs.lemmas.List.{nil_from_length}
use Rattle.std.specs.Prelude.{encode_utf8}
use Rattle.asn1_core.specs.Binds.{and_true, true_and}
use Rattle.rcgen_text.specs.Strings.{is_bmp_code, is_bmp, two_octets, fits_bmp, utf16be, is_universal, four_octets, utf32be}
use Rattle.asn1_core.specs.StringTypes.{scalar, pairs, quads}

pub pairs_end : (octets : List ℕ) → length octets < 2 → pairs octets ≡ []
pairs_end [] h = refl
pairs_end (a ∷ []) h = refl
pairs_end (a ∷ b ∷ rest) h = absurd (omega arith)

pub quads_end : (octets : List ℕ) → length octets < 4 → quads octets ≡ []
quads_end [] h = refl
quads_end (a ∷ []) h = refl
quads_end (a ∷ b ∷ []) h = refl
quads_end (a ∷ b ∷ c ∷ []) h = refl
quads_end (a ∷ b ∷ c ∷ d ∷ rest) h = absurd (omega arith)

even : (codes : List ℕ) → length (flat_map two_octets codes) % 2 ≡ 0
even [] = refl
even (c ∷ cs) = let h = even cs in omega (arith, h)

bmp_codes : (codes : List ℕ) → all_scalars codes ≡ true → list_all (λ code. nat_lt code 65535) codes ≡ true
    → list_all is_bmp_code (pairs (flat_map two_octets codes)) ≡ true
bmp_codes [] s b = refl
bmp_codes (c ∷ cs) s b =
    let here = and_true (scalar c) (all_scalars cs) s in
    let low = and_true (nat_lt c 65535) (list_all (λ code. nat_lt code 65535) cs) b in
    let below : c < 65535 = ltb-true c 65535 low.0 in
    let same : 2 ^ 8 * (c / 2 ^ 8 % 2 ^ 8) + c % 2 ^ 8 ≡ c = omega (arith, below) in
    true_and (is_bmp_code (2 ^ 8 * (c / 2 ^ 8 % 2 ^ 8) + c % 2 ^ 8)) (list_all is_bmp_code (pairs (flat_map two_octets cs)))
    (subst (λ (x : ℕ). is_bmp_code x ≡ true) (sym same) (true_and (scalar c) (nat_lt c 65535) here.0 low.0))
    (bmp_codes cs here.1 low.1)

-- a text that fits is one of a BMPString
pub bmp_text : (text : List ℕ) → IsUtf8 text → fits_bmp text ≡ true → is_bmp (utf16be text) ≡ true
bmp_text text u f =
    let e = eq-eqb (length (utf16be text) % 2) 0 (even (chars text)) in
    let h = bmp_codes (chars text) (scalars-chars text u) f in
    rw (e, h) refl

fours : (codes : List ℕ) → length (flat_map four_octets codes) % 4 ≡ 0
fours [] = refl
fours (c ∷ cs) = let h = fours cs in omega (arith, h)

universal_codes : (codes : List ℕ) → all_scalars codes ≡ true → list_all scalar (quads (flat_map four_octets codes)) ≡ true
universal_codes [] s = refl
universal_codes (c ∷ cs) s =
    let here = and_true (scalar c) (all_scalars cs) s in
    let below = scalar_fits c here.0 in
    let same : 2 ^ 24 * (c / 2 ^ 24) + 2 ^ 16 * (c / 2 ^ 16 % 2 ^ 8) + 2 ^ 8 * (c / 2 ^ 8 % 2 ^ 8) + c % 2 ^ 8 ≡ c = omega (arith, below) in
    true_and (scalar (2 ^ 24 * (c / 2 ^ 24) + 2 ^ 16 * (c / 2 ^ 16 % 2 ^ 8) + 2 ^ 8 * (c / 2 ^ 8 % 2 ^ 8) + c % 2 ^ 8))
    (list_all scalar (quads (flat_map four_octets cs)))
    (subst (λ (x : ℕ). scalar x ≡ true) (sym same) here.0)
    (universal_codes cs here.1)

-- each text is one of a UniversalString
pub universal_text : (text : List ℕ) → IsUtf8 text → is_universal (utf32be text) ≡ true
universal_text text u =
    let e = eq-eqb (length (utf32be text) % 4) 0 (fours (chars text)) in
    let h = universal_codes (chars text) (scalars-chars text u) in
    rw (e, h) refl

-- ---- a text that is written character by character

pub utf16be_step : (text rest : List ℕ) (c : ℕ) → IsUtf8 text → text ≡ encode_utf8 c ++ rest → utf16be text ≡ two_octets c ++ utf16be rest
utf16be_step text rest c u e = ap (flat_map two_octets) (chars_past_char text rest c u e)

pub utf32be_step : (text rest : List ℕ) (c : ℕ) → IsUtf8 text → text ≡ encode_utf8 c ++ rest → utf32be text ≡ four_octets c ++ utf32be rest
utf32be_step text rest c u e = ap (flat_map four_octets) (chars_past_char text rest c u e)

no_characters : (text : List ℕ) → length text ≡ 0 → chars text ≡ []
no_characters text e = ap chars (nil_from_length text e) ∙ chars-nil

pub all_written : (octets_of : ℕ → List ℕ) (front text whole : List ℕ) → length text ≡ 0 → front ++ flat_map octets_of (chars text) ≡ whole → front ≡ whole
all_written octets_of front text whole e h = sym (append-nil front) ∙ rw (no_characters text e) at h

pub two_more : (front rest whole : List ℕ) (a b : ℕ) → front ++ a ∷ b ∷ rest ≡ whole → ((front ++ a ∷ []) ++ b ∷ []) ++ rest ≡ whole
two_more front rest whole a b h =
    append_assoc (front ++ a ∷ []) (b ∷ []) rest ∙ append_assoc front (a ∷ []) (b ∷ rest) ∙ h

pub four_more : (front rest whole : List ℕ) (a b c d : ℕ) → front ++ a ∷ b ∷ c ∷ d ∷ rest ≡ whole
    → ((((front ++ a ∷ []) ++ b ∷ []) ++ c ∷ []) ++ d ∷ []) ++ rest ≡ whole
four_more front rest whole a b c d h =
    two_more ((front ++ a ∷ []) ++ b ∷ []) rest whole c d (two_more front (c ∷ d ∷ rest) whole a b h)

pub ruleset two = (pairs_end)

pub ruleset four = (quads_end)
