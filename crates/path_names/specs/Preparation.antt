-- The preparation of a text that is compared (RFC 4518, 2), as RFC 5280, 7.1 asks for.
use Rattle.std.specs.Prelude.{Bool, List, cond, false, filter, flat_map, nat_le, true, ℕ, ◌&&◌, [], ◌++◌, ◌==◌, ◌∷◌}
use Rattle.std.specs.List.{list_any, slice_split}
use Rattle.asn1_core.specs.StringTypes.{scalar}
use Rattle.ucd_case.specs.CaseFolding.{full_fold}
use Rattle.ucd_normal.specs.declared.forms.Form.TheVariants.{Nfkc}
use Rattle.unicode_normalization.specs.QuickCheck.{Maybe, No, QuickCheck, Yes, quick_check_text}

-- ---- map (2.2)

-- from the first code to the second
abbrev pub is_in : List (ℕ × ℕ) → ℕ → Bool
is_in ranges c = list_any (λ r. nat_le r.0 c && nat_le c r.1) ranges

-- soft hyphens, joiners, selectors of variants, the object replacement character, controls, and the space without width
abbrev pub mapped_to_nothing : List (ℕ × ℕ)
mapped_to_nothing =
    (0x00, 0x08) ∷ (0x0e, 0x1f) ∷ (0x7f, 0x84) ∷ (0x86, 0x9f) ∷ (0xad, 0xad) ∷ (0x34f, 0x34f) ∷ (0x6dd, 0x6dd) ∷ (0x70f, 0x70f) ∷ (0x1806, 0x1806)
    ∷ (0x180b, 0x180e) ∷ (0x200b, 0x200f) ∷ (0x202a, 0x202e) ∷ (0x2060, 0x2063) ∷ (0x206a, 0x206f) ∷ (0xfe00, 0xfe0f) ∷ (0xfeff, 0xfeff)
    ∷ (0xfff9, 0xfffc) ∷ (0x1d173, 0x1d17a) ∷ (0xe0001, 0xe0001) ∷ (0xe0020, 0xe007f) ∷ []

-- tabs, ends of lines, and the other separators of Unicode
abbrev pub mapped_to_space : List (ℕ × ℕ)
mapped_to_space =
    (0x09, 0x0d) ∷ (0x20, 0x20) ∷ (0x85, 0x85) ∷ (0xa0, 0xa0) ∷ (0x1680, 0x1680) ∷ (0x2000, 0x200a) ∷ (0x2028, 0x2029) ∷ (0x202f, 0x202f)
    ∷ (0x205f, 0x205f) ∷ (0x3000, 0x3000) ∷ []

-- full case folding (RFC 3454, B.2), as the Unicode of the crate ucd_case has it. B.2 folds a few more characters, none of which NFKC has,
-- so that a text with one of them isn't prepared here. In place of a code that is no character's, which no valid text has, U+FFFD
abbrev pub folded : ℕ → List ℕ
folded c = cond (scalar c) (full_fold c) (0xfffd ∷ [])

abbrev pub mapped_to : ℕ → List ℕ
mapped_to c = cond (is_in mapped_to_nothing c) [] (cond (is_in mapped_to_space c) (32 ∷ []) (folded c))

abbrev pub mapped : List ℕ → List ℕ
mapped cs = flat_map mapped_to cs

-- ---- normalize (2.3)

abbrev pub is_yes : QuickCheck → Bool
is_yes Yes = true
is_yes No = false
is_yes Maybe = false

-- the quick check of Unicode (UAX 15, 9) says that the mapped text is in NFKC, so that this step leaves it as it is
abbrev pub is_preparable : List ℕ → Bool
is_preparable cs = is_yes (quick_check_text Nfkc (mapped cs))

-- ---- insignificant spaces (2.6.1); one before a combining mark counts as any other

abbrev pub is_space : ℕ → Bool
is_space c = c == 32

abbrev pub is_word : List ℕ → Bool
is_word [] = false
is_word (c ∷ cs) = true

-- what is between spaces
abbrev pub words : List ℕ → List (List ℕ)
words cs = filter is_word (slice_split is_space cs)

-- one space at the beginning and one at the end, and two between words; two where there is no word
abbrev pub spaced : List (List ℕ) → List ℕ
spaced [] = 32 ∷ 32 ∷ []
spaced (word ∷ others) = 32 ∷ word ++ flat_map (λ w. 32 ∷ 32 ∷ w) others ++ 32 ∷ []

-- the text as RFC 4518 prepares it, where `is_preparable`. Nothing is prohibited (2.4), and the check of direction (2.5) does nothing
abbrev pub prepared : List ℕ → List ℕ
prepared cs = spaced (words (mapped cs))
