-- Values of attributes: texts of six kinds (RFC 5280, 4.1.2.4).
use Rattle.std.specs.Prelude.{ℕ, Bool, List, nat_eq, string_bytes}
use Rattle.std.specs.Ordering.{on, eq_of_both}
use Rattle.std.specs.Cmp.{IsEquivalence}
use Rattle.std.specs.Cmp.Lexicographic.{pointwise}
use Rattle.std.proofs.lemmas.Cmp.{on_equiv, and_equiv, nat_eq_equiv, nat_list_eq_equiv}
use Rattle.rcgen_text.specs.declared.dn_value.DnValue.{DnValue}
use Rattle.rcgen_text.specs.declared.dn_value.DnValue.TheVariants as values

-- a text: its kind, and its bytes
pub data Text : Type 0 where
  bmp_string : List ℕ → Text
  ia5_string : List ℕ → Text
  printable_string : List ℕ → Text
  teletex_string : List ℕ → Text
  universal_string : List ℕ → Text
  utf8_string : List ℕ → Text

abbrev pub text_of : DnValue → Text
text_of (values.BmpString s) = bmp_string s
text_of (values.Ia5String s) = ia5_string s
text_of (values.PrintableString s) = printable_string s
text_of (values.TeletexString s) = teletex_string s
text_of (values.UniversalString s) = universal_string s
text_of (values.Utf8String s) = utf8_string (string_bytes s)

-- ---- equality, as Rust's `==`

-- the place of a kind among all
abbrev pub text_place : Text → ℕ
text_place (bmp_string b) = 0
text_place (ia5_string b) = 1
text_place (printable_string b) = 2
text_place (teletex_string b) = 3
text_place (universal_string b) = 4
text_place (utf8_string b) = 5

abbrev pub text_bytes : Text → List ℕ
text_bytes (bmp_string b) = b
text_bytes (ia5_string b) = b
text_bytes (printable_string b) = b
text_bytes (teletex_string b) = b
text_bytes (universal_string b) = b
text_bytes (utf8_string b) = b

abbrev pub same_text : Text → Text → Bool
same_text = eq_of_both (on text_place nat_eq) (on text_bytes (pointwise nat_eq))

pub same_text_equiv : IsEquivalence same_text
same_text_equiv = and_equiv (on_equiv text_place nat_eq_equiv) (on_equiv text_bytes nat_list_eq_equiv)
