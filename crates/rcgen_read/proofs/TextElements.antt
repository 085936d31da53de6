-- Texts and the elements that show them.
use Rattle.std.specs.Prelude.{◌≡◌, ℕ, ◌^◌, Bool, true, false, cond, ◌||◌, ◌==◌, nat_lt, List, [], ◌∷◌, Option, Some, None, Result, Ok, Err, refl}
use Rattle.std.specs.Char.{is_ascii}
use Rattle.std.specs.Int.{is_in_range}
use Rattle.std.specs.List.{list_all}
use Rattle.std.specs.Str.{is_utf8}
use Rattle.std.proofs.Common.{ap, arith, sym, subst, eqb-true, ◌∙◌}
use Rattle.asn1_core.specs.Binds.{and_true, true_and}
use Rattle.asn1_core.specs.StringTypes.{is_printable}
use Rattle.asn1_core.specs.declared.tag.Tag.{Tag}
use Rattle.der_tree.specs.Element.{Element, element_octets, one_element}
use Rattle.der_tree.specs.Tags.{same_tag, universal}
use Rattle.der_tree.specs.laws.Element.{one_element_again}
use Rattle.der_tree.specs.laws.Tags.{same_tag_is}
use Rattle.rcgen_text.specs.Causes.{Cause, not_certificate}
use Rattle.rcgen_text.specs.DnValues.{Text, bmp_string, ia5_string, printable_string, teletex_string, universal_string, utf8_string, text_bytes}
use Rattle.rcgen_text.specs.Strings.{is_ia5, is_teletex}
use Rattle.rcgen_certificate.specs.NameValues.{text_number, text_element}
use Rattle.rcgen_read.specs.NameReading.{read_contents, read_text}
use Rattle.rcgen_read.specs.NamesReadBack.{has_its_characters, is_slice}
use Rattle.rcgen_read.specs.Reading.{unless_cause}
use Rattle.rcgen_read.proofs.EachRead.{ok_is}
use Rattle.rcgen_read.proofs.Ia5Texts.{utf8_of_ascii}

-- ---- characters of a set of ASCII

either : (a b : Bool) (P : Type 0) → (a ≡ true → P) → (b ≡ true → P) → (a || b) ≡ true → P
either true b P f g h = f refl
either false b P f g h = g h

below : (low high c : ℕ) → nat_lt high 128 ≡ true → is_in_range low high c ≡ true → is_ascii c ≡ true
below low high c h e = grind arith

equal : (n c : ℕ) → nat_lt n 128 ≡ true → (c == n) ≡ true → is_ascii c ≡ true
equal n c h e = ap is_ascii (eqb-true c n e) ∙ h

teletex_ascii : (c : ℕ) → is_teletex c ≡ true → is_ascii c ≡ true
teletex_ascii c h = below 32 127 c refl h

printable_ascii : (c : ℕ) → is_printable c ≡ true → is_ascii c ≡ true
printable_ascii c h =
    either _ _ _ (either _ _ _ (either _ _ _ (below 48 57 c refl) (below 65 90 c refl)) (below 97 122 c refl))
    (either _ _ _ (either _ _ _ (either _ _ _ (either _ _ _ (either _ _ _ (equal 32 c refl) (below 39 41 c refl)) (below 43 47 c refl))
    (equal 58 c refl)) (equal 61 c refl)) (equal 63 c refl)) h

each_ascii : (p : ℕ → Bool) → ((c : ℕ) → p c ≡ true → is_ascii c ≡ true) → (octets : List ℕ) → list_all p octets ≡ true → list_all is_ascii octets ≡ true
each_ascii p f [] h = refl
each_ascii p f (x ∷ xs) h = let q = and_true _ _ h in true_and _ _ (f x q.0) (each_ascii p f xs q.1)

utf8_of : (p : ℕ → Bool) → ((c : ℕ) → p c ≡ true → is_ascii c ≡ true) → (octets : List ℕ) → list_all p octets ≡ true → is_utf8 octets ≡ true
utf8_of p f octets h = utf8_of_ascii octets (each_ascii p f octets h)

-- ---- from a text to its element, and back

shown_again : (x : Text) → has_its_characters x ≡ true → read_text (text_element x) ≡ Ok x
shown_again (utf8_string octets) h = rw h refl
shown_again (printable_string octets) h = rw (h, utf8_of is_printable printable_ascii octets h) refl
shown_again (teletex_string octets) h = rw (h, utf8_of is_teletex teletex_ascii octets h) refl
shown_again (ia5_string octets) h = rw (h, utf8_of is_ia5 (λ c e. e) octets h) refl
shown_again (universal_string octets) h = rw h refl
shown_again (bmp_string octets) h = rw h refl

small_number : (x : Text) → nat_lt (text_number x) (2 ^ 32) ≡ true
small_number (utf8_string octets) = refl
small_number (printable_string octets) = refl
small_number (teletex_string octets) = refl
small_number (ia5_string octets) = refl
small_number (universal_string octets) = refl
small_number (bmp_string octets) = refl

-- the element of a text is one, and shows the text
pub text_again : (x : Text) → has_its_characters x ≡ true → is_slice (text_bytes x) ≡ true
    → (one_element (element_octets (text_element x)) ≡ Some (text_element x)) × (read_text (text_element x) ≡ Ok x)
text_again x h k = (one_element_again (text_element x) (true_and _ _ (small_number x) k), shown_again x h)

-- ---- from an element to its text, and back

abbrev Shows : Tag → List ℕ → Text → Type 0
Shows g octets y = (universal (text_number y) ≡ g) × (text_bytes y ≡ octets)

module _ (g : Tag) (octets : List ℕ) (y : Text) where
  unless : (fault : Option Cause) (x : Text) → unless_cause fault x ≡ Ok y → x ≡ y
  unless None x e = ok_is x y e
  unless (Some c) x e = absurd cc

  chosen_row : (b : Bool) (n : ℕ) (fault : Option Cause) (x : Text) (rest : Result Text Cause) → b ≡ same_tag g (universal n) → text_number x ≡ n
      → text_bytes x ≡ octets → (rest ≡ Ok y → Shows g octets y) → cond b (unless_cause fault x) rest ≡ Ok y → Shows g octets y
  chosen_row true n fault x rest b number bytes go e =
      let same : x ≡ y = unless fault x e in
      subst (Shows g octets) same (ap universal number ∙ sym (same_tag_is g (universal n) (sym b)), bytes)
  chosen_row false n fault x rest b number bytes go e = go e

  row : (n : ℕ) (fault : Option Cause) (x : Text) (rest : Result Text Cause) → text_number x ≡ n → text_bytes x ≡ octets
      → (rest ≡ Ok y → Shows g octets y) → cond (same_tag g (universal n)) (unless_cause fault x) rest ≡ Ok y → Shows g octets y
  row n fault x rest number bytes go e = chosen_row (same_tag g (universal n)) n fault x rest refl number bytes go e

  contents_back : read_contents g octets ≡ Ok y → Shows g octets y
  contents_back e =
      row 12 _ (utf8_string octets) _ refl refl
      (row 19 _ (printable_string octets) _ refl refl
      (row 20 _ (teletex_string octets) _ refl refl
      (row 22 _ (ia5_string octets) _ refl refl
      (row 28 _ (universal_string octets) _ refl refl
      (row 30 _ (bmp_string octets) _ refl refl (λ h. absurd cc)))))) e

shown_back : (g : Tag) (b : Bool) (octets : List ℕ) (y : Text) → cond b (Err not_certificate) (read_contents g octets) ≡ Ok y
    → text_element y ≡ record { tag = g; constructed = b; content = octets }
shown_back g true octets y e = absurd cc
shown_back g false octets y e = let s = contents_back g octets y e in rw (s.0, s.1) refl

-- the text that an element shows is written as that element
pub text_back : (s : Element) (y : Text) → read_text s ≡ Ok y → text_element y ≡ s
text_back s y e = shown_back s.tag s.constructed s.content y e
