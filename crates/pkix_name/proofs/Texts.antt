-- Texts in UTF-8, character by character.
use Rattle.std.proofs.Common.{◌≡◌, ℕ, List, [], ◌∷◌, ◌++◌, length, ap, ◌∙◌, IsUtf8, chars}
use Rattle.std.proofs.lemmas.Str.{chars_past_char, chars-nil}
use Rattle.std.proofs.lemmas.List.{nil_from_length}
use Rattle.std.specs.Prelude.{encode_utf8}

pub first : (text rest : List ℕ) (c : ℕ) → IsUtf8 text → text ≡ encode_utf8 c ++ rest → chars text ≡ c ∷ chars rest
first text rest c u e = chars_past_char text rest c u e

pub none : (text : List ℕ) → length text ≡ 0 → chars text ≡ []
none text e = ap chars (nil_from_length text e) ∙ chars-nil
