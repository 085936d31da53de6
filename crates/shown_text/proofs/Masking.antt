-- A text that is masked character by character.
use Rattle.std.proofs.Common.{◌≡◌, ◌++◌, ℕ, List, length, ap, sym, ◌∙◌, chars, flat_map, encode_utf8, IsUtf8}
use Rattle.std.proofs.lemmas.List.{append_assoc, append-nil, nil_from_length}
use Rattle.std.proofs.lemmas.Str.{chars_past_char, chars-nil}
use Rattle.shown_text.specs.Hidden.{masked}

-- one more character
pub one_more : (before after whole text rest : List ℕ) (c : ℕ) → IsUtf8 text → text ≡ encode_utf8 c ++ rest → after ≡ before ++ masked c
    → before ++ flat_map masked (chars text) ≡ whole → after ++ flat_map masked (chars rest) ≡ whole
one_more before after whole text rest c u e a h =
    ap (λ (t : List ℕ). t ++ flat_map masked (chars rest)) a
    ∙ append_assoc before (masked c) (flat_map masked (chars rest))
    ∙ ap (λ (cs : List ℕ). before ++ flat_map masked cs) (sym (chars_past_char text rest c u e))
    ∙ h

-- none is left
pub all_masked : (front text whole : List ℕ) → length text ≡ 0 → front ++ flat_map masked (chars text) ≡ whole → front ≡ whole
all_masked front text whole e h =
    sym (append-nil front)
    ∙ ap (λ (cs : List ℕ). front ++ flat_map masked cs) (sym (ap chars (nil_from_length text e) ∙ chars-nil))
    ∙ h
