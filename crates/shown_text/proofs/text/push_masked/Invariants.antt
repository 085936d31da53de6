use Rattle.std.proofs.Common.{◌≡◌, ◌++◌, IsUtf8, chars, flat_map, string_bytes}
use Rattle.std.specs.Str.Iter.{chars_rest}
use Rattle.shown_text.specs.Hidden.{masked}
use Rattle.shown_text.proofs.text.push_masked.Given as goal

-- the text so far, and the characters that are left
abbrev pub invariant-loop-character : goal.invariant-loop-character
invariant-loop-character l =
    IsUtf8 (chars_rest l.character-iterator)
    × (string_bytes l.text ++ flat_map masked (chars (chars_rest l.character-iterator)) ≡ string_bytes l.initial.text ++ flat_map masked (chars l.shown))
