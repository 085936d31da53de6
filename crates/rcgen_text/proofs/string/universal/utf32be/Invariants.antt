use Rattle.std.proofs.Common.{◌≡◌, ◌++◌, IsUtf8}
use Rattle.std.specs.Str.Iter.{chars_rest}
use Rattle.rcgen_text.specs.Strings.{utf32be}
use Rattle.rcgen_text.proofs.string.universal.utf32be.Given as goal

-- the octets so far, and those of the characters that are left
abbrev pub invariant-loop-character : goal.invariant-loop-character
invariant-loop-character l = IsUtf8 (chars_rest l.character-iterator) × (l.octets.items ++ utf32be (chars_rest l.character-iterator) ≡ utf32be l.text)
