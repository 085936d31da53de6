-- Texts that strings of restricted character sets take. They are in UTF-8 here.
use Rattle.std.specs.Prelude.{ℕ, Bool, if◌then◌else◌, List, Option, Some, None}
use Rattle.std.specs.List.{list_all}
use Rattle.rcgen_text.specs.Strings.{fits_bmp, utf16be}

-- the text, where each of its characters is in the set of ASCII characters
unfoldable pub text_in_set : (ℕ → Bool) → List ℕ → Option (List ℕ)
text_in_set is_character text = if list_all is_character text then Some text else None

-- the text in UTF-16BE, where no character is above U+FFFE
unfoldable pub text_in_bmp : List ℕ → Option (List ℕ)
text_in_bmp text = if fits_bmp text then Some (utf16be text) else None
