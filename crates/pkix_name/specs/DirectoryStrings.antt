-- The text of a DirectoryString (RFC 5280, 4.1.2.4): one of five types of characters.
use Rattle.std.specs.Prelude.{◌≡◌, ℕ, true, ◌⊎◌, List, Option, None, refl}
use Rattle.std.proofs.Common.{inl, inr}
use Rattle.asn1_core.specs.StringTypes.{teletex, printable, universal_string, utf8, bmp}
use Rattle.der_tree.specs.Codec.{Codec}
use Rattle.der_tree.specs.Grammar.{as_choice, either, sized}
use Rattle.der_tree.specs.SequenceOf.{is_within}
use Rattle.pkix_name.specs.declared.directory_string.DirectoryString.{DirectoryString}
use Rattle.pkix_name.specs.declared.directory_string.DirectoryString.TheVariants.{Teletex, Printable, Universal, Utf8, Bmp}

abbrev pub Five : Type 0
Five = List ℕ ⊎ (List ℕ ⊎ (List ℕ ⊎ (List ℕ ⊎ List ℕ)))

-- a text of at least one character, and at most `high`
abbrev pub directory_text : (high : Option ℕ) → is_within 1 high 1 ≡ true → Codec Five
directory_text high room =
    either (sized teletex 1 high room)
    (either (sized printable 1 high room)
    (either (sized universal_string 1 high room)
    (either (sized utf8 1 high room) (sized bmp 1 high room) refl) refl) refl) refl

abbrev pub directory_string_parts : DirectoryString → Five
directory_string_parts (Teletex v) = inl v
directory_string_parts (Printable v) = inr (inl v)
directory_string_parts (Universal v) = inr (inr (inl v))
directory_string_parts (Utf8 v) = inr (inr (inr (inl v)))
directory_string_parts (Bmp v) = inr (inr (inr (inr v)))

abbrev pub directory_string_of : Five → DirectoryString
directory_string_of (inl v) = Teletex v
directory_string_of (inr (inl v)) = Printable v
directory_string_of (inr (inr (inl v))) = Universal v
directory_string_of (inr (inr (inr (inl v)))) = Utf8 v
directory_string_of (inr (inr (inr (inr v)))) = Bmp v

pub directory_string_there : (v : DirectoryString) → directory_string_of (directory_string_parts v) ≡ v
directory_string_there (Teletex v) = refl
directory_string_there (Printable v) = refl
directory_string_there (Universal v) = refl
directory_string_there (Utf8 v) = refl
directory_string_there (Bmp v) = refl

pub directory_string_back : (p : Five) → directory_string_parts (directory_string_of p) ≡ p
directory_string_back (inl v) = refl
directory_string_back (inr (inl v)) = refl
directory_string_back (inr (inr (inl v))) = refl
directory_string_back (inr (inr (inr (inl v)))) = refl
directory_string_back (inr (inr (inr (inr v)))) = refl

abbrev pub directory_string : Codec DirectoryString
directory_string = as_choice (directory_text None refl) directory_string_parts directory_string_of directory_string_there directory_string_back
