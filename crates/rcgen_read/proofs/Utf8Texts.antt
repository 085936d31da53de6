-- Octets that are a text in UTF-8.
use Rattle.std.specs.Prelude.{◌≡◌, ℕ, Bool, true, false, List, Ok, Err, refl}
use Rattle.std.specs.Str.{IsUtf8, is_utf8}
use Rattle.std.proofs.lemmas.Str.{IsUtf8-from_is_utf8, is_utf8-from_IsUtf8}
use Rattle.rcgen_text.specs.Causes.{not_certificate}
use Rattle.rcgen_read.specs.Reading.{not_utf8, unless_cause}

pub text_read : (octets text : List ℕ) → (text ≡ octets) × IsUtf8 octets → unless_cause (not_utf8 octets) octets ≡ Ok text
text_read octets text h = rw (is_utf8-from_IsUtf8 octets h.1, h.0) refl

pub is_utf8_text : (text : List ℕ) → IsUtf8 text → is_utf8 text ≡ true
is_utf8_text text h = is_utf8-from_IsUtf8 text h

not_true : (b : Bool) → (b ≡ true → ⊥) → b ≡ false
not_true true h = absurd (h refl)
not_true false h = refl

pub text_refused : (octets : List ℕ) → ¬ (IsUtf8 octets) → unless_cause (not_utf8 octets) octets ≡ Err not_certificate
text_refused octets h = rw (not_true (is_utf8 octets) (λ e. h (IsUtf8-from_is_utf8 octets e))) refl
