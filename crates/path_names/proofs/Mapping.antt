-- The characters of a text when it is mapped.
use Rattle.std.proofs.Common.{◌≡◌, ℕ, ◌<◌, List, [], ◌∷◌, length, true, arith, refl}
use Rattle.ucd_normal.specs.declared.forms.Form.TheVariants.{Nfkc}
use Rattle.unicode_normalization.proofs.FormsLemmas.{quick_check_text-Yes}
use Rattle.unicode_normalization.specs.Forms.{nfkc}
use Rattle.unicode_normalization.specs.QuickCheck.{Maybe, No, QuickCheck, Yes, quick_check_text}
use Rattle.path_names.specs.Preparation.{is_preparable, is_yes, mapped}

pub none_in_front : (queue : List ℕ) → length queue < 1 → queue ≡ []
none_in_front [] h = refl
none_in_front (c ∷ cs) h = absurd (omega arith)

yes : (answer : QuickCheck) → is_yes answer ≡ true → answer ≡ Yes
yes Yes h = refl
yes No h = absurd cc
yes Maybe h = absurd cc

pub normal : (cs : List ℕ) → is_preparable cs ≡ true → nfkc (mapped cs) ≡ mapped cs
normal cs h = quick_check_text-Yes Nfkc (mapped cs) (yes (quick_check_text Nfkc (mapped cs)) h)
