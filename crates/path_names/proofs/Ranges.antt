-- Ranges of addresses.
use Rattle.std.specs.Prelude.{◌≡◌, List, drop, false, length, ℕ, ◌<◌, ◌≤◌, [], ◌∷◌, refl}
use Rattle.std.proofs.Common.{arith}
use Rattle.std.proofs.lemmas.List.{length-drop}
use Rattle.path_names.specs.NameForms.{same_under}

short_base : (xs bs ms : List ℕ) → 1 ≤ length xs → length bs < 1 → same_under xs bs ms ≡ false
short_base [] bs ms h g = absurd (omega arith)
short_base (a ∷ xs) [] ms h g = refl
short_base (a ∷ xs) (b ∷ bs) ms h g = absurd (omega arith)

short_mask : (xs bs ms : List ℕ) → 1 ≤ length xs → length ms < 1 → same_under xs bs ms ≡ false
short_mask [] bs ms h g = absurd (omega arith)
short_mask (a ∷ xs) [] ms h g = refl
short_mask (a ∷ xs) (b ∷ bs) [] h g = refl
short_mask (a ∷ xs) (b ∷ bs) (m ∷ ms) h g = absurd (omega arith)

-- the address goes on where the base, or the mask, has ended
pub base_ends : (xs bs ms : List ℕ) (i : ℕ) → i < length xs → length bs < 1 → same_under (drop i xs) bs ms ≡ false
base_ends xs bs ms i h g = short_base (drop i xs) bs ms (let l = length-drop i xs in omega (arith, l, h)) g

pub mask_ends : (xs bs ms : List ℕ) (i : ℕ) → i < length xs → length ms < 1 → same_under (drop i xs) bs ms ≡ false
mask_ends xs bs ms i h g = short_mask (drop i xs) bs ms (let l = length-drop i xs in omega (arith, l, h)) g
