-- A text of one block is read as that block.
use Rattle.std.proofs.Common.{◌≡◌, ℕ, true, List, [], ◌∷◌, Ok, append-nil, refl, subst}
use Rattle.base64.specs.GeneralPurpose.{IsBytes}
use Rattle.pem.specs.Abnf.{is_label}
use Rattle.pem.specs.Blocks.{blocks, read_lines}
use Rattle.pem.specs.RoundTrip.{ReadBack}
use Rattle.pem.specs.Text.{pem_text}

none : blocks [] ≡ Ok []
unfolding blocks read_lines
none = refl

pub read_alone : (label octets : List ℕ) → ReadBack → is_label label ≡ true → IsBytes octets
    → blocks (pem_text label octets) ≡ Ok (record { label = label; octets = octets } ∷ [])
read_alone label octets back l b =
    subst (λ (text : List ℕ). blocks text ≡ Ok (record { label = label; octets = octets } ∷ [])) (append-nil (pem_text label octets))
    (back label octets [] [] [] [] l b refl none none)
