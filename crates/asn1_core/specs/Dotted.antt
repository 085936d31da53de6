-- Arcs in decimal, joined by periods.
use Rattle.std.specs.Prelude.{ℕ, ◌+◌, ◌-◌, ◌*◌, ◌^◌, ◌==◌, min, if◌then◌else◌, List, [], ◌∷◌, Option, Some, None, unwrap_or}
use Rattle.std.specs.Char.{is_ascii_digit}
use Rattle.std.specs.Option.{option_map}
use Rattle.asn1_core.specs.Binds.{◌>>=◌}
use Rattle.asn1_core.specs.OidFaults.{wide_arcs_fault}
use Rattle.asn1_core.specs.declared.object_identifier.OidFault.{OidFault}
use Rattle.asn1_core.specs.declared.object_identifier.OidFault.TheVariants.{BadText}

-- the number with a digit after it; 2 ^ 32 represents each greater one
unfoldable pub with_digit : Option ℕ → ℕ → ℕ
with_digit number digit = min (2 ^ 32) (10 * unwrap_or number 0 + digit)

-- the arcs from here, where the number is that of the first one's digits before here
abbrev pub arcs_from : Option ℕ → List ℕ → Option (List ℕ)
arcs_from number [] = option_map (λ n. n ∷ []) number
arcs_from number (b ∷ rest) =
    if b == 46 then number >>= (λ n. option_map (λ arcs. n ∷ arcs) (arcs_from None rest))
    else if is_ascii_digit b then arcs_from (Some (with_digit number (b - 48))) rest
    else None

-- one period may come first
abbrev pub without_period : List ℕ → List ℕ
without_period [] = []
without_period (b ∷ rest) = if b == 46 then rest else b ∷ rest

unfoldable pub arcs_of_text : List ℕ → Option (List ℕ)
arcs_of_text text = arcs_from None (without_period text)

-- the first fault: the text isn't a list of arcs, or else that of the arcs
abbrev pub arcs_or_fault : Option (List ℕ) → Option OidFault
arcs_or_fault None = Some BadText
arcs_or_fault (Some arcs) = wide_arcs_fault arcs

abbrev pub text_fault : List ℕ → Option OidFault
text_fault text = arcs_or_fault (arcs_of_text text)

-- the arcs of the text, none where it has none
abbrev pub text_arcs : List ℕ → List ℕ
text_arcs text = unwrap_or (arcs_of_text text) []
