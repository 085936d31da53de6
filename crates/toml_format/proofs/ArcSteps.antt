-- Arcs that are pushed one after another.
use Rattle.std.proofs.Common.{◌≡◌, ℕ, List, [], ◌∷◌, ◌++◌, Option, Some, None, refl, ap, append_assoc}
use Rattle.std.specs.Option.{option_map}

-- the arcs so far, and those after them
abbrev pub behind : List ℕ → Option (List ℕ) → Option (List ℕ)
behind arcs more = option_map (λ more. arcs ++ more) more

pub behind-one : (arcs : List ℕ) (n : ℕ) (more : Option (List ℕ))
    → behind (arcs ++ n ∷ []) more ≡ behind arcs (option_map (λ more. n ∷ more) more)
behind-one arcs n None = refl
behind-one arcs n (Some more) = ap Some (append_assoc arcs (n ∷ []) more)

pub behind-none : (more : Option (List ℕ)) → behind [] more ≡ more
behind-none None = refl
behind-none (Some more) = refl

pub ruleset reading = (behind-one, behind-none)
