-- Arcs that are pushed one after another.
use Rattle.std.proofs.Common.{◌≡◌, ℕ, List, [], ◌∷◌, ◌++◌, Option, Some, None, refl, ap, append_assoc}
use Rattle.std.specs.Option.{option_map}

-- the arcs so far, and those after them
abbrev pub followed : List ℕ → Option (List ℕ) → Option (List ℕ)
followed arcs more = option_map (λ more. arcs ++ more) more

pub followed-one : (arcs : List ℕ) (n : ℕ) (more : Option (List ℕ)) → followed (arcs ++ n ∷ []) more ≡ followed arcs (option_map (λ more. n ∷ more) more)
followed-one arcs n None = refl
followed-one arcs n (Some more) = ap Some (append_assoc arcs (n ∷ []) more)

pub followed-none : (more : Option (List ℕ)) → followed [] more ≡ more
followed-none None = refl
followed-none (Some more) = refl

pub ruleset reading = (followed-one, followed-none)
