-- What is read one after another.
use Rattle.std.proofs.Common.{◌≡◌, List, [], ◌∷◌, ◌++◌, Option, Some, None, refl, ap, append_assoc}
use Rattle.std.specs.Option.{option_map}

-- what is there so far, and what comes after it
abbrev pub behind : {A : Type 0} → List A → Option (List A) → Option (List A)
behind front more = option_map (λ more. front ++ more) more

pub behind-more : {A : Type 0} (front given : List A) (more : Option (List A))
    → behind (front ++ given) more ≡ behind front (option_map (λ more. given ++ more) more)
behind-more front given None = refl
behind-more front given (Some more) = ap Some (append_assoc front given more)

pub behind-one : {A : Type 0} (front : List A) (x : A) (more : Option (List A))
    → behind (front ++ x ∷ []) more ≡ behind front (option_map (λ more. x ∷ more) more)
behind-one front x None = refl
behind-one front x (Some more) = ap Some (append_assoc front (x ∷ []) more)

pub behind-none : {A : Type 0} (more : Option (List A)) → behind [] more ≡ more
behind-none None = refl
behind-none (Some more) = refl

pub ruleset reading = (behind-more, behind-one, behind-none)
