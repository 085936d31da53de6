-- Bytes that are joined.
use Rattle.std.proofs.Common.{◌≡◌, ℕ, List, [], ◌∷◌, ◌++◌, sym, ap, ◌∙◌, append_assoc, append-nil}
use Rattle.std.proofs.lemmas.List.{take_more, take_all}
use Rattle.std.specs.List.{concat}

pub concat-one_more : (xs : List (List ℕ)) (x : List ℕ) → concat (xs ++ x ∷ []) ≡ concat xs ++ x
concat-one_more [] x = append-nil x
concat-one_more (y ∷ xs) x = ap (λ (t : List ℕ). y ++ t) (concat-one_more xs x) ∙ sym (append_assoc y (concat xs) x)

pub ruleset joining = (take_more, take_all, concat-one_more)
