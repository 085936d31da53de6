-- Sums of the sizes of elements.
use Rattle.std.proofs.Common.{◌≡◌, List, ap, get_or, length, sym, take, ℕ, [], ◌++◌, ◌+◌, ◌<◌, ◌∙◌, ◌∷◌}
use Rattle.std.specs.List.{sum_by}
use Rattle.std.proofs.lemmas.List.{take_more}
use Rattle.std.proofs.lemmas.List.Sums.{sum_by_push}

pub sum_more : {A : Type 0} (f : A → ℕ) (xs : List A) (i : ℕ) (x : A) → i < length xs → x ≡ get_or xs i x
    → sum_by f (take (i + 1) xs) ≡ sum_by f (take i xs) + f x
sum_more {A} f xs i x within is =
    ap (sum_by f) (take_more xs i x within)
    ∙ ap (λ (y : A). sum_by f (take i xs ++ y ∷ [])) (sym is)
    ∙ sum_by_push f (take i xs) x
