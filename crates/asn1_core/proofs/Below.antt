-- Lists of numbers below a limit.
use Rattle.std.proofs.Common.{◌≡◌, ℕ, ◌<◌, suc, true, List, [], ◌∷◌, get_or, refl}
use Rattle.std.proofs.lemmas.Bool.{lt-ltb}
use Rattle.std.specs.Prelude.{nat_lt}
use Rattle.asn1_core.specs.Arcs.{are_below}
use Rattle.asn1_core.specs.Binds.{true_and}

pub are_below_each : (limit : ℕ) (xs : List ℕ) → ((k : ℕ) → get_or xs k 0 < limit) → are_below limit xs ≡ true
are_below_each limit [] h = refl
are_below_each limit (x ∷ xs) h = true_and (nat_lt x limit) (are_below limit xs) (lt-ltb x limit (h 0)) (are_below_each limit xs (λ k. h (suc k)))
