-- What the least of some reasons is.
use Rattle.std.proofs.Common.{◌≡◌, ℕ, zero, suc, ◌≤◌, nat_le, Bool, true, false, cond, List, [], ◌∷◌, Option, Some, None, Result, Ok, Err}
use Rattle.std.proofs.Common.{refl, sym, subst, le_refl, le_trans, arith}
use Rattle.std.specs.Prelude.{All, Contains}
use Rattle.std.proofs.lemmas.Bool.Decides.{nat_tests}
use Rattle.std.proofs.lemmas.Grind.{common_steps}
use Rattle.toml_format.specs.Outcome.{IsLeast, TellsLeast}
use Rattle.toml_format.specs.Reason.{reason_number, least, least_there, least_of}
use Rattle.toml_format.specs.declared.reason.Reason.{Reason}

all_more : {X : Type 0} (P : X → Type 0) (x : X) (xs : List X) → P x → All P xs → All P (x ∷ xs)
all_more P x xs here there zero d h = here
all_more P x xs here there (suc i) d h = there i d (omega (arith, h))

contains_here : {X : Type 0} (x : X) (xs : List X) → Contains (x ∷ xs) x
contains_here x xs = (0, omega arith, refl)

contains_more : {X : Type 0} (x y : X) (xs : List X) → Contains xs y → Contains (x ∷ xs) y
contains_more x y xs c = (suc c.0, omega (arith, c.1), c.2)

-- each number is at least this one
abbrev Least : ℕ → List Reason → Type 0
Least n rs = All (λ d. n ≤ reason_number d) rs

below_all : (m n : ℕ) (rs : List Reason) → m ≤ n → Least n rs → Least m rs
below_all m n rs h all i d k = le_trans h (all i d k)

at_most : (m n : ℕ) → nat_le m n ≡ true → m ≤ n
at_most m n h = grind (arith, nat_tests, common_steps)

at_least : (m n : ℕ) → nat_le m n ≡ false → n ≤ m
at_least m n h = grind (arith, nat_tests, common_steps)

-- an option is the least of some reasons
abbrev LeastOf : Option Reason → List Reason → Type 0
LeastOf None rs = rs ≡ []
LeastOf (Some e) rs = Contains rs e × Least (reason_number e) rs

chosen : (d e : Reason) (rs : List Reason) (b : Bool) → nat_le (reason_number d) (reason_number e) ≡ b → LeastOf (Some e) rs
    → LeastOf (Some (cond b d e)) (d ∷ rs)
chosen d e rs true h least = (
  contains_here d rs,
  all_more (λ c. reason_number d ≤ reason_number c) d rs (le_refl (reason_number d))
      (below_all (reason_number d) (reason_number e) rs (at_most (reason_number d) (reason_number e) h) least.1),
)
chosen d e rs false h least = (
  contains_more d e rs least.0,
  all_more (λ c. reason_number e ≤ reason_number c) d rs (at_least (reason_number d) (reason_number e) h) least.1,
)

one_more : (d : Reason) (rs : List Reason) (o : Option Reason) → LeastOf o rs → LeastOf (least_there (Some d) o) (d ∷ rs)
unfolding least
one_more d rs None h = subst (λ (rs : List Reason). LeastOf (Some d) (d ∷ rs)) (sym h)
    (contains_here d [], all_more (λ c. reason_number d ≤ reason_number c) d [] (le_refl (reason_number d)) (λ i c k. absurd (omega (arith, k))))
one_more d rs (Some e) h = chosen d e rs (nat_le (reason_number d) (reason_number e)) refl h

least_of_is : (rs : List Reason) → LeastOf (least_of rs) rs
least_of_is [] = refl
least_of_is (d ∷ rs) = one_more d rs (least_of rs) (least_of_is rs)

pub is_least : {A : Type 0} (r : Result A Reason) (rs : List Reason) → TellsLeast r rs → IsLeast r rs
is_least (Ok x) rs h = subst (λ (o : Option Reason). LeastOf o rs) (sym h) (least_of_is rs)
is_least (Err e) rs h = subst (λ (o : Option Reason). LeastOf o rs) (sym h) (least_of_is rs)
