-- How the values of a type are contents octets, and how they are read: two functions that undo each other.
use Rattle.std.specs.Prelude.{◌≡◌, ℕ, List, Option, Some}

pub record Contents (A : Type 0) : Type 0 where
  -- the contents octets of a value, where it has some
  pub to : A → Option (List ℕ)
  -- the value that they are the contents octets of
  pub of : List ℕ → Option A
  pub there : (b : List ℕ) (v : A) → of b ≡ Some v → to v ≡ Some b
  pub back : (v : A) (b : List ℕ) → to v ≡ Some b → of b ≡ Some v
