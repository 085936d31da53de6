-- Octets of what is signed, headers included.
use Rattle.std.specs.Prelude.{List, Option, ℕ}

pub record PartsView : Type 0 where
  -- what is signed
  pub signed : List ℕ
  -- the algorithm beside it, and the one within it
  pub algorithm : List ℕ
  pub inner : List ℕ
  -- the name of the issuer
  pub issuer : Option (List ℕ)
