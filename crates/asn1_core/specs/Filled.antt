-- Items one after the other, and how many there is room for.
use Rattle.std.specs.Prelude.{List, ℕ}

pub record Filled : Type 0 where
  pub items : List ℕ
  pub room : ℕ

-- the same of octets, and how many were moved to make room before them: one for each octet each
-- time, up to the largest u64
pub record Buffer : Type 0 where
  pub items : List ℕ
  pub room : ℕ
  pub moved : ℕ
