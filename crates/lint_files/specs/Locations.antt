-- Where something is wrong, and what.
use Rattle.std.specs.Prelude.{List, ℕ}
use Rattle.lint_files.specs.declared.finding.Finding.{Finding}

pub record LocatedView : Type 0 where
  -- the number of the block, from 1
  pub number : ℕ
  -- its label
  pub label : List ℕ
  pub finding : Finding
