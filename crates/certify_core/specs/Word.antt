-- Words of the program.
use Rattle.std.specs.Prelude.{ℕ, Bool, true, false, List}

pub record Word : Type 0 where
  -- the word itself, and its lines in what `--help` writes
  pub name : List ℕ
  pub help : List ℕ
  -- it takes an input
  pub reads_input : Bool

abbrev pub reading : List ℕ → List ℕ → Word
reading name help = record { name = name; help = help; reads_input = true }

abbrev pub silent : List ℕ → List ℕ → Word
silent name help = record { name = name; help = help; reads_input = false }
