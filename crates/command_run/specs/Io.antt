-- What reading from a source and writing to a sink do, where the source tells the bytes that it has left and the
-- sink those that were written.
use Rattle.std.specs.Prelude.{◌≡◌, ◌⊎◌, ℕ, ◌-◌, ◌^◌, ◌<◌, List, take, Option, Result, MatchResult}
use Rattle.std.specs.Io.KnownBytes.{Appends}

-- a count of faults rose, or is at its last value
abbrev pub Rose : ℕ → ℕ → Type 0
Rose old new = (old < new) ⊎ (new ≡ 2 ^ 64 - 1)

-- what was written grew by some front of the piece, maybe by nothing
abbrev pub AppendsFront : Option (List ℕ) → Option (List ℕ) → List ℕ → Type 0
AppendsFront old new piece = (n : ℕ) × Appends old new (take n piece)

-- what was written grew by the n bytes that were taken at Ok n, and by some front of the piece at Err
abbrev pub Writes : {E : Type 0} → Option (List ℕ) → Option (List ℕ) → Result ℕ E → List ℕ → Type 0
Writes old new r piece = MatchResult r (λ n. Appends old new (take n piece)) (λ _. AppendsFront old new piece)
