-- Two to the eleventh is more than twice a thousand.
use Rattle.std.proofs.Common.{◌⊎◌, inl, inr, ℕ, ◌+◌, ◌*◌, ◌^◌, ◌<◌, ◌≤◌, arith}
use Rattle.std.proofs.Math.Pow.{pow_mono}
use Rattle.std.proofs.lemmas.Bool.{cases_lt}

by_cases : (steps count : ℕ) → 2 ^ steps ≤ 2 * count + 1 → count ≤ 1000 → (10 < steps) ⊎ (steps ≤ 10) → steps ≤ 10
by_cases steps count cost few (inl more) =
    let l : 11 ≤ steps = omega arith in
    let p : 2 ^ 11 ≤ 2 ^ steps = pow_mono {i = 11} l in
    absurd (omega arith)
by_cases steps count cost few (inr within) = within

pub within_ten : (steps count : ℕ) → 2 ^ steps ≤ 2 * count + 1 → count ≤ 1000 → steps ≤ 10
within_ten steps count cost few = by_cases steps count cost few (cases_lt 10 steps)
