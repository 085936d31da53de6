use Rattle.std.proofs.Common.{◌≡◌, ℕ, ◌≤◌, get_or, take}
use Rattle.rsa.specs.Pss.{xor}
use Rattle.rsa.proofs.mgf1.xor_with.Given as goal

abbrev pub invariant-loop-i : goal.invariant-loop-i
invariant-loop-i l =
    (take l.i l.octets ≡ xor (take l.i l.initial.octets) (take l.i l.others))
    × ((k : ℕ) → l.i ≤ k → get_or l.octets k 0 ≡ get_or l.initial.octets k 0)
