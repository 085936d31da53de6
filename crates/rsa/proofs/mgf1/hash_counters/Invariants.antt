use Rattle.std.proofs.Common.{◌≡◌, ◌*◌, take}
use Rattle.rsa.specs.Pss.{hashed_counters}
use Rattle.rsa.proofs.mgf1.hash_counters.Given as goal

abbrev pub invariant-loop-counter : goal.invariant-loop-counter
invariant-loop-counter l = take (l.counter * l.size) l.octets ≡ hashed_counters l.hash l.seed l.counter
