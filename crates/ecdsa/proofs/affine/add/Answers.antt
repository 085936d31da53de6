use Rattle.ecdsa.proofs.Sums.{sum_first, sum_second}
use Rattle.ecdsa.proofs.affine.add.Goals as goal

pub returns-in-Infinity-default-clause-sum : goal.returns-in-Infinity-default-clause-sum
returns-in-Infinity-default-clause-sum g c = rw c.in-Infinity-default.is-0 (sum_first _ _ _)

pub returns-in_default-Infinity-clause-sum : goal.returns-in_default-Infinity-clause-sum
returns-in_default-Infinity-clause-sum g c = rw c.in_default-Infinity.is-1 (sum_second _ _ _)
