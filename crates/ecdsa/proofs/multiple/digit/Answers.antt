use Rattle.std.proofs.Common.{eqb, ℕ, ap, arith}
use Rattle.ecdsa.proofs.Multiples.{digit_is}
use Rattle.ecdsa.proofs.multiple.digit.Goals as goal

pub returns : goal.returns
returns c = ap (λ (x : ℕ). eqb x 1) (digit_is c.args.limbs.now c.args.place (omega arith) c.requires.limbs)
