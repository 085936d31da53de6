use Rattle.modular.proofs.Digits.{below_all}
use Rattle.rsa.proofs.Signed.{bits_are, zeros_fit}
use Rattle.rsa.proofs.pss.modulus_bits.Goals as goal

pub overflow_sub-result : goal.overflow_sub-result
overflow_sub-result c = zeros_fit c.args.modulus.now c.requires

pub returns-clause-bits : goal.returns-clause-bits
returns-clause-bits c = bits_are c.args.modulus.now (below_all c.args.modulus.now (λ k. (c.type_inv.modulus k).fits)) c.requires
