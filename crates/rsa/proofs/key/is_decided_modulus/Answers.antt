use Rattle.std.proofs.Common.{arith}
use Rattle.rsa.proofs.Keys.{modulus_is}
use Rattle.rsa.proofs.key.is_decided_modulus.Goals as goal

pub returns : goal.returns
returns c = modulus_is c.args.modulus.now (omega arith) c.if-first-eq0.false (omega arith)
