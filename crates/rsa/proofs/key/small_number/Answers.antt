use Rattle.rsa.proofs.Octets.{large, small_more}
use Rattle.rsa.proofs.key.small_number.Goals as goal

pub returns-then-number-ge16777216 : goal.returns-then-number-ge16777216
returns-then-number-ge16777216 c = large c.args.octets.now c.loop-octet.octet-index c.loop-octet.number c.loop-octet-test.true c.loop-octet.invariant c.if-number-ge16777216.true

pub loop-octet-preserved : goal.loop-octet-preserved
loop-octet-preserved c = small_more c.args.octets.now c.loop-octet.octet-index c.loop-octet.number c.loop-octet-test.true c.loop-octet.invariant
