use Rattle.std.proofs.Common.{arith}
use Rattle.der_tree.proofs.Writing.{digits256_length, eight_digits}
use Rattle.der_tree.proofs.measure.+octets_len.Goals as goal

pub returns-else-number-eq0-clause-most : goal.returns-else-number-eq0-clause-most
returns-else-number-eq0-clause-most t c =
    omega (arith, c.octets_len.ensures.value, digits256_length c.args.number (omega (arith, c.if-number-eq0.false)) c.ranges.number.fits, eight_digits c.args.number)
