use Rattle.std.proofs.Common.{arith}
use Rattle.asn1_core.proofs.Digits.{digits_length, nine_digits}
use Rattle.asn1_core.proofs.base128.+digits_len.Goals as goal

pub returns-clause-most : goal.returns-clause-most
returns-clause-most t c =
    omega (arith, c.digits_len.ensures.value, digits_length c.args.number (omega (arith, c.if-number-eq0.false)) c.requires, nine_digits c.args.number)
