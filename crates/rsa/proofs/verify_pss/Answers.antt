use Rattle.rsa.proofs.Signed.{not_decided, by_number}
use Rattle.rsa.proofs.verify_pss.Goals as goal

pub returns-in_default : goal.returns-in_default
returns-in_default c = not_decided c.args.hash c.args.modulus.now c.args.exponent.now c.args.message.now c.args.signature.now c.in_default.ensures

pub returns : goal.returns
returns c =
    by_number c.args.hash c.args.modulus.now c.args.exponent.now c.args.message.now c.args.signature.now c.in-Some.exponent c.has_signed.result
    c.in-Some.ensures.4 c.in-Some.ensures.0 c.has_signed.ensures
