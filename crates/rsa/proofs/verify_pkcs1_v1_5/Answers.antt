use Rattle.std.proofs.Common.{◌≡◌, false, sym, ◌∙◌, rules}
use Rattle.rsa.proofs.Encodings.{not_decided, by_number, too_short}
use Rattle.rsa.proofs.verify_pkcs1_v1_5.Goals as goal

pub returns-in_default : goal.returns-in_default
returns-in_default c = not_decided c.args.hash c.args.modulus.now c.args.exponent.now c.args.message.now c.args.signature.now c.in_default.ensures

pub returns-then-not-is_long_enough : goal.returns-then-not-is_long_enough
returns-then-not-is_long_enough c =
    let g : c.is_long_enough.result ≡ false = search rules in
    by_number c.args.hash c.args.modulus.now c.args.exponent.now c.args.message.now c.args.signature.now c.in-Some.exponent false
    c.in-Some.ensures.4 c.in-Some.ensures.0
    (sym (too_short c.args.hash c.args.modulus.now c.in-Some.exponent c.args.message.now c.args.signature.now (sym c.is_long_enough.ensures ∙ g)))

pub returns : goal.returns
returns c =
    by_number c.args.hash c.args.modulus.now c.args.exponent.now c.args.message.now c.args.signature.now c.in-Some.exponent c.has_encoded.result
    c.in-Some.ensures.4 c.in-Some.ensures.0 c.has_encoded.ensures
