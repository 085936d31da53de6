use Rattle.std.proofs.Common.{◌≡◌, true, false, rules}
use Rattle.modular.specs.Numbers.{value}
use Rattle.modular.proofs.Digits.{below_all}
use Rattle.modular.proofs.Residues.{not_below}
use Rattle.rsa.specs.Primitives.{os2ip}
use Rattle.rsa.proofs.Encodings.{out_of_range, encoded_or_not}
use Rattle.rsa.proofs.pkcs1.has_encoded.Goals as goal

pub returns-then-not-verification_primitive : goal.returns-then-not-verification_primitive
returns-then-not-verification_primitive c =
    let f : c.verification_primitive.result ≡ false = search rules in
    out_of_range c.args.hash c.args.modulus.now c.args.exponent c.args.message.now c.args.signature.now
    (not_below c.verification_primitive.result (os2ip c.args.signature.now) (os2ip c.args.modulus.now) f c.verification_primitive.ensures.range)

pub returns : goal.returns
returns c =
    let t : c.verification_primitive.result ≡ true = search rules in
    encoded_or_not c.is_same.result c.args.hash c.args.modulus.now c.args.exponent c.args.message.now c.args.signature.now
    (value c.verification_primitive.new.message) (value c.encode.new.limbs) (c.verification_primitive.ensures.range.0 t) c.requires.fits
    (below_all c.args.modulus.now (λ k. (c.type_inv.modulus k).fits)) c.encode.ensures.octets
    (c.verification_primitive.ensures.power t) c.encode.ensures.value c.is_same.ensures
