use Rattle.std.proofs.Common.{◌≡◌, true, false, refl, rules, ◌∙◌}
use Rattle.std.proofs.lemmas.Bool.{ne_eqb}
use Rattle.modular.proofs.Digits.{below_all}
use Rattle.modular.proofs.Residues.{not_below}
use Rattle.rsa.specs.Primitives.{os2ip}
use Rattle.rsa.proofs.Consistent.{tail_is}
use Rattle.rsa.proofs.Signed.{out_of_range, too_short, all_octets, later_octets, too_large}
use Rattle.rsa.proofs.pss.has_signed.Goals as goal

pub returns-then-modulus-digest_length : goal.returns-then-modulus-digest_length
returns-then-modulus-digest_length c =
    too_short c.args.hash c.args.modulus.now c.args.exponent c.args.message.now c.args.signature.now c.digest_length.result c.digest_length.ensures
    (rw (c.digest_length-2.ensures, ← c.digest_length.ensures) at c.if-modulus-digest_length.true)

pub returns-then-not-message_octets : goal.returns-then-not-message_octets
returns-then-not-message_octets c =
    let f : c.message_octets.result ≡ false = search rules in
    out_of_range c.args.hash c.args.modulus.now c.args.exponent c.args.message.now c.args.signature.now
    (not_below c.message_octets.result (os2ip c.args.signature.now) (os2ip c.args.modulus.now) f c.message_octets.ensures.range)

pub returns-then-em_bits-modulus : goal.returns-then-em_bits-modulus
returns-then-em_bits-modulus c =
    let t : c.message_octets.result ≡ true = search rules in
    all_octets c.args.hash c.args.modulus.now c.args.exponent c.args.message.now c.args.signature.now (c.message_octets.ensures.range.0 t)
    (below_all c.args.modulus.now (λ k. (c.type_inv.modulus k).fits)) c.modulus_bits-em_bits.result _ c.modulus_bits-em_bits.ensures.bits refl
    c.message_octets.new.octets (c.message_octets.ensures.octets t) c.emsa_pss_verify.result c.if-em_bits-modulus.true c.emsa_pss_verify.ensures

pub returns-then-em-eq0 : goal.returns-then-em-eq0
returns-then-em-eq0 c =
    let t : c.message_octets.result ≡ true = search rules in
    later_octets c.args.hash c.args.modulus.now c.args.exponent c.args.message.now c.args.signature.now (c.message_octets.ensures.range.0 t)
    (below_all c.args.modulus.now (λ k. (c.type_inv.modulus k).fits)) c.modulus_bits-em_bits.result _ c.modulus_bits-em_bits.ensures.bits refl
    c.message_octets.new.octets (c.message_octets.ensures.octets t) c.modulus_bits-em_bits.ensures.above c.modulus_bits-em_bits.ensures.within
    c.if-em_bits-modulus.false c.emsa_pss_verify-then-em-eq0.result _ (tail_is c.message_octets.new.octets 1) c.if-em-eq0.true c.emsa_pss_verify-then-em-eq0.ensures

pub returns-else-em-eq0 : goal.returns-else-em-eq0
returns-else-em-eq0 c =
    let t : c.message_octets.result ≡ true = search rules in
    ne_eqb _ 0 c.if-em-eq0.false
    ∙ too_large c.args.hash c.args.modulus.now c.args.exponent c.args.message.now c.args.signature.now (c.message_octets.ensures.range.0 t)
    (below_all c.args.modulus.now (λ k. (c.type_inv.modulus k).fits)) c.modulus_bits-em_bits.result _ c.modulus_bits-em_bits.ensures.bits refl
    c.message_octets.new.octets (c.message_octets.ensures.octets t) c.modulus_bits-em_bits.ensures.above c.modulus_bits-em_bits.ensures.within
    c.if-em_bits-modulus.false c.if-em-eq0.false
