use Rattle.std.proofs.Common.{sym, ◌∙◌}
use Rattle.rcgen_text.specs.Causes.{origin_of}
use Rattle.rcgen_sign.proofs.Infos.{key_at, no_info_at, trailing_at, unlisted_at, unused_at}
use Rattle.rcgen_sign.proofs.public_key.SubjectPublicKeyInfo.from_der.Goals as goal

pub returns-in-Err-NotInGrammar : goal.returns-in-Err-NotInGrammar
returns-in-Err-NotInGrammar c =
    no_info_at c.args.der.now (origin_of c.not_read.result) (c.in-Err-NotInGrammar.ensures.none (cc))
    c.not_read.ensures

pub returns-then-not-is_empty : goal.returns-then-not-is_empty
returns-then-not-is_empty c =
    trailing_at c.args.der.now c.in-Ok.read.0 c.in-Ok.read.1.now c.in-Ok.ensures.found (origin_of c.not_read-then-not-is_empty.result)
    (sym c.is_empty.ensures ∙ c.if-not-is_empty.true) c.not_read-then-not-is_empty.ensures

pub returns-then-has_unused_bits : goal.returns-then-has_unused_bits
returns-then-has_unused_bits c =
    unused_at c.args.der.now c.in-Ok.read.0 c.in-Ok.read.1.now c.in-Ok.ensures.found (sym c.is_empty.ensures ∙ c.if-not-is_empty.false)
    (origin_of c.not_read-then-has_unused_bits.result) (sym c.has_unused_bits.ensures ∙ c.if-has_unused_bits.true) c.not_read-then-has_unused_bits.ensures

pub returns-in_default : goal.returns-in_default
returns-in_default c =
    unlisted_at c.args.der.now c.in-Ok.read.0 c.in-Ok.read.1.now c.in-Ok.ensures.found (sym c.is_empty.ensures ∙ c.if-not-is_empty.false)
    (sym c.has_unused_bits.ensures ∙ c.if-has_unused_bits.false) (sym c.from_key.ensures ∙ c.in_default.is)

pub returns : goal.returns
returns c =
    key_at c.args.der.now c.in-Ok.read.0 c.in-Ok.read.1.now c.in-Ok.ensures.found (sym c.is_empty.ensures ∙ c.if-not-is_empty.false)
    (sym c.has_unused_bits.ensures ∙ c.if-has_unused_bits.false) c.in-Some.alg c.new.result (sym c.from_key.ensures ∙ c.in-Some.is)
    (c.new.ensures ∙ c.in_ok-octets.ensures.items ∙ c.bytes.ensures.bytes)
