use Rattle.std.proofs.Common.{◌≡◌, true, false, sym, ◌∙◌, rules}
use Rattle.rsa.specs.Primitives.{os2ip}
use Rattle.rsa.proofs.Keys.{no_modulus, no_exponent, other_length, decided, exponent_is, large_exponent, positive}
use Rattle.rsa.proofs.key.decided_exponent.Goals as goal

pub returns-then-not-is_decided_modulus : goal.returns-then-not-is_decided_modulus
returns-then-not-is_decided_modulus c =
    let f : c.is_decided_modulus.result ≡ false = search rules in
    no_modulus c.args.modulus.now c.args.exponent.now c.args.signature.now (sym c.is_decided_modulus.ensures ∙ f)

pub returns-in_default : goal.returns-in_default
returns-in_default c =
    let t : c.is_decided_modulus.result ≡ true = search rules in
    no_exponent c.args.modulus.now c.args.exponent.now c.args.signature.now (sym c.is_decided_modulus.ensures ∙ t)
    (large_exponent (os2ip c.args.exponent.now) c.in_default.ensures)

pub returns-then-not-is_decided_exponent : goal.returns-then-not-is_decided_exponent
returns-then-not-is_decided_exponent c =
    let t : c.is_decided_modulus.result ≡ true = search rules in
    let f : c.is_decided_exponent.result ≡ false = search rules in
    no_exponent c.args.modulus.now c.args.exponent.now c.args.signature.now (sym c.is_decided_modulus.ensures ∙ t)
    (exponent_is c.in-Some.exponent (os2ip c.args.exponent.now) c.is_decided_exponent.result false c.in-Some.ensures.0 c.in-Some.ensures.1 c.is_decided_exponent.ensures f)

pub returns-then-signature-modulus : goal.returns-then-signature-modulus
returns-then-signature-modulus c =
    let t : c.is_decided_modulus.result ≡ true = search rules in
    let f : c.is_decided_exponent.result ≡ true = search rules in (
      c.in-Some.ensures.0,
      positive c.in-Some.exponent c.is_decided_exponent.result c.is_decided_exponent.ensures f,
      sym c.is_decided_modulus.ensures ∙ t,
      c.if-signature-modulus.true,
      decided c.args.modulus.now c.args.exponent.now c.args.signature.now (sym c.is_decided_modulus.ensures ∙ t)
          (exponent_is c.in-Some.exponent (os2ip c.args.exponent.now) c.is_decided_exponent.result true c.in-Some.ensures.0 c.in-Some.ensures.1 c.is_decided_exponent.ensures f)
          c.if-signature-modulus.true,
    )

pub returns-else-signature-modulus : goal.returns-else-signature-modulus
returns-else-signature-modulus c =
    let t : c.is_decided_modulus.result ≡ true = search rules in
    let f : c.is_decided_exponent.result ≡ true = search rules in
    other_length c.args.modulus.now c.args.exponent.now c.args.signature.now (sym c.is_decided_modulus.ensures ∙ t)
    (exponent_is c.in-Some.exponent (os2ip c.args.exponent.now) c.is_decided_exponent.result true c.in-Some.ensures.0 c.in-Some.ensures.1 c.is_decided_exponent.ensures f)
    c.if-signature-modulus.false
