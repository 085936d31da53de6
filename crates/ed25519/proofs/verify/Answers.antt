use Rattle.std.proofs.Common.{sym}
use Rattle.ed25519.proofs.Verdict.{key_length_wrong, signature_length_wrong, first_half, second_half, verified}
use Rattle.ed25519.proofs.verify.Goals as goal

pub returns-then-public_key-ne32 : goal.returns-then-public_key-ne32
returns-then-public_key-ne32 c = key_length_wrong c.args.public_key.now c.args.message.now c.args.signature.now c.if-public_key-ne32.true

pub returns-then-signature-ne64 : goal.returns-then-signature-ne64
returns-then-signature-ne64 c =
    signature_length_wrong c.args.public_key.now c.args.message.now c.args.signature.now c.if-public_key-ne32.false c.if-signature-ne64.true

pub slice_bounds-r-end : goal.slice_bounds-r-end
slice_bounds-r-end c = sym (first_half c.args.signature.now c.if-signature-ne64.false)

pub meets_equation-requires-clause-r_length : goal.meets_equation-requires-clause-r_length
meets_equation-requires-clause-r_length c = first_half c.args.signature.now c.if-signature-ne64.false

pub returns : goal.returns
returns c =
    verified c.args.public_key.now c.args.message.now c.args.signature.now _ _ c.if-public_key-ne32.false c.if-signature-ne64.false
    c.challenge-k.ensures (rw (second_half c.args.signature.now c.if-signature-ne64.false) at c.meets_equation.ensures)
