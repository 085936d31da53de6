use Rattle.asn1_core.specs.Bits.{bits}
use Rattle.register_steps.proofs.Trees.{as_signed, sealed_has_tree}
use Rattle.register_steps.proofs.sealing.assembled.Goals as goal

pub encoded-requires : goal.encoded-requires
encoded-requires c =
    rw (c.in_ok-to_be_signed.ensures, c.in_ok-signature.ensures) (sealed_has_tree c.args.message.now c.args.algorithm c.args.signature.now c.requires)

pub returns : goal.returns
returns c =
    let form = rw (c.in_ok-to_be_signed.ensures, c.in_ok-signature.ensures) at c.in_ok-der.ensures in
    as_signed c.args.message.now c.args.algorithm (bits 0 c.args.signature.now) c.in_ok-der.der.items form
