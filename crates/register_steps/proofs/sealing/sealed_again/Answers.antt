use Rattle.register_steps.proofs.SealedOnce.{refused}
use Rattle.register_steps.proofs.sealing.sealed_again.Goals as goal

pub returns-in-Ok-clause-ok : goal.returns-in-Ok-clause-ok
returns-in-Ok-clause-ok c =
    let sealed = rw (c.as_bytes-message.ensures, c.bytes.ensures.bytes) at c.in-Ok.ensures.ok in
    sealed

pub returns-in-Err-clause-why : goal.returns-in-Err-clause-why
returns-in-Err-clause-why c =
    let why = rw (c.as_bytes-message.ensures, c.bytes.ensures.bytes) at c.in-Err.ensures.why in
    refused c.args.issuer.now c.args.octets.now c.args.parts.now c.in-Err.why c.requires why
