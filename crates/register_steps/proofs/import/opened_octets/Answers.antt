use Rattle.register_steps.proofs.Importing.{not_opened}
use Rattle.register_steps.proofs.import.opened_octets.Goals as goal

pub returns-in-Err-clause-why : goal.returns-in-Err-clause-why
returns-in-Err-clause-why c = not_opened c.args.issuer.now c.args.octets.now c.in-Err.why c.in-Err.ensures.why
