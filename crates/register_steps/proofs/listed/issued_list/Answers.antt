use Rattle.register_steps.proofs.Entries.{issued}
use Rattle.register_steps.proofs.listed.issued_list.Goals as goal

pub returns : goal.returns
returns c =
    issued c.args.issuer.now c.args.octets.now c.in_ok-message.message c.as_slice.result.now c.in_ok-list.list c.in_ok-issued.issued c.in_ok-message.ensures
    c.as_slice.ensures c.in_ok-list.ensures.list c.in_ok-list.ensures.named c.in_ok-issued.ensures.says c.in_ok-issued.ensures.message
