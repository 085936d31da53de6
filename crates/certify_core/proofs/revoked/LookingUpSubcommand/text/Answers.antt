use Rattle.std.proofs.Common.{sym}
use Rattle.certify_core.specs.LookingUp.{revocation_list_of}
use Rattle.certify_core.proofs.LookedUp.{looked_up}
use Rattle.certify_core.proofs.revoked.LookingUpSubcommand.text.Goals as goal

pub returns-in-Ok-clause-text : goal.returns-in-Ok-clause-text
returns-in-Ok-clause-text c =
    let p = c.args.profile in
    looked_up p.serials (revocation_list_of p.list) c.in-Ok.list _ (sym (rw (c.in-Ok.is, c.as_slice.ensures) at c.in_ok-list.ensures))
    (rw (c.as_slice-in-Ok.ensures.value, c.into_vec-serials.ensures) at c.in_ok-revocation_lines-in-Ok.ensures)
