use Rattle.std.proofs.Common.{FitsSigned, rules, to_z-of_z, w64}
use Rattle.shelf_register.proofs.Steps.{revoke}
use Rattle.shelf_register.proofs.revoking.revoked.Goals as goal

pub returns : goal.returns
returns c =
    let f : FitsSigned w64 c.args.around.now.clock = search rules in
    let r = simp to_z-of_z at c.in_ok-step.ensures.event in
    revoke _ _ _ _ _ _ _ _ _ _ _ c.in_ok-certificate.ensures.has c.in_ok-certificate.ensures.named c.in_ok-serial.ensures r c.in_ok-step.ensures.text
