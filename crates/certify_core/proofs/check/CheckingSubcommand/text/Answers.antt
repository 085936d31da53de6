use Rattle.std.proofs.Common.{◌∙◌}
use Rattle.chain_check.specs.Outcomes.{valid, invalid}
use Rattle.certify_core.proofs.CheckedPaths.{checked}
use Rattle.certify_core.proofs.check.CheckingSubcommand.text.Goals as goal

pub returns-in-Ok-clause-text : goal.returns-in-Ok-clause-text
returns-in-Ok-clause-text c =
    checked c.args.profile _ _ c.civil-at.result c.in_ok-verifier.verifier (valid c.in-Ok.count) _ c.as_slice.ensures c.as_slice-2.ensures
    c.civil-at.ensures (c.in_ok-verifier.ensures ∙ c.into_vec.ensures) c.in-Ok.ensures.valid c.in_ok-valid_line-in-Ok.ensures

pub returns-in-Err-Fault-clause-text : goal.returns-in-Err-Fault-clause-text
returns-in-Err-Fault-clause-text c =
    let first = rw c.in-Err-Fault.field-0-is at c.in-Err-Fault.ensures.fault in
    checked c.args.profile _ _ c.civil-at.result c.in_ok-verifier.verifier (invalid c.in-Err-Fault.place c.in-Err-Fault.reason) _ c.as_slice.ensures
    c.as_slice-2.ensures c.civil-at.ensures (c.in_ok-verifier.ensures ∙ c.into_vec.ensures) first c.in_ok-invalid_line-in-Err-Fault.ensures
