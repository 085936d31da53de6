use Rattle.std.proofs.Common.{◌∙◌}
use Rattle.rcgen_read.specs.IssuerReading.{read_issuer, restored_view}
use Rattle.certify_core.specs.Outcome.{refusal_of}
use Rattle.certify_core.specs.Restoring.{restoring_with}
use Rattle.certify_core.proofs.Errors.{passed}
use Rattle.certify_core.proofs.Made.{unread}
use Rattle.certify_core.proofs.Restored.{is_named, restored}
use Rattle.certify_core.proofs.restore.RestoringSubcommand.text.Goals as goal

pub returns-in_err-issuer-clause-why : goal.returns-in_err-issuer-clause-why
returns-in_err-issuer-clause-why c =
    let p = c.args.profile in
    let error = c.in_err-issuer.field-0.0 in
    let read = rw c.as_slice-certificate.ensures at c.in_err-issuer.ensures.read in
    passed c.from_residual-in_err-issuer.result (refusal_of error) _ c.from_residual-in_err-issuer.ensures.1
    (unread (restoring_with p.secret) (read_issuer p.certificate) error read)

pub view_text-requires : goal.view_text-requires
view_text-requires c =
    is_named (restored_view c.in_ok-issuer.issuer).name _ (c.restored_names_have_types.ensures _ _ c.in_ok-issuer.ensures.read)
    c.in_ok-issuer.ensures.field

pub returns-clause-text : goal.returns-clause-text
returns-clause-text c =
    let p = c.args.profile in
    let read = rw c.as_slice-certificate.ensures at c.in_ok-issuer.ensures.read in
    let text = rw c.in_ok-issuer.ensures.field at c.in_ok-text.ensures.text in
    restored p.secret _ (read_issuer p.certificate) (restored_view c.in_ok-issuer.issuer) _ read
    (c.in_ok-issuer.ensures.key ∙ c.in_ok-key.ensures.secret ∙ c.as_bytes.ensures) text
