use Rattle.std.proofs.Common.{◌∙◌, ap}
use Rattle.certify_core.specs.Bulk.{bulk_lines, bulk_list}
use Rattle.certify_core.specs.Issuing.{issuer_of_profile}
use Rattle.certify_core.specs.Outcome.{refusal_of}
use Rattle.certify_profile.specs.declared.issuer.IssuerTable.{IssuerTable}
use Rattle.certify_core.proofs.Errors.{passed}
use Rattle.certify_core.proofs.ListIssued.{issued, refused}
use Rattle.certify_core.proofs.bulk.bulk.Goals as goal

pub returns-in_err-list-clause-why : goal.returns-in_err-list-clause-why
returns-in_err-list-clause-why c =
    let n = c.args.count in
    passed c.from_residual-in_err-list.result (refusal_of c.in_err-list.field-0.0) _ c.from_residual-in_err-list.ensures.1
    (refused (bulk_lines n) (bulk_list n) c.in_ok-params.params _ _ c.in_err-list.field-0.0 c.in_ok-params.ensures.list
    (c.in_ok-issuer.ensures.view ∙ ap issuer_of_profile c.in_ok-table.ensures) (λ r. r.2.refused) c.in_err-list.ensures.why)

pub returns-clause-text : goal.returns-clause-text
returns-clause-text c =
    let n = c.args.count in
    let lines = c.in_ok-bulk_lines.ensures ∙ ap (bulk_lines n) c.der.ensures in
    issued (bulk_lines n) (bulk_list n) c.in_ok-params.params _ _ _ _ c.in_ok-params.ensures.list
    (c.in_ok-issuer.ensures.view ∙ ap issuer_of_profile c.in_ok-table.ensures)
    (c.in_ok-issuer.ensures.key ∙ ap (λ (t : IssuerTable). t.secret) c.in_ok-table.ensures) c.in_ok-list.ensures.issued lines c.in_ok-list.ensures.ok
