use Rattle.std.specs.Prelude.{map, string_bytes}
use Rattle.rcgen_certificate.proofs.Issuing.{passed}
use Rattle.rcgen_certificate.proofs.NamesOfTexts.{have_names}
use Rattle.rcgen_issue.proofs.SelfSigned.{unnamed, refused}
use Rattle.rcgen_issue.proofs.certified.generate_simple_self_signed.Goals as goal

pub returns-in_err-params-clause-why : goal.returns-in_err-params-clause-why
returns-in_err-params-clause-why g c =
    passed c.from_residual.result c.in_err-params.field-0.0 _ c.from_residual.ensures.1
    (unnamed (map string_bytes c.args.names.items) _ c.in_err-params.field-0.0 c.in_err-params.ensures.why)

pub returns-in_err-cert-clause-why : goal.returns-in_err-cert-clause-why
returns-in_err-cert-clause-why g c =
    let d = c.in_ok-params.ensures.names in
    let texts = map string_bytes c.args.names.items in
    passed c.from_residual-in_err-cert.result c.in_err-cert.field-0.0 _ c.from_residual-in_err-cert.ensures.1
    (refused texts c.in_ok-params.params _ _ c.in_err-cert.field-0.0 d (c.defaults_have_no_cause.ensures texts d) c.in_err-cert.ensures.why)

pub returns-clause-named : goal.returns-clause-named
returns-clause-named g c =
    (have_names (map string_bytes c.args.names.items) c.in_ok-params.params.subject_alt_names.items c.in_ok-params.ensures.names.subject_alt_names).0

pub returns-clause-issued : goal.returns-clause-issued
returns-clause-issued g c = (c.in_ok-params.params, c.in_ok-params.ensures.names, c.in_ok-cert.ensures.issued)
