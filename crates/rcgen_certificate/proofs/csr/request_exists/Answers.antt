use Rattle.std.proofs.Common.{◌∙◌}
use Rattle.std.proofs.lemmas.List.Folds.{list_all-map}
use Rattle.rcgen_certificate.specs.SubjectAltNames.{is_ascii_name}
use Rattle.rcgen_text.specs.AlternativeNames.{alternative_name}
use Rattle.rcgen_certificate.specs.ParamsView.{params_view}
use Rattle.rcgen_certificate.proofs.NoCause.{no_request_cause}
use Rattle.rcgen_certificate.proofs.RequestMet.{request_met}
use Rattle.rcgen_certificate.proofs.csr.request_exists.Goals as goal

pub returns : goal.returns
returns c = λ h.
    let params = params_view c.args.params.now in
    let ascii = rw c.deref.ensures.value at c.names_are_ascii.ensures in
    request_met params c.args.attrs.now (list_all-map is_ascii_name alternative_name c.args.params.now.subject_alt_names.items ∙ ascii)
    (no_request_cause params c.args.attrs.now h)
