use Rattle.std.proofs.Common.{◌∙◌}
use Rattle.std.proofs.lemmas.List.Folds.{list_all-map}
use Rattle.rcgen_certificate.specs.SubjectAltNames.{is_ascii_name}
use Rattle.rcgen_text.specs.AlternativeNames.{alternative_name}
use Rattle.rcgen_certificate.specs.ParamsView.{params_view}
use Rattle.rcgen_certificate.proofs.NoCause.{no_cause}
use Rattle.rcgen_certificate.proofs.TableMet.{met}
use Rattle.rcgen_certificate.proofs.certificate.certificate_exists.Goals as goal

pub returns : goal.returns
returns c = λ issuer h.
    let params = params_view c.args.params.now in
    let none = no_cause params issuer.name h in
    let from = c.has_utc_exactly.ensures.0 none.not_before in
    let to = c.has_utc_exactly-2.ensures.0 none.not_after in
    let ascii = rw c.deref.ensures.value at c.names_are_ascii.ensures in
    met params issuer from.0 to.0 from.1 to.1
    (list_all-map is_ascii_name alternative_name c.args.params.now.subject_alt_names.items ∙ ascii) none
