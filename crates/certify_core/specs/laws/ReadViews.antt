-- Parameters of one request have one view.
use Rattle.std.proofs.Common.{◌≡◌, List, sym, ◌∙◌}
use Rattle.rcgen_certificate.specs.ParamsView.{default_params, defaults_but, params_view}
use Rattle.rcgen_certificate.specs.declared.params.CertificateParams.{CertificateParams}
use Rattle.rcgen_read.specs.ExtensionReading.{Asked}
use Rattle.rcgen_read.specs.RequestReading.{AreParamsOf}
use Rattle.rcgen_text.specs.Names.{Entry}
use Rattle.profile_params.proofs.Midnights.{midnight_is}

pub same_read_view : (a b : CertificateParams) (name : List Entry) (asked : Asked) → AreParamsOf name asked a → AreParamsOf name asked b
    → params_view a ≡ params_view b
same_read_view a b name asked s t =
    let from = midnight_is _ a.not_before s.not_before ∙ sym (midnight_is _ b.not_before t.not_before) in
    let until = midnight_is _ a.not_after s.not_after ∙ sym (midnight_is _ b.not_after t.not_after) in
    let names = s.subject_alt_names ∙ sym t.subject_alt_names in
    let subject = s.distinguished_name ∙ sym t.distinguished_name in
    let authority = s.is_ca ∙ sym t.is_ca in
    let usages = s.key_usages ∙ sym t.key_usages in
    let purposes = s.extended_key_usages ∙ sym t.extended_key_usages in
    let same : defaults_but (params_view a) ≡ defaults_but (params_view b) = λ i. record (default_params (from i) (until i) (subject i)) {
      subject_alt_names = names i;
      is_ca = authority i;
      key_usages = usages i;
      extended_key_usages = purposes i;
    } in
    s.rest ∙ same ∙ sym t.rest
