use Rattle.std.specs.Prelude.{true, map, Some}
use Rattle.std.proofs.Common.{◌∙◌}
use Rattle.asn1_core.specs.Moment.{instant}
use Rattle.rcgen_text.specs.AlternativeNames.{alternative_name}
use Rattle.rcgen_text.specs.declared.basic_constraints.IsCa.TheVariants.{ExplicitNoCa}
use Rattle.rcgen_certificate.specs.ExtendedKeyUsages.{purpose_of}
use Rattle.authority.specs.Asks.{asked_params}
use Rattle.authority.proofs.authority.certificate_params.Goals as goal

pub returns-clause-value : goal.returns-clause-value
returns-clause-value c =
    let given = c.args in
    let from = instant given.not_before in
    let until = instant given.not_after in
    let serial = c.in_ok-serial_number.ensures.value in
    let default = c.in_ok-params.ensures.value in
    (λ i. record (default.rest i) {
      not_before = from;
      not_after = until;
      serial_number = Some (serial i);
      distinguished_name = given.name;
      is_ca = ExplicitNoCa;
      use_authority_key_identifier_extension = true;
    })
    ∙ (λ i. record (asked_params given.serial given.name from until) {
      subject_alt_names = map alternative_name (default.subject_alt_names i);
      key_usages = default.key_usages i;
      extended_key_usages = map purpose_of (default.extended_key_usages i);
    })
