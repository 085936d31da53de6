-- A copy of parameters, as derives write it, says the same, and parameters that say the same are equal.
use Rattle.std.specs.Prelude.{◌≡◌, true, refl}
use Rattle.std.specs.Cmp.{bool_eq_equiv}
use Rattle.std.specs.Cmp.Lexicographic.{lists_equiv, options_equiv}
use Rattle.std.proofs.Common.{ap, rules}
use Rattle.std.proofs.lemmas.Cmp.{int_eq_equiv, nat_eq_equiv, nat_list_eq_equiv, on_equiv}
use Rattle.asn1_core.specs.Moment.{instant}
use Rattle.rcgen_text.specs.AlternativeNames.{alternative_name}
use Rattle.rcgen_text.specs.Names.{same_entry_equiv}
use Rattle.rcgen_text.specs.contracts.san.SanTypePartialEq.TheImpl.{ghosts as names}
use Rattle.rcgen_text.proofs.Equality.{names_equal, same_is_equal}
use Rattle.rcgen_sign.proofs.Methods.{methods_equal}
use Rattle.rcgen_certificate.specs.CustomExtensions.{custom_of}
use Rattle.rcgen_certificate.specs.DistributionPoints.{uris_of}
use Rattle.rcgen_certificate.specs.ExtendedKeyUsages.{purpose_of}
use Rattle.rcgen_certificate.specs.NameConstraints.{bases_of}
use Rattle.rcgen_certificate.specs.Params.{SaysSame}
use Rattle.rcgen_certificate.specs.ParamsView.{ParamsView, params_view, same_view}
use Rattle.rcgen_text.specs.contracts.basic_constraints.IsCaPartialEq.TheImpl.{ghosts as authorities}
use Rattle.rcgen_certificate.specs.contracts.custom_extension.CustomExtensionPartialEq.TheImpl.{ghosts as customs}
use Rattle.rcgen_certificate.specs.contracts.distribution_point.CrlDistributionPointPartialEq.TheImpl.{ghosts as points}
use Rattle.rcgen_certificate.specs.contracts.extended_key_usage.ExtendedKeyUsagePurposePartialEq.TheImpl.{ghosts as purposes}
use Rattle.rcgen_text.specs.contracts.key_usage.KeyUsagePurposePartialEq.TheImpl.{ghosts as usages}
use Rattle.rcgen_certificate.specs.contracts.name_constraints.NameConstraintsPartialEq.TheImpl.{ghosts as constraints}
use Rattle.rcgen_certificate.specs.contracts.params.CertificateParamsClone.TheImpl.{ghosts as clones}
use Rattle.rcgen_certificate.specs.contracts.params.CertificateParamsPartialEq.TheImpl.{ghosts as params}
use Rattle.rcgen_text.specs.declared.basic_constraints.BasicConstraints.TheVariants.{Unconstrained, Constrained}
use Rattle.rcgen_text.specs.declared.basic_constraints.IsCa.{IsCa}
use Rattle.rcgen_text.specs.declared.basic_constraints.IsCa.TheVariants.{NoCa, ExplicitNoCa, Ca}
use Rattle.rcgen_text.specs.declared.key_usage.KeyUsagePurpose.{KeyUsagePurpose}
use Rattle.rcgen_text.specs.declared.key_usage.KeyUsagePurpose.TheVariants.{DigitalSignature}
use Rattle.rcgen_certificate.specs.declared.params.CertificateParams.{CertificateParams}
use Rattle.rcgen_certificate.proofs.Constraints.{constraints_equal}
use Rattle.rcgen_certificate.proofs.Copies.{copies, usages_of_copies}
use Rattle.rcgen_certificate.proofs.CustomExtensions.{customs_equal}
use Rattle.rcgen_certificate.proofs.ExtendedKeyUsages.{purposes_equal}
use Rattle.rcgen_certificate.proofs.Points.{points_equal}
use Rattle.rcgen_certificate.proofs.Views.{list_is_equal, lists_equal, one_is_equal, options_equal}

authority_itself : (c : IsCa) → authorities.eq c c ≡ true
authority_itself NoCa = refl
authority_itself ExplicitNoCa = refl
authority_itself (Ca Unconstrained) = refl
authority_itself (Ca (Constrained n)) = nat_eq_equiv.refl n

usage_itself : (u : KeyUsagePurpose) → usages.eq u u ≡ true
usage_itself DigitalSignature = refl
usage_itself _ = refl

pub params_equal : (p q : CertificateParams) → SaysSame p q → params.eq q p ≡ true
params_equal p q s =
    let view = s.view in
    rw (
      same_is_equal (on_equiv instant int_eq_equiv) q.not_before p.not_before s.not_before,
      same_is_equal (on_equiv instant int_eq_equiv) q.not_after p.not_after s.not_after,
      same_is_equal (options_equiv nat_list_eq_equiv) q.serial_number p.serial_number (ap (λ (v : ParamsView). v.serial_number) view),
      lists_equal alternative_name names.eq names_equal q.subject_alt_names.items p.subject_alt_names.items
          (ap (λ (v : ParamsView). v.subject_alt_names) view),
      same_is_equal (lists_equiv same_entry_equiv) q.distinguished_name p.distinguished_name (ap (λ (v : ParamsView). v.distinguished_name) view),
      one_is_equal authorities.eq authority_itself q.is_ca p.is_ca (ap (λ (v : ParamsView). v.is_ca) view),
      list_is_equal usages.eq usage_itself q.key_usages.items p.key_usages.items (ap (λ (v : ParamsView). v.key_usages) view),
      lists_equal purpose_of purposes.eq purposes_equal q.extended_key_usages.items p.extended_key_usages.items
          (ap (λ (v : ParamsView). v.extended_key_usages) view),
      options_equal bases_of constraints.eq constraints_equal q.name_constraints p.name_constraints
          (ap (λ (v : ParamsView). v.name_constraints) view),
      lists_equal uris_of points.eq points_equal q.crl_distribution_points.items p.crl_distribution_points.items
          (ap (λ (v : ParamsView). v.crl_distribution_points) view),
      lists_equal custom_of customs.eq customs_equal q.custom_extensions.items p.custom_extensions.items
          (ap (λ (v : ParamsView). v.custom_extensions) view),
      same_is_equal bool_eq_equiv q.use_authority_key_identifier_extension p.use_authority_key_identifier_extension
          (ap (λ (v : ParamsView). v.use_authority_key_identifier_extension) view),
      methods_equal q.key_identifier_method p.key_identifier_method (ap (λ (v : ParamsView). v.key_identifier_method) view),
    ) refl

pub says_same : (p q : CertificateParams) → clones.is_clone p q → SaysSame p q
says_same p q h =
    let from : q.not_before ≡ p.not_before = search (copies, rules) in
    let until : q.not_after ≡ p.not_after = search (copies, rules) in
    record {
      view = same_view (params_view q) (params_view p) (record {
        not_before = ap instant from;
        not_after = ap instant until;
        serial_number = search (copies, rules);
        subject_alt_names = search (copies, rules);
        distinguished_name = search (copies, rules);
        is_ca = search (copies, rules);
        key_usages = usages_of_copies _ _ h.1.1.1.1.1.1.0.0;
        extended_key_usages = search (copies, rules);
        name_constraints = search (copies, rules);
        crl_distribution_points = search (copies, rules);
        custom_extensions = search (copies, rules);
        use_authority_key_identifier_extension = search (copies, rules);
        key_identifier_method = search (copies, rules);
      });
      not_before = from;
      not_after = until;
    }
