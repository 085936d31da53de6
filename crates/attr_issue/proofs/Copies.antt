-- Copies of parameters, and that they equal their originals, as derives write it.
use Rattle.std.specs.Prelude.{◌≡◌, List, map, true, refl}
use Rattle.std.proofs.Common.{ap}
use Rattle.std.specs.Cmp.{bool_eq_equiv}
use Rattle.std.specs.Cmp.Lexicographic.{lists_equiv}
use Rattle.std.specs.List.{AllZip}
use Rattle.std.proofs.lemmas.Cmp.{int_eq_equiv, nat_list_eq_equiv, on_equiv}
use Rattle.asn1_core.specs.Moment.{instant}
use Rattle.rcgen_text.specs.Names.{same_entry_equiv}
use Rattle.rcgen_text.proofs.Equality.{same_is_equal}
use Rattle.rcgen_certificate.specs.Requests.{given_of}
use Rattle.rcgen_certificate.specs.contracts.csr.AttributePartialEq.TheImpl.{ghosts as attributes}
use Rattle.rcgen_certificate.specs.declared.csr.Attribute.{Attribute}
use Rattle.rcgen_certificate.proofs.Requests.{attributes_equal}
use Rattle.rcgen_certificate.proofs.Views.{lists_equal, views_same}
use Rattle.attr_issue.specs.AttributeCertificateView.{AttributeCertificateView}
use Rattle.attr_issue.specs.AttributeCertificates.{SaysSameAttributes}
use Rattle.attr_issue.specs.contracts.attribute_certificate.AttributeCertificateParamsPartialEq.TheImpl.{ghosts as params}
use Rattle.attr_issue.specs.declared.attribute_certificate.AttributeCertificateParams.{AttributeCertificateParams}

pub attributes_of_copies : (xs ys : List Attribute) → AllZip (λ x y. given_of y ≡ given_of x) xs ys → map given_of ys ≡ map given_of xs
attributes_of_copies xs ys h = views_same given_of xs ys h

pub ruleset copies = (attributes_of_copies)

pub params_equal : (p q : AttributeCertificateParams) → SaysSameAttributes p q → params.eq q p ≡ true
params_equal p q s =
    rw (
      same_is_equal (lists_equiv same_entry_equiv) q.holder_issuer p.holder_issuer (ap (λ (v : AttributeCertificateView). v.holder_issuer) s.view),
      same_is_equal nat_list_eq_equiv q.holder_serial p.holder_serial (ap (λ (v : AttributeCertificateView). v.holder_serial) s.view),
      same_is_equal nat_list_eq_equiv q.serial_number p.serial_number (ap (λ (v : AttributeCertificateView). v.serial_number) s.view),
      same_is_equal (on_equiv instant int_eq_equiv) q.not_before p.not_before s.not_before,
      same_is_equal (on_equiv instant int_eq_equiv) q.not_after p.not_after s.not_after,
      lists_equal given_of attributes.eq attributes_equal q.attributes.items p.attributes.items
          (ap (λ (v : AttributeCertificateView). v.attributes) s.view),
      same_is_equal bool_eq_equiv q.use_authority_key_identifier_extension p.use_authority_key_identifier_extension
          (ap (λ (v : AttributeCertificateView). v.use_authority_key_identifier_extension) s.view),
    ) refl
