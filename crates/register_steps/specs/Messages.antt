-- What a message says of itself.
use Rattle.std.specs.Prelude.{ℕ, List, Option}
use Rattle.std.specs.Option.{option_map, option_or}
use Rattle.der_tree.specs.Form.{value_of}
use Rattle.jiff.specs.Words.{civil_seconds}
use Rattle.pkix_attr.specs.Certificates.{attribute_certificate_info}
use Rattle.pkix_attr.specs.declared.certificate.AttributeCertificateInfo.{AttributeCertificateInfo}
use Rattle.pkix_cert.specs.Certificates.{tbs_certificate}
use Rattle.pkix_cert.specs.Revocations.{tbs_cert_list}
use Rattle.pkix_cert.specs.Times.{moment_of}
use Rattle.pkix_cert.specs.declared.algorithm.AlgorithmIdentifier.{AlgorithmIdentifier}
use Rattle.pkix_cert.specs.declared.certificate.TbsCertificate.{TbsCertificate}
use Rattle.register_record.specs.declared.event.Kind.TheVariants.{Certificate, AttributeCertificate}
use Rattle.register_steps.specs.declared.message.Description.{Description}

-- its serial number, and the last second of its validity since 1970 (RFC 5280, 4.1.2.2, 4.1.2.5)
abbrev pub of_certificate : TbsCertificate → Description
of_certificate t = record { kind = Certificate; serial = t.serial_number; not_after = civil_seconds (moment_of t.validity.not_after) }

-- the same of an attribute certificate (RFC 5755, 4.2.5, 4.2.6)
abbrev pub of_attribute : AttributeCertificateInfo → Description
of_attribute i = record {
  kind = AttributeCertificate;
  serial = i.serial_number;
  not_after = civil_seconds i.attr_cert_validity_period.not_after.at;
}

-- what the DER of a TBSCertificate or of an AttributeCertificateInfo says
unfoldable pub described : List ℕ → Option Description
described message =
    option_or (option_map of_certificate (value_of tbs_certificate message)) (option_map of_attribute (value_of attribute_certificate_info message))

-- the algorithm by which a message says that it is signed: the DER of a TBSCertificate (RFC 5280, 4.1.2.3), of an AttributeCertificateInfo (RFC 5755,
-- 4.2.4) or of a TBSCertList (RFC 5280, 5.1.2.2)
unfoldable pub algorithm_in : List ℕ → Option AlgorithmIdentifier
algorithm_in message =
    option_or (option_map (λ t. t.signature) (value_of tbs_certificate message))
    (option_or (option_map (λ i. i.signature) (value_of attribute_certificate_info message))
    (option_map (λ t. t.signature) (value_of tbs_cert_list message)))
