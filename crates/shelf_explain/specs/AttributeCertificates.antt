-- The lines of an attribute certificate (RFC 5755, 4).
use Rattle.std.specs.Prelude.{ℕ, List, ◌++◌, codes, flat_map}
use Rattle.pkix_attr.specs.declared.certificate.AttributeCertificate.{AttributeCertificate}
use Rattle.pkix_attr.specs.declared.certificate.AttributeCertificateInfo.{AttributeCertificateInfo}
use Rattle.pkix_attr.specs.declared.digest.ObjectDigestInfo.{ObjectDigestInfo}
use Rattle.pkix_attr.specs.declared.holder.Holder.{Holder}
use Rattle.pkix_attr.specs.declared.holder.Issuer.{Issuer}
use Rattle.pkix_attr.specs.declared.holder.Issuer.TheVariants.{V1, V2}
use Rattle.pkix_attr.specs.declared.holder.IssuerSerial.{IssuerSerial}
use Rattle.pkix_attr.specs.declared.holder.V2Form.{V2Form}
use Rattle.pkix_name.specs.declared.name.Attribute.{Attribute}
use Rattle.shelf_explain.specs.BitNames.{bits_text}
use Rattle.shelf_explain.specs.Blocks.{algorithm_line, inner_algorithm, line_of, serial_line, signature_lines, titled_extensions}
use Rattle.shelf_explain.specs.GeneralNames.{each_text, general_name_text}
use Rattle.shelf_explain.specs.Keys.{algorithm_text}
use Rattle.shelf_explain.specs.Lines.{line}
use Rattle.shelf_explain.specs.Numbers.{integer_text}
use Rattle.shelf_explain.specs.Points.{serial_of_text}
use Rattle.shelf_explain.specs.Requests.{plain_attribute}
use Rattle.shelf_explain.specs.Times.{moment_text}

-- a certificate by its issuer and its number (4.2.2)
unfoldable pub issuer_serial_text : IssuerSerial → List ℕ
issuer_serial_text i = each_text general_name_text i.issuer ++ serial_of_text i.serial

unfoldable pub digest_text : ObjectDigestInfo → List ℕ
digest_text d = algorithm_text d.digest_algorithm ++ codes " " ++ bits_text d.object_digest

-- who holds the attributes (4.2.2)
unfoldable pub holder_lines : Holder → List ℕ
holder_lines h =
    line_of (codes "holder") (each_text general_name_text) h.entity_name
    ++ line_of (codes "holder certificate") issuer_serial_text h.base_certificate_id
    ++ line_of (codes "holder digest") digest_text h.object_digest_info

unfoldable pub form_lines : V2Form → List ℕ
form_lines f =
    line_of (codes "issuer") (each_text general_name_text) f.issuer_name
    ++ line_of (codes "issuer certificate") issuer_serial_text f.base_certificate_id
    ++ line_of (codes "issuer digest") digest_text f.object_digest_info

-- who issues them (4.2.3)
unfoldable pub issuer_lines : Issuer → List ℕ
issuer_lines (V1 names) = line (codes "  ") (codes "issuer") (each_text general_name_text names)
issuer_lines (V2 form) = form_lines form

unfoldable pub attributes_of : List Attribute → List ℕ
attributes_of attributes = flat_map plain_attribute attributes

unfoldable pub times_lines : AttributeCertificateInfo → List ℕ
times_lines info =
    serial_line (codes "  ") info.serial_number
    ++ line (codes "  ") (codes "not before") (moment_text info.attr_cert_validity_period.not_before)
    ++ line (codes "  ") (codes "not after") (moment_text info.attr_cert_validity_period.not_after)
    ++ line (codes "  ") (codes "version number") (integer_text info.version.0)

unfoldable pub info_lines : AttributeCertificateInfo → List ℕ
info_lines info =
    holder_lines info.holder
    ++ issuer_lines info.issuer
    ++ times_lines info
    ++ attributes_of info.attributes
    ++ line_of (codes "issuer unique id") bits_text info.issuer_unique_id
    ++ titled_extensions info.extensions

unfoldable pub attribute_certificate_lines : AttributeCertificate → List ℕ
attribute_certificate_lines c =
    info_lines c.info ++ inner_algorithm c.info.signature c.signature_algorithm ++ signature_lines c.signature_algorithm c.signature_value

-- of what is to be signed, alone
unfoldable pub unsigned_info_lines : AttributeCertificateInfo → List ℕ
unsigned_info_lines info = info_lines info ++ algorithm_line info.signature
