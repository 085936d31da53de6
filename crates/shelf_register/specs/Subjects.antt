-- Whom certificates are for, as `find` shows it.
use Rattle.std.specs.Prelude.{ℕ, Bool, ◌==◌, cond, find, length, nat_eq, List, ◌++◌, codes, refl, Option, Some, None}
use Rattle.std.specs.Cmp.Lexicographic.{pointwise}
use Rattle.std.specs.List.{join_by}
use Rattle.std.specs.Option.{option_map}
use Rattle.asn1_core.specs.Binds.{◌>>=◌}
use Rattle.der_tree.specs.Codec.{Codec}
use Rattle.der_tree.specs.Form.{value_of}
use Rattle.der_tree.specs.Grammar.{sequence_of}
use Rattle.hex.specs.Hex.{encode_lower}
use Rattle.pkix_attr.specs.Certificates.{attribute_certificate, attribute_certificate_info}
use Rattle.pkix_attr.specs.declared.certificate.AttributeCertificateInfo.{AttributeCertificateInfo}
use Rattle.pkix_attr.specs.declared.holder.IssuerSerial.{IssuerSerial}
use Rattle.pkix_cert.specs.Certificates.{certificate, tbs_certificate}
use Rattle.pkix_cert.specs.ExtensionIds.{ce_subject_alt_name, id_ce}
use Rattle.pkix_cert.specs.Held.{extensions_in}
use Rattle.pkix_cert.specs.declared.certificate.TbsCertificate.{TbsCertificate}
use Rattle.pkix_cert.specs.declared.extension.Extension.{Extension}
use Rattle.pkix_cert.specs.declared.extension.Extensions.{Extensions}
use Rattle.pkix_name.specs.GeneralNames.{general_name}
use Rattle.pkix_name.specs.Names.{name_parts}
use Rattle.pkix_name.specs.declared.general_name.GeneralName.{GeneralName}
use Rattle.pkix_name.specs.declared.name.Name.{Name}
use Rattle.register_record.specs.declared.event.Kind.{Kind}
use Rattle.register_record.specs.declared.event.Kind.TheVariants as kind
use Rattle.register_record.specs.declared.state.Content.{Content}
use Rattle.register_record.specs.declared.state.Content.TheVariants.{Pending, Sealed}
use Rattle.shelf_explain.specs.GeneralNames.{general_name_text}
use Rattle.shelf_explain.specs.Names.{name_text}

-- ---- names, as `explain` shows them

unfoldable pub names_text : Option (List GeneralName) → List ℕ
names_text None = codes "-"
names_text (Some names) = join_by general_name_text (codes ", ") names

abbrev pub general_names : Codec (List GeneralName)
general_names = sequence_of general_name 0 None refl

-- the contents of the first extension with the subject's other names (RFC 5280, 4.2.1.6)
abbrev pub names_contents : List Extension → Option (List ℕ)
names_contents es = find (λ e. pointwise nat_eq e.extn_id (id_ce ce_subject_alt_name)) es >>= λ e. Some e.extn_value

unfoldable pub alternative_names : List Extension → Option (List GeneralName)
alternative_names es = names_contents es >>= value_of general_names

abbrev pub has_no_parts : Name → Bool
has_no_parts n = length (name_parts n) == 0

-- an empty subject says nothing: then the other names do
unfoldable pub subject_or_names : Name → Option Extensions → List ℕ
subject_or_names subject es = cond (has_no_parts subject) (names_text (alternative_names (extensions_in es))) (name_text subject)

-- ---- certificates

unfoldable pub tbs_text : Option TbsCertificate → List ℕ
tbs_text None = codes "-"
tbs_text (Some t) = subject_or_names t.subject t.extensions

-- a certificate by its number and its issuer's names
unfoldable pub certificate_text : IssuerSerial → List ℕ
certificate_text c = codes "certificate " ++ encode_lower c.serial ++ codes " of " ++ join_by general_name_text (codes ", ") c.issuer

-- who holds attributes, by a certificate or by names (RFC 5755, 4.2.2)
unfoldable pub holder_text : Option IssuerSerial → Option (List GeneralName) → List ℕ
holder_text (Some c) names = certificate_text c
holder_text None names = names_text names

unfoldable pub info_text : Option AttributeCertificateInfo → List ℕ
info_text None = codes "-"
info_text (Some i) = holder_text i.holder.base_certificate_id i.holder.entity_name

-- ---- what the record has of a certificate: its message, or its octets

abbrev pub tbs_in : List ℕ → Option TbsCertificate
tbs_in octets = option_map (λ c. c.tbs_certificate) (value_of certificate octets)

abbrev pub info_in : List ℕ → Option AttributeCertificateInfo
info_in octets = option_map (λ c. c.info) (value_of attribute_certificate octets)

unfoldable pub certificate_subject : Content → List ℕ
certificate_subject (Pending message) = tbs_text (value_of tbs_certificate message)
certificate_subject (Sealed octets) = tbs_text (tbs_in octets)

unfoldable pub holder_of : Content → List ℕ
holder_of (Pending message) = info_text (value_of attribute_certificate_info message)
holder_of (Sealed octets) = info_text (info_in octets)

unfoldable pub subject_text : Kind → Content → List ℕ
subject_text kind.Certificate content = certificate_subject content
subject_text kind.AttributeCertificate content = holder_of content
