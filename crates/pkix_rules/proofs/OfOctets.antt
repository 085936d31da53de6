-- The rules that octets break, from what is read of them.
use Rattle.std.proofs.Common.{ap, not, sym, Bool, List, Option, Some, ℕ, ◌++◌, ◌∙◌, ◌≡◌}
use Rattle.der_tree.specs.Form.{value_of}
use Rattle.pkix_attr.specs.Certificates.{attribute_certificate_info}
use Rattle.pkix_attr.specs.declared.certificate.AttributeCertificateInfo.{AttributeCertificateInfo}
use Rattle.pkix_cert.specs.Certificates.{tbs_certificate}
use Rattle.pkix_cert.specs.Requests.{certification_request_info}
use Rattle.pkix_cert.specs.Revocations.{tbs_cert_list}
use Rattle.pkix_cert.specs.declared.certificate.TbsCertificate.{TbsCertificate}
use Rattle.pkix_cert.specs.declared.request.CertificationRequestInfo.{CertificationRequestInfo}
use Rattle.pkix_cert.specs.declared.revocation.TbsCertList.{TbsCertList}
use Rattle.strict_der.specs.Strict.{is_strict}
use Rattle.pkix_rules.specs.Attributes.{attribute_certificate_found, attribute_certificate_rules}
use Rattle.pkix_rules.specs.Attributes.{rules_of as attribute_rules_of}
use Rattle.pkix_rules.specs.Certificates.{certificate_found, certificate_rules, issuer_key_id, issuer_statements, statements_of}
use Rattle.pkix_rules.specs.Certificates.{rules_of as certificate_rules_of}
use Rattle.pkix_rules.specs.Lists.{list_found, list_rules}
use Rattle.pkix_rules.specs.Lists.{rules_of as list_rules_of}
use Rattle.pkix_rules.specs.Requests.{request_found, request_rules}
use Rattle.pkix_rules.specs.Requests.{rules_of as request_rules_of}
use Rattle.pkix_rules.specs.declared.certificate.Statements.{Statements}
use Rattle.rule_table.specs.Found.{when}
use Rattle.rule_table.specs.declared.rule.Rule.{Rule}
use Rattle.rule_table.specs.declared.rule.Rule.TheVariants.{NotStrictDer}

pub of_certificate : (message : List ℕ) (octets : Option (List ℕ)) (c : TbsCertificate) (s : Statements) (issuer : Option Statements) (strict : Bool) (ws : List Rule)
    → value_of tbs_certificate message ≡ Some c → s ≡ statements_of c → issuer ≡ issuer_statements octets → strict ≡ is_strict message
    → ws ≡ certificate_rules_of s issuer ++ when (not strict) NotStrictDer → ws ≡ certificate_rules message octets
unfolding certificate_rules
of_certificate message octets c s issuer strict ws reads says is_read tells are =
    are
    ∙ (ap (λ x. certificate_rules_of x issuer ++ when (not strict) NotStrictDer) says
    ∙ (ap (λ x. certificate_rules_of (statements_of c) x ++ when (not strict) NotStrictDer) is_read
    ∙ (ap (λ x. certificate_rules_of (statements_of c) (issuer_statements octets) ++ when (not x) NotStrictDer) tells
    ∙ sym (ap (λ x. certificate_found (is_strict message) x (issuer_statements octets)) reads))))

pub of_request : (message : List ℕ) (r : CertificationRequestInfo) (strict : Bool) (ws : List Rule)
    → value_of certification_request_info message ≡ Some r → strict ≡ is_strict message
    → ws ≡ request_rules_of r ++ when (not strict) NotStrictDer → ws ≡ request_rules message
unfolding request_rules
of_request message r strict ws reads tells are =
    are
    ∙ (ap (λ x. request_rules_of r ++ when (not x) NotStrictDer) tells ∙ sym (ap (λ x. request_found (is_strict message) x) reads))

pub of_list : (message : List ℕ) (octets : Option (List ℕ)) (l : TbsCertList) (key : Option (List ℕ)) (strict : Bool) (ws : List Rule)
    → value_of tbs_cert_list message ≡ Some l → key ≡ issuer_key_id octets → strict ≡ is_strict message
    → ws ≡ list_rules_of l key ++ when (not strict) NotStrictDer → ws ≡ list_rules message octets
unfolding list_rules
of_list message octets l key strict ws reads is_read tells are =
    are
    ∙ (ap (λ x. list_rules_of l x ++ when (not strict) NotStrictDer) is_read
    ∙ (ap (λ x. list_rules_of l (issuer_key_id octets) ++ when (not x) NotStrictDer) tells
    ∙ sym (ap (λ x. list_found (is_strict message) x (issuer_key_id octets)) reads)))

pub of_attributes : (message : List ℕ) (octets : Option (List ℕ)) (a : AttributeCertificateInfo) (key : Option (List ℕ)) (strict : Bool) (ws : List Rule)
    → value_of attribute_certificate_info message ≡ Some a → key ≡ issuer_key_id octets → strict ≡ is_strict message
    → ws ≡ attribute_rules_of a key ++ when (not strict) NotStrictDer → ws ≡ attribute_certificate_rules message octets
unfolding attribute_certificate_rules
of_attributes message octets a key strict ws reads is_read tells are =
    are
    ∙ (ap (λ x. attribute_rules_of a x ++ when (not strict) NotStrictDer) is_read
    ∙ (ap (λ x. attribute_rules_of a (issuer_key_id octets) ++ when (not x) NotStrictDer) tells
    ∙ sym (ap (λ x. attribute_certificate_found (is_strict message) x (issuer_key_id octets)) reads)))
