-- Why nothing that is issued under a certificate would be valid (RFC 5280, 4.1, 4.2 and 6.1): what makes each path through it invalid.
use Rattle.std.specs.Prelude.{ℕ, Bool, false, ◌&&◌, ◌||◌, not, cond, is_none, nat_eq, List, [], ◌∷◌, Option, Some, None, Result, Ok, Err, refl}
use Rattle.std.specs.List.{list_any, starts_with}
use Rattle.std.specs.Str.{bytes_eq}
use Rattle.asn1_core.specs.Bits.{Bits, has_bit}
use Rattle.asn1_core.specs.Twos.{is_negative}
use Rattle.der_tree.specs.Codec.{Codec}
use Rattle.der_tree.specs.Element.{Element, one_element}
use Rattle.der_tree.specs.Form.{value_of}
use Rattle.der_tree.specs.Grammar.{sequence_of}
use Rattle.der_tree.specs.PrimitiveTypes.{bit_string, integer, octet_string}
use Rattle.extension_lookup.specs.Lookup.{are_distinct, contents_at, ids_of, read_from}
use Rattle.pkix_cert.specs.Constraints.{basic_constraints, name_constraints}
use Rattle.pkix_cert.specs.ExtensionIds as ids
use Rattle.pkix_cert.specs.Views.{CertificateParts, ExtensionParts, certificate_parts}
use Rattle.pkix_cert.specs.declared.constraint.BasicConstraints.{BasicConstraints}
use Rattle.pkix_name.specs.GeneralNames.{general_name}
use Rattle.pkix_trust.specs.Policies.{policy_constraints, policy_information, policy_mapping}
use Rattle.shelf_fault.specs.Faults.{and_then, some_or}
use Rattle.shelf_fault.specs.declared.fault.Fault.{Fault}
use Rattle.shelf_fault.specs.declared.fault.Fault.TheVariants.{Issuer}
use Rattle.shelf_fault.specs.declared.fault.IssuerFault.{IssuerFault}
use Rattle.shelf_fault.specs.declared.fault.IssuerFault.TheVariants.{EmptySubject, NegativePathLength, NoUsage, NotRead, NotVersion3, OtherAlgorithm, RepeatedExtension, SubjectNotStrict, UnknownCritical, UnreadExtension}
use Rattle.strict_der.specs.Strict.{is_strict}

-- ---- any certificate

-- 4.1.2.4: its subject, which is the issuer's name of what it issues, has no part; the DER of no parts
abbrev pub has_empty_subject : CertificateParts → Bool
has_empty_subject p = bytes_eq p.subject (48 ∷ 0 ∷ [])

-- 4.1.1.2: what is signed has another algorithm than the one after it
abbrev pub algorithms_differ : CertificateParts → Bool
algorithms_differ p = not (bytes_eq p.tbs_signature p.signature_algorithm)

-- 6.1.4 (o), 6.1.5 (f): those that a step of path validation processes, and those that bind only who uses the key, looks for revocation lists or looks
-- for certificates
abbrev pub processed : List ℕ
processed =
    ids.ce_key_usage ∷ ids.ce_subject_alt_name ∷ ids.ce_basic_constraints ∷ ids.ce_name_constraints ∷ ids.ce_certificate_policies ∷ ids.ce_policy_mappings
    ∷ ids.ce_policy_constraints ∷ ids.ce_inhibit_any_policy ∷ []

abbrev pub left_to_others : List ℕ
left_to_others =
    ids.ce_ext_key_usage ∷ ids.ce_crl_distribution_points ∷ ids.ce_freshest_crl ∷ ids.ce_authority_key_identifier ∷ ids.ce_subject_key_identifier
    ∷ ids.ce_issuer_alt_name ∷ []

unfoldable pub is_one_of : List ℕ → List ℕ → Bool
is_one_of arcs id = list_any (λ arc. bytes_eq id (ids.id_ce_der arc)) arcs

abbrev pub is_unknown_critical : ExtensionParts → Bool
is_unknown_critical e = e.critical && not (is_one_of processed e.id) && not (is_one_of left_to_others e.id)

-- one of the nine bits that have a meaning is set (4.2.1.3): digitalSignature, nonRepudiation, keyEncipherment, dataEncipherment
abbrev pub has_first_usages : Bits → Bool
has_first_usages b = has_bit b 0 || has_bit b 1 || has_bit b 2 || has_bit b 3

-- keyAgreement, keyCertSign, cRLSign, encipherOnly, decipherOnly
abbrev pub has_last_usages : Bits → Bool
has_last_usages b = has_bit b 4 || has_bit b 5 || has_bit b 6 || has_bit b 7 || has_bit b 8

abbrev pub has_usage : Bits → Bool
has_usage b = has_first_usages b || has_last_usages b

abbrev pub lacks_usage : Option Bits → Bool
lacks_usage None = false
lacks_usage (Some b) = not (has_usage b)

-- 4.2.1.3: the extension is there, and "at least one of the bits MUST be set to 1"
unfoldable pub states_no_usage : CertificateParts → Bool
states_no_usage p = lacks_usage (read_from bit_string (contents_at (ids.id_ce_der ids.ce_key_usage) p.extensions))

-- the contents of the extension with that last arc can't be read as its type
abbrev pub is_unread_value : {A : Type 0} → Codec A → Option (List ℕ) → Bool
is_unread_value c None = false
is_unread_value c (Some octets) = is_none (value_of c octets)

abbrev pub is_unread : {A : Type 0} → Codec A → ℕ → CertificateParts → Bool
is_unread c arc p = is_unread_value c (contents_at (ids.id_ce_der arc) p.extensions)

abbrev pub is_unread_list : {A : Type 0} → Codec A → ℕ → CertificateParts → Bool
is_unread_list c arc p = is_unread (sequence_of c 0 None refl) arc p

-- 4.2.1.2, 4.2.1.3, 4.2.1.6, 4.2.1.9, 4.2.1.10
abbrev pub has_unread_names : CertificateParts → Bool
has_unread_names p =
    is_unread octet_string ids.ce_subject_key_identifier p || is_unread bit_string ids.ce_key_usage p || is_unread_list general_name ids.ce_subject_alt_name p
    || is_unread basic_constraints ids.ce_basic_constraints p || is_unread name_constraints ids.ce_name_constraints p

-- 4.2.1.4, 4.2.1.5, 4.2.1.11, 4.2.1.14
abbrev pub has_unread_policies : CertificateParts → Bool
has_unread_policies p =
    is_unread_list policy_information ids.ce_certificate_policies p || is_unread_list policy_mapping ids.ce_policy_mappings p
    || is_unread policy_constraints ids.ce_policy_constraints p || is_unread integer ids.ce_inhibit_any_policy p

-- one that its identifier in what it issues is made of, or that a step of path validation reads
unfoldable pub has_unread_extension : CertificateParts → Bool
has_unread_extension p = has_unread_names p || has_unread_policies p

-- version 3, which in DER comes first, as [0] 2 (4.1.2.1; 6.1.4 (k))
abbrev pub begins_as_version_3 : Option Element → Bool
begins_as_version_3 None = false
begins_as_version_3 (Some s) = starts_with nat_eq s.content (160 ∷ 3 ∷ 2 ∷ 1 ∷ 2 ∷ [])

abbrev pub is_version_3 : CertificateParts → Bool
is_version_3 p = begins_as_version_3 (one_element p.tbs)

-- the first of these; 4.2: no extension occurs twice
unfoldable pub issuer_fault : CertificateParts → Option IssuerFault
issuer_fault p =
    cond (not (is_version_3 p)) (Some NotVersion3)
    (cond (has_empty_subject p) (Some EmptySubject)
    (cond (not (is_strict p.subject)) (Some SubjectNotStrict)
    (cond (algorithms_differ p) (Some OtherAlgorithm)
    (cond (not (are_distinct (ids_of p.extensions))) (Some RepeatedExtension)
    (cond (list_any is_unknown_critical p.extensions) (Some UnknownCritical)
    (cond (has_unread_extension p) (Some UnreadExtension)
    (cond (states_no_usage p) (Some NoUsage) None)))))))

-- ---- an authority's

abbrev pub is_below_zero : Option (List ℕ) → Bool
is_below_zero None = false
is_below_zero (Some n) = is_negative n

abbrev pub has_length_below_zero : Option BasicConstraints → Bool
has_length_below_zero None = false
has_length_below_zero (Some c) = is_below_zero c.path_len_constraint

-- 4.2.1.9: INTEGER (0..MAX)
unfoldable pub has_negative_path_length : CertificateParts → Bool
has_negative_path_length p = has_length_below_zero (read_from basic_constraints (contents_at (ids.id_ce_der ids.ce_basic_constraints) p.extensions))

abbrev pub authority_fault : CertificateParts → Option IssuerFault
authority_fault p = cond (has_negative_path_length p) (Some NegativePathLength) None

-- ---- octets

abbrev pub unless_fault : Option IssuerFault → Result (Unit {0}) Fault
unless_fault None = Ok tt
unless_fault (Some f) = Err (Issuer f)

-- none of them is there in the certificate
unfoldable pub issuer_checked : List ℕ → Result (Unit {0}) Fault
issuer_checked octets = and_then (some_or (certificate_parts octets) (Issuer NotRead)) (λ p. unless_fault (issuer_fault p))

-- nor in an authority's
unfoldable pub authority_checked : List ℕ → Result (Unit {0}) Fault
authority_checked octets =
    and_then (some_or (certificate_parts octets) (Issuer NotRead)) (λ p.
    and_then (unless_fault (issuer_fault p)) (λ u.
    unless_fault (authority_fault p)))
