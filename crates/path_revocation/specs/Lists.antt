-- Whether a list may be used (RFC 5280, 5.1, 5.2 and 6.3.3 (a)), and who signed it (6.3.3 (f) and (g)).
use Rattle.std.specs.Prelude.{Bool, Err, List, None, Ok, Option, Result, Some, false, is_none, not, true, ℕ, ◌&&◌, [], ◌==◌, ◌∷◌}
use Rattle.std.specs.List.{filter, list_any}
use Rattle.std.specs.Str.{bytes_eq}
use Rattle.jiff.specs.Types.{DateTime}
use Rattle.asn1_core.specs.Binds.{◌>>=◌}
use Rattle.asn1_core.specs.Bits.{Bits, has_bit}
use Rattle.der_tree.specs.Codec.{Codec}
use Rattle.der_tree.specs.Element.{element_octets}
use Rattle.der_tree.specs.Tree.{PlainTree}
use Rattle.der_tree.specs.TreeElement.{element_of}
use Rattle.der_tree.specs.declared.error.EncodeError.{EncodeError}
use Rattle.pkix_cert.specs.Algorithms.{algorithm_identifier, subject_public_key_info}
use Rattle.pkix_cert.specs.Distributions.{issuing_distribution_point}
use Rattle.pkix_cert.specs.ExtensionIds.{ce_authority_key_identifier, ce_crl_number, ce_delta_crl_indicator, ce_freshest_crl, ce_issuer_alt_name, ce_issuing_distribution_point, id_ce}
use Rattle.pkix_cert.specs.Held.{extensions_in}
use Rattle.pkix_cert.specs.Revocations.{tbs_cert_list}
use Rattle.pkix_cert.specs.declared.algorithm.AlgorithmIdentifier.{AlgorithmIdentifier}
use Rattle.pkix_cert.specs.declared.algorithm.SubjectPublicKeyInfo.{SubjectPublicKeyInfo}
use Rattle.pkix_cert.specs.declared.distribution.IssuingDistributionPoint.{IssuingDistributionPoint}
use Rattle.pkix_cert.specs.declared.revocation.CertificateList.{CertificateList}
use Rattle.pkix_cert.specs.declared.time.Time.{Time}
use Rattle.path_names.specs.NameMatching.{names_match}
use Rattle.path_revocation.specs.Entries.{are_readable_entries}
use Rattle.path_revocation.specs.Extensions.{are_once, can_be_read, contents_at, is_unprocessed, said, same_id}
use Rattle.pkix_cert.specs.Times.{moment_of}
use Rattle.path_revocation.specs.Times.{is_earlier}
use Rattle.path_revocation.specs.declared.given.GivenList.{GivenList}
use Rattle.path_revocation.specs.declared.given.ListIssuer.{ListIssuer}
use Rattle.path_revocation.specs.declared.given.RevocationInputs.{RevocationInputs}

-- ---- times

-- 5.1.2.5: each list says when the next one comes
abbrev pub is_over : DateTime → Option Time → Bool
is_over at None = true
is_over at (Some next) = is_earlier (moment_of next) at

-- not before this update
abbrev pub has_begun : DateTime → CertificateList → Bool
has_begun at l = not (is_earlier at (moment_of l.tbs_cert_list.this_update))

-- not after the next update
unfoldable pub is_current : DateTime → CertificateList → Bool
is_current at l = not (is_over at l.tbs_cert_list.next_update)

-- ---- extensions

unfoldable pub point_contents : CertificateList → Option (List ℕ)
point_contents l = contents_at (id_ce ce_issuing_distribution_point) l.tbs_cert_list.crl_extensions

-- 5.2.5
unfoldable pub issuing_point : CertificateList → Option IssuingDistributionPoint
issuing_point l = said issuing_distribution_point (point_contents l)

-- it isn't a delta list (5.2.4)
unfoldable pub is_complete : CertificateList → Bool
is_complete l = is_none (contents_at (id_ce ce_delta_crl_indicator) l.tbs_cert_list.crl_extensions)

-- 5.2: with a critical extension that isn't processed a list isn't used; nor with one that occurs twice
abbrev pub processed_of_lists : List (List ℕ)
processed_of_lists =
    id_ce ce_crl_number ∷ id_ce ce_issuing_distribution_point ∷ id_ce ce_authority_key_identifier ∷ id_ce ce_issuer_alt_name
    ∷ id_ce ce_freshest_crl ∷ id_ce ce_delta_crl_indicator ∷ []

unfoldable pub is_readable : CertificateList → Bool
is_readable l =
    not (list_any (is_unprocessed processed_of_lists) (extensions_in l.tbs_cert_list.crl_extensions))
    && are_once (extensions_in l.tbs_cert_list.crl_extensions) && can_be_read issuing_distribution_point (point_contents l)

-- ---- 5.1.1.2

abbrev pub same_octets : Option (List ℕ) → Option (List ℕ) → Bool
same_octets None None = true
same_octets (Some a) (Some b) = bytes_eq a b
same_octets a b = false

abbrev pub same_algorithm : AlgorithmIdentifier → AlgorithmIdentifier → Bool
same_algorithm a b = same_id a.algorithm b.algorithm && same_octets a.parameters b.parameters

-- ---- 6.3.3 (a)

-- of a complete list or of a delta: it has begun, and can be read
unfoldable pub is_usable : DateTime → CertificateList → Bool
is_usable at l =
    has_begun at l && same_algorithm l.tbs_cert_list.signature l.signature_algorithm && is_readable l
    && are_readable_entries l.tbs_cert_list.revoked_certificates

-- ---- 6.3.3 (f) and (g)

-- where key usage is there, it has cRLSign, bit 6 (4.2.1.3)
abbrev pub may_sign_lists : Option Bits → Bool
may_sign_lists None = true
may_sign_lists (Some usage) = has_bit usage 6

-- (f), for the end of a valid path
unfoldable pub is_issuer_of : CertificateList → ListIssuer → Bool
is_issuer_of l i = names_match i.name l.tbs_cert_list.issuer && may_sign_lists i.key_usage

abbrev pub tree_in : Result PlainTree EncodeError → Option PlainTree
tree_in (Ok t) = Some t
tree_in (Err e) = None

-- the DER encoding, where the value has one; each that was read has
unfoldable pub encoding_of : {A : Type 0} → Codec A → A → Option (List ℕ)
encoding_of c v = tree_in (c.tree_of v) >>= element_of >>= λ s. Some (element_octets s)

-- which signatures are accepted: of what is signed, the DER of the info of a public key, the DER of the signature's algorithm, and the signature
abbrev pub Accepts : Type 0
Accepts = List ℕ → List ℕ → List ℕ → List ℕ → Bool

abbrev pub accepted : Accepts → Option (List ℕ) → Option (List ℕ) → Option (List ℕ) → Bits → Bool
accepted accepts (Some info) (Some key_info) (Some algorithm) signature = (signature.unused == 0) && accepts info key_info algorithm signature.bytes
accepted accepts info key_info algorithm signature = false

-- (g)
unfoldable pub is_signed_by : Accepts → CertificateList → ListIssuer → Bool
is_signed_by accepts l i =
    accepted accepts (encoding_of tbs_cert_list l.tbs_cert_list) (encoding_of subject_public_key_info i.key_info)
    (encoding_of algorithm_identifier l.signature_algorithm) l.signature

abbrev pub is_sound_under : Accepts → DateTime → CertificateList → Option ListIssuer → Bool
is_sound_under accepts at l None = false
is_sound_under accepts at l (Some i) = is_issuer_of l i && is_usable at l && is_signed_by accepts l i

-- (a), (f) and (g): the list can be used, and its issuer signed it
unfoldable pub is_sound : Accepts → DateTime → GivenList → Bool
is_sound accepts at g = is_sound_under accepts at g.list g.issuer

-- those that are so; of the others none is looked at
unfoldable pub sound_lists : Accepts → RevocationInputs → List GivenList
sound_lists accepts x = filter (is_sound accepts x.at) x.lists

-- ---- the keys of two issuers

abbrev pub same_bits : Bits → Bits → Bool
same_bits a b = (a.unused == b.unused) && bytes_eq a.bytes b.bytes

abbrev pub same_key_info : SubjectPublicKeyInfo → SubjectPublicKeyInfo → Bool
same_key_info a b = same_algorithm a.algorithm b.algorithm && same_bits a.subject_public_key b.subject_public_key

abbrev pub same_key : Option ListIssuer → Option ListIssuer → Bool
same_key (Some i) (Some j) = same_key_info i.key_info j.key_info
same_key i j = false
