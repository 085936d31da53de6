-- Delta lists (RFC 5280, 5.2.4 and 6.3.3 (a), (c), (h) and (i)).
use Rattle.std.specs.Prelude.{Bool, List, None, Option, Some, cond, false, fold, is_some, true, ℕ, ◌&&◌, ◌||◌}
use Rattle.std.specs.Ordering.{int_cmp, is_le, is_lt}
use Rattle.jiff.specs.Types.{DateTime}
use Rattle.asn1_core.specs.Twos.{signed}
use Rattle.der_tree.specs.PrimitiveTypes.{integer}
use Rattle.pkix_cert.specs.ExtensionIds.{ce_authority_key_identifier, ce_crl_number, ce_delta_crl_indicator, ce_freshest_crl, id_ce}
use Rattle.pkix_cert.specs.declared.extension.Extensions.{Extensions}
use Rattle.pkix_cert.specs.declared.revocation.CertificateList.{CertificateList}
use Rattle.path_names.specs.NameMatching.{names_match}
use Rattle.path_revocation.specs.Entries.{found}
use Rattle.path_revocation.specs.Extensions.{contents_at, said}
use Rattle.path_revocation.specs.Lists.{is_current, point_contents, same_key, same_octets}
use Rattle.path_revocation.specs.declared.delta.Delta.{Delta}
use Rattle.path_revocation.specs.declared.entry.Revocation.{Revocation}
use Rattle.path_revocation.specs.declared.given.GivenList.{GivenList}
use Rattle.path_revocation.specs.declared.given.RevocationInputs.{RevocationInputs}
use Rattle.path_revocation.specs.declared.subject.Subject.{Subject}

-- ---- what lists say

-- 5.2.3
unfoldable pub crl_number : CertificateList → Option (List ℕ)
crl_number l = said integer (contents_at (id_ce ce_crl_number) l.tbs_cert_list.crl_extensions)

-- 5.2.4: the number of the list that the delta adds to
unfoldable pub base_number : CertificateList → Option (List ℕ)
base_number l = said integer (contents_at (id_ce ce_delta_crl_indicator) l.tbs_cert_list.crl_extensions)

unfoldable pub key_contents : CertificateList → Option (List ℕ)
key_contents l = contents_at (id_ce ce_authority_key_identifier) l.tbs_cert_list.crl_extensions

-- where the newest list is, is said there (4.2.1.15, 5.2.6)
unfoldable pub has_freshest : Option Extensions → Bool
has_freshest extensions = is_some (contents_at (id_ce ce_freshest_crl) extensions)

-- what is said of the certificate there (5.3.3)
unfoldable pub listed_on : Subject → CertificateList → Option Revocation
listed_on c l = found c.issuer c.serial_number (names_match l.tbs_cert_list.issuer c.issuer) l.tbs_cert_list.revoked_certificates

-- ---- 6.3.3 (c)

-- 5.2.4: the complete list is no older than the base, and older than the delta
abbrev pub are_in_order : Option (List ℕ) → Option (List ℕ) → Option (List ℕ) → Bool
are_in_order (Some base) (Some complete) (Some delta) = is_le (int_cmp (signed base) (signed complete)) && is_lt (int_cmp (signed complete) (signed delta))
are_in_order base complete delta = false

unfoldable pub follows : CertificateList → CertificateList → Bool
follows l d = are_in_order (base_number d) (crl_number l) (crl_number d)

-- (1) the issuer, (2) the issuing distribution point, (3) the authority key identifier; and the numbers
unfoldable pub is_delta_of : CertificateList → CertificateList → Bool
is_delta_of l d =
    names_match d.tbs_cert_list.issuer l.tbs_cert_list.issuer && same_octets (point_contents d) (point_contents l)
    && same_octets (key_contents d) (key_contents l) && follows l d

-- ---- 6.3.3 (a), (c) and (h)

-- of lists that can be used and are well signed: under the key of the complete list's issuer
unfoldable pub is_used_delta : DateTime → GivenList → GivenList → Bool
is_used_delta at g d = is_delta_of g.list d.list && same_key g.issuer d.issuer && is_current at d.list

abbrev pub is_newer : List ℕ → Option Delta → Bool
is_newer number None = true
is_newer number (Some best) = is_lt (int_cmp (signed best.number) (signed number))

abbrev pub newer_of : Option Delta → Option (List ℕ) → Option Revocation → Option Delta
newer_of best None listed = best
newer_of best (Some number) listed = cond (is_newer number best) (Some (record { number = number; listed = listed })) best

unfoldable pub newer : DateTime → Subject → GivenList → Option Delta → GivenList → Option Delta
newer at c g best d = cond (is_used_delta at g d) (newer_of best (crl_number d.list) (listed_on c d.list)) best

-- the current delta: the one with the highest number
unfoldable pub newest : List GivenList → DateTime → Subject → GivenList → Option Delta
newest sound at c g = fold (newer at c g) None sound

-- (a): use-deltas is set, and the certificate or the list says where the newest list is
unfoldable pub asks_delta : RevocationInputs → Subject → CertificateList → Bool
asks_delta x c l = x.use_deltas && (c.has_freshest || has_freshest l.tbs_cert_list.crl_extensions)

unfoldable pub delta_for : List GivenList → RevocationInputs → Subject → GivenList → Option Delta
delta_for sound x c g = cond (asks_delta x c g.list) (newest sound x.at c g) None

-- 6.3.3 (i)
abbrev pub listed_in : Option Delta → Option Revocation
listed_in None = None
listed_in (Some d) = d.listed
