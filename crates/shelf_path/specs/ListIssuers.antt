-- Who may sign revocation lists (RFC 5280, 6.3.3 (f)), and which lists are asked of a certificate (6.3.3 (b) (1)).
use Rattle.std.specs.Prelude.{ℕ, ◌+◌, ◌*◌, ◌-◌, ◌&&◌, ◌||◌, Bool, true, false, cond, List, [], ◌∷◌, ◌++◌, length, min, nat_lt, fold, Option, Some, None, is_some, unwrap_or}
use Rattle.std.specs.List.{flat_map, list_any}
use Rattle.jiff.specs.Types.{DateTime}
use Rattle.asn1_core.specs.Binds.{◌>>=◌}
use Rattle.asn1_core.specs.Bits.{Bits, has_bit}
use Rattle.der_tree.specs.Form.{value_of}
use Rattle.der_tree.specs.PrimitiveTypes.{bit_string}
use Rattle.extension_lookup.specs.Lookup.{contents_at, read_from}
use Rattle.path_names.specs.NameMatching.{names_match}
use Rattle.path_revocation.specs.Lists.{Accepts, is_issuer_of}
use Rattle.path_revocation.specs.Search.{points, revocation}
use Rattle.path_revocation.specs.declared.given.GivenList.{GivenList}
use Rattle.path_revocation.specs.declared.given.ListIssuer.{ListIssuer}
use Rattle.path_revocation.specs.declared.given.RevocationInputs.{RevocationInputs}
use Rattle.path_revocation.specs.declared.status.RevocationStatus.{RevocationStatus}
use Rattle.path_revocation.specs.declared.status.RevocationStatus.TheVariants.{Good, Revoked, Undetermined}
use Rattle.path_validation.specs.Outcomes.{Outcome, invalid, outcome, valid}
use Rattle.path_validation.specs.declared.inputs.PathInputs.{PathInputs}
use Rattle.path_validation.specs.declared.inputs.TrustAnchor.{TrustAnchor}
use Rattle.pkix_cert.specs.Certificates.{certificate}
use Rattle.pkix_cert.specs.ExtensionIds.{ce_crl_distribution_points, ce_key_usage, id_ce_der}
use Rattle.pkix_cert.specs.Views.{CertificateParts, certificate_parts}
use Rattle.pkix_cert.specs.declared.certificate.Certificate.{Certificate}
use Rattle.pkix_cert.specs.declared.distribution.DistributionPoint.{DistributionPoint}
use Rattle.pkix_cert.specs.declared.revocation.CertificateList.{CertificateList}
use Rattle.pkix_name.specs.declared.name.Name.{Name}
use Rattle.shelf_path.specs.declared.list_issuer.KnownIssuers.{KnownIssuers}
use Rattle.signature_verifier.specs.Accepted.{accepts}

-- signatures by RSA, ECDSA and Ed25519, and none with SHA-1
abbrev pub accepts_signature : Accepts
accepts_signature = accepts (record { takes_sha1 = false })

-- ---- an issuer of lists

abbrev pub anchor_as_issuer : TrustAnchor → ListIssuer
anchor_as_issuer a = record { name = a.name; key_usage = None; key_info = a.key_info }

-- 4.2.1.3: none too where it can't be read, since the path is then invalid there
unfoldable pub key_usage_of : CertificateParts → Option Bits
key_usage_of p = read_from bit_string (contents_at (id_ce_der ce_key_usage) p.extensions)

-- of a certificate and its parts
abbrev pub as_issuer : CertificateParts → Certificate → ListIssuer
as_issuer p c = record { name = c.tbs_certificate.subject; key_usage = key_usage_of p; key_info = c.tbs_certificate.subject_public_key_info }

-- ---- the lists that are asked of a certificate

-- 4.2.1.13
unfoldable pub points_of : CertificateParts → List DistributionPoint
points_of p = unwrap_or (read_from points (contents_at (id_ce_der ce_crl_distribution_points) p.extensions)) []

-- a point names the issuer of its lists
abbrev pub names_issuer : List DistributionPoint → Bool
names_issuer ps = list_any (λ d. is_some d.crl_issuer) ps

-- (f): a list as one of this issuer, if it has that name, and the key may sign lists
unfoldable pub list_under : CertificateList → ListIssuer → List GivenList
list_under l i = cond (is_issuer_of l i) (record { list = l; issuer = Some i } ∷ []) []

-- as one of each of these, if it is a list of this issuer, or lists of any are asked
unfoldable pub list_by : List ListIssuer → Name → Bool → CertificateList → List GivenList
list_by known issuer of_any l = cond (names_match l.tbs_cert_list.issuer issuer || of_any) (flat_map (list_under l) known) []

-- the names of lists and of issuers that are compared for a certificate
abbrev pub most_pairs : ℕ
most_pairs = 65536

-- the lists of a certificate, each as one of each issuer of its name, unless they are more than are compared: those of the certificate's issuer, and of any
-- where a point names another. Which of them a point has is decided with the point (6.3.3 (b) (1))
unfoldable pub lists_of : List CertificateList → List ListIssuer → CertificateParts → Certificate → List GivenList
lists_of ls known p c =
    cond (nat_lt most_pairs (length ls * length known)) [] (flat_map (list_by known c.tbs_certificate.issuer (names_issuer (points_of p))) ls)

-- with delta lists (6.3.1)
abbrev pub revocation_inputs : DateTime → List GivenList → RevocationInputs
revocation_inputs at gs = record { at = at; use_deltas = true; lists = gs }

-- by these lists, whose signatures are checked unless they are more than are left
unfoldable pub status_by : DateTime → ℕ → List GivenList → Certificate → RevocationStatus
status_by at left gs c = cond (nat_lt left (length gs)) Undetermined (revocation accepts_signature (revocation_inputs at gs) c)

-- ---- how much is checked

-- the certificates of issuers of lists
abbrev pub most_issuers : ℕ
most_issuers = 16

-- the certificates in the path to such an issuer, its own included
abbrev pub most_certificates : ℕ
most_certificates = 8

-- the signatures of so many lists, each under each key of its issuer's name and for each certificate of which it is asked
abbrev pub most_checks : ℕ → ℕ
most_checks lists = min lists 65536 * 16 + 64

-- ---- other issuers (6.3.3 (f))

-- the path to the issuer is asked about at the same time and with the same anchor, whatever the policies are
abbrev pub issuer_inputs : PathInputs → PathInputs
issuer_inputs x = record {
  at = x.at;
  user_initial_policy_set = None;
  anchor = x.anchor;
  initial_policy_mapping_inhibit = false;
  initial_explicit_policy = false;
  initial_any_policy_inhibit = false;
  initial_permitted_subtrees = [];
  initial_excluded_subtrees = [];
  statuses = None;
}

-- each certificate again, with nothing after it
abbrev pub again : List CertificateParts → Option (List CertificateParts)
again [] = Some []
again (p ∷ ps) = certificate_parts p.whole >>= λ q. again ps >>= λ qs. Some (q ∷ qs)

-- the path of the certificates above and this one
unfoldable pub path_to : List CertificateParts → CertificateParts → Option (List CertificateParts)
path_to above k = again above >>= λ ps. certificate_parts k.whole >>= λ p. Some (ps ++ p ∷ [])

abbrev pub is_valid_outcome : Outcome → Bool
is_valid_outcome (valid given) = true
is_valid_outcome (invalid place why) = false

abbrev pub is_valid_path : PathInputs → Option (List CertificateParts) → Bool
is_valid_path x None = false
is_valid_path x (Some ps) = is_valid_outcome (outcome accepts_signature x ps)

-- 4.2.1.3: key usage is there, as in each certificate whose key signs lists, and has cRLSign, bit 6
abbrev pub has_crl_sign : Option Bits → Bool
has_crl_sign None = false
has_crl_sign (Some usage) = has_bit usage 6

-- the certificate may sign lists, names the last one above it or the anchor as its issuer, and is the end of a valid path
unfoldable pub may_sign : PathInputs → Name → List CertificateParts → CertificateParts → Certificate → Bool
may_sign x issuer above k c =
    has_crl_sign (key_usage_of k) && names_match issuer c.tbs_certificate.issuer && is_valid_path x (path_to above k)

-- if it is good
abbrev pub if_good : RevocationStatus → ListIssuer → List ListIssuer
if_good Good i = i ∷ []
if_good (Revoked at why) i = []
if_good Undetermined i = []

-- with the issuer whose certificate that is, if it is good by these lists
abbrev pub known_by : DateTime → KnownIssuers → List GivenList → CertificateParts → Certificate → KnownIssuers
known_by at known gs k c = record {
  last = known.last;
  issuers = known.issuers ++ if_good (status_by at known.left gs c) (as_issuer k c);
  left = known.left - length gs;
}

-- 6.1.3 (a) (3): it is good by the lists of the issuers that are known
unfoldable pub known_with : PathInputs → List CertificateList → List CertificateParts → KnownIssuers → CertificateParts → Certificate → KnownIssuers
known_with x ls above known k c = cond (may_sign x known.last above k c) (known_by x.at known (lists_of ls known.issuers k c) k c) known

abbrev pub known_if : PathInputs → List CertificateList → List CertificateParts → KnownIssuers → CertificateParts → Option Certificate → KnownIssuers
known_if x ls above known k None = known
known_if x ls above known k (Some c) = known_with x ls above known k c

unfoldable pub with_issuer : PathInputs → List CertificateList → List CertificateParts → KnownIssuers → CertificateParts → KnownIssuers
with_issuer x ls above known k = known_if x ls above known k (value_of certificate k.whole)

-- with those of these certificates that are issuers below the certificates above, in their order
abbrev pub with_each : PathInputs → List CertificateList → List CertificateParts → List CertificateParts → KnownIssuers → KnownIssuers
with_each x ls ks above known = fold (with_issuer x ls above) known ks

-- unless these are more than the path to such an issuer has
unfoldable pub with_issuers : PathInputs → List CertificateList → List CertificateParts → List CertificateParts → KnownIssuers → KnownIssuers
with_issuers x ls ks above known = cond (nat_lt (length above) most_certificates) (with_each x ls ks above known) known

-- ---- the issuers along the path

-- the anchor
abbrev pub known_first : List CertificateList → TrustAnchor → KnownIssuers
known_first ls a = record { last = a.name; issuers = anchor_as_issuer a ∷ []; left = most_checks (length ls) }

-- and each certificate that is passed: the path to it is the front of this one. So many more lists were checked
abbrev pub known_below : KnownIssuers → ℕ → CertificateParts → Certificate → KnownIssuers
known_below known checks p c = record {
  last = c.tbs_certificate.subject;
  issuers = known.issuers ++ as_issuer p c ∷ [];
  left = known.left - checks;
}
