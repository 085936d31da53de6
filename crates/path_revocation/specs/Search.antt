-- Whether a certificate is revoked, by the lists that are given (RFC 5280, 6.3).
use Rattle.std.specs.Prelude.{Bool, List, None, Option, Some, cond, false, fold, is_some, length, map, nat_le, not, refl, unwrap_or, ℕ, ◌&&◌, ◌||◌, []}
use Rattle.std.specs.Prelude.{◌++◌, ◌∷◌}
use Rattle.std.specs.Option.{option_or}
use Rattle.jiff.specs.Types.{DateTime}
use Rattle.asn1_core.specs.Binds.{◌>>=◌}
use Rattle.der_tree.specs.Codec.{Codec}
use Rattle.der_tree.specs.Grammar.{sequence_of}
use Rattle.pkix_cert.specs.Constraints.{basic_constraints}
use Rattle.pkix_cert.specs.Distributions.{distribution_point}
use Rattle.pkix_cert.specs.ExtensionIds.{ce_basic_constraints, ce_crl_distribution_points, ce_issuer_alt_name, id_ce}
use Rattle.pkix_cert.specs.declared.certificate.Certificate.{Certificate}
use Rattle.pkix_cert.specs.declared.constraint.BasicConstraints.{BasicConstraints}
use Rattle.pkix_cert.specs.declared.distribution.DistributionPoint.{DistributionPoint}
use Rattle.pkix_cert.specs.declared.distribution.DistributionPointName.TheVariants.{FullName}
use Rattle.pkix_cert.specs.declared.distribution.IssuingDistributionPoint.{IssuingDistributionPoint}
use Rattle.pkix_cert.specs.declared.revocation.CertificateList.{CertificateList}
use Rattle.pkix_name.specs.declared.general_name.GeneralName.TheVariants.{DirectoryName}
use Rattle.pkix_name.specs.declared.name.Name.{Name}
use Rattle.path_names.specs.NameMatching.{names_match}
use Rattle.path_revocation.specs.Deltas.{delta_for, has_freshest, listed_in, listed_on}
use Rattle.path_revocation.specs.Entries.{general_names, unless_removed}
use Rattle.path_revocation.specs.Extensions.{can_be_read, contents_at, said}
use Rattle.path_revocation.specs.Limits.{is_too_much, most_lists}
use Rattle.path_revocation.specs.Lists.{Accepts, is_complete, is_current, issuing_point, sound_lists}
use Rattle.path_revocation.specs.Newer.{is_superseded}
use Rattle.path_revocation.specs.Points.{has_scope, is_indirect, is_of_issuer}
use Rattle.path_revocation.specs.Reasons.{are_all, intersection, no_reasons, reasons_in, union}
use Rattle.path_revocation.specs.declared.delta.Delta.{Delta}
use Rattle.path_revocation.specs.declared.entry.Revocation.{Revocation}
use Rattle.path_revocation.specs.declared.finding.Finding.{Finding}
use Rattle.path_revocation.specs.declared.given.GivenList.{GivenList}
use Rattle.path_revocation.specs.declared.given.RevocationInputs.{RevocationInputs}
use Rattle.path_revocation.specs.declared.reasons.Reasons.{Reasons}
use Rattle.path_revocation.specs.declared.search.Search.{Search}
use Rattle.path_revocation.specs.declared.status.RevocationStatus.{RevocationStatus}
use Rattle.path_revocation.specs.declared.status.RevocationStatus.TheVariants.{Good, Revoked, Undetermined}
use Rattle.path_revocation.specs.declared.subject.Subject.{Subject}

-- ---- the certificate

abbrev pub points : Codec (List DistributionPoint)
points = sequence_of distribution_point 0 None refl

unfoldable pub constraints_contents : Certificate → Option (List ℕ)
constraints_contents c = contents_at (id_ce ce_basic_constraints) c.tbs_certificate.extensions

unfoldable pub points_contents : Certificate → Option (List ℕ)
points_contents c = contents_at (id_ce ce_crl_distribution_points) c.tbs_certificate.extensions

unfoldable pub names_contents : Certificate → Option (List ℕ)
names_contents c = contents_at (id_ce ce_issuer_alt_name) c.tbs_certificate.extensions

-- each of these extensions can be read, where it is there
unfoldable pub is_readable_certificate : Certificate → Bool
is_readable_certificate c =
    can_be_read basic_constraints (constraints_contents c) && can_be_read points (points_contents c) && can_be_read general_names (names_contents c)

abbrev pub says_ca : Option BasicConstraints → Bool
says_ca None = false
says_ca (Some b) = b.ca

-- the certificate includes basic constraints with cA (4.2.1.9)
unfoldable pub is_ca : Certificate → Bool
is_ca c = says_ca (said basic_constraints (constraints_contents c))

-- 6.3.3, at its end: a point without reasons and cRLIssuer, with the names of the certificate's issuer
unfoldable pub own_point : Certificate → DistributionPoint
own_point c = record {
  distribution_point = Some (FullName (DirectoryName c.tbs_certificate.issuer ∷ unwrap_or (said general_names (names_contents c)) []));
  reasons = None;
  crl_issuer = None;
}

-- each point of the certificate, and then that one
unfoldable pub points_of : Certificate → List DistributionPoint
points_of c = unwrap_or (said points (points_contents c)) [] ++ own_point c ∷ []

-- what the search is for
unfoldable pub subject_of : Certificate → Subject
subject_of c = record {
  issuer = c.tbs_certificate.issuer;
  serial_number = c.tbs_certificate.serial_number;
  is_ca = is_ca c;
  has_freshest = has_freshest c.tbs_certificate.extensions;
}

-- ---- 6.3.2: the state, with (a) reasons_mask and (b) cert_status, of which None is UNREVOKED

abbrev pub first_state : Search
first_state = record { reasons_mask = no_reasons; cert_status = None }

-- ---- 6.3.3, for a list

-- (i) on the delta, else (j) on the complete list, and (k)
unfoldable pub status_on : Subject → Option Delta → CertificateList → Option Revocation
status_on c delta l = unless_removed (option_or (listed_in delta) (listed_on c l))

-- (a): a list that isn't current any more is used with a delta alone
unfoldable pub is_in_force : DateTime → CertificateList → Option Delta → Bool
is_in_force at l delta = is_current at l || is_some delta

-- (a) speaks of the current list; more lists than one may be given, so none of them supersedes it
unfoldable pub counts : List GivenList → RevocationInputs → GivenList → Option Delta → Bool
counts sound x g delta = is_in_force x.at g.list delta && not (is_superseded sound x.at g delta)

-- at each point (b) (1) asks this
unfoldable pub can_correspond : Subject → CertificateList → Bool
can_correspond c l = names_match l.tbs_cert_list.issuer c.issuer || is_indirect (issuing_point l)

-- what it says, whatever the point
abbrev pub found_on : Subject → GivenList → Option Delta → Finding
found_on c g delta = record {
  issuer = g.list.tbs_cert_list.issuer;
  issuing_point = issuing_point g.list;
  status = status_on c delta g.list;
}

unfoldable pub finding_with : List GivenList → RevocationInputs → Subject → GivenList → Option Delta → Option Finding
finding_with sound x c g delta = cond (counts sound x g delta) (Some (found_on c g delta)) None

unfoldable pub finding_of : List GivenList → RevocationInputs → Subject → GivenList → Option Finding
finding_of sound x c g = cond (can_correspond c g.list && is_complete g.list) (finding_with sound x c g (delta_for sound x c g)) None

abbrev pub findings : List GivenList → RevocationInputs → Subject → List (Option Finding)
findings sound x c = map (finding_of sound x c) sound

-- ---- 6.3.3, for a point and a list

-- (b), of the list's issuer and its issuing distribution point
unfoldable pub corresponds : Subject → DistributionPoint → Name → Option IssuingDistributionPoint → Bool
corresponds c p issuer q = is_of_issuer c.issuer p.crl_issuer issuer q && has_scope c.is_ca p issuer q

-- (d): the intersection, where what isn't said is all-reasons
unfoldable pub interim_reasons : DistributionPoint → Option IssuingDistributionPoint → Reasons
interim_reasons p q = intersection (reasons_in p.reasons) (reasons_in (q >>= λ s. s.only_some_reasons))

-- (l): the certificate is revoked, and no other list is asked
unfoldable pub is_revoked : Search → Bool
is_revoked s = is_some s.cert_status

unfoldable pub told : Subject → DistributionPoint → Search → Finding → Search
told c p s f =
    cond (not (is_revoked s) && corresponds c p f.issuer f.issuing_point)
    (record { reasons_mask = union s.reasons_mask (interim_reasons p f.issuing_point); cert_status = f.status }) s

abbrev pub step : Subject → DistributionPoint → Search → Option Finding → Search
step c p s None = s
step c p s (Some f) = told c p s f

-- ---- 6.3.3, for all points and lists

unfoldable pub after_lists : Subject → List (Option Finding) → Search → DistributionPoint → Search
after_lists c fs s p = fold (step c p) s fs

unfoldable pub after_points : List GivenList → RevocationInputs → Certificate → Search
after_points sound x c = fold (after_lists (subject_of c) (findings sound x (subject_of c))) first_state (points_of c)

abbrev pub status_by : Reasons → Option Revocation → RevocationStatus
status_by mask (Some r) = Revoked r.at r.reason
status_by mask None = cond (are_all mask) Good Undetermined

unfoldable pub status_of : Search → RevocationStatus
status_of s = status_by s.reasons_mask s.cert_status

-- undetermined too where the points and the lists have more names than are compared
unfoldable pub status_at_points : List GivenList → RevocationInputs → Certificate → RevocationStatus
status_at_points sound x c =
    cond (not (is_too_much (subject_of c).issuer (points_of c) (findings sound x (subject_of c)))) (status_of (after_points sound x c)) Undetermined

-- and where an extension of the certificate can't be read, or there are more sound lists than are used
unfoldable pub status_among : List GivenList → RevocationInputs → Certificate → RevocationStatus
status_among sound x c = cond (is_readable_certificate c && nat_le (length sound) most_lists) (status_at_points sound x c) Undetermined

unfoldable pub revocation : Accepts → RevocationInputs → Certificate → RevocationStatus
revocation accepts x c = status_among (sound_lists accepts x) x c
