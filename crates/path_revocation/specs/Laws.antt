-- What an answer says of the lists and their entries.
use Rattle.std.specs.Prelude.{List, None, Option, false, fold, true, [], ◌++◌, ◌∷◌, ◌≡◌, ◌⊎◌}
use Rattle.std.specs.List.{Contains}
use Rattle.jiff.specs.Types.{DateTime}
use Rattle.asn1_core.specs.IntegerOrder.{same_integer}
use Rattle.pkix_cert.specs.declared.certificate.Certificate.{Certificate}
use Rattle.pkix_cert.specs.declared.distribution.DistributionPoint.{DistributionPoint}
use Rattle.pkix_cert.specs.declared.revocation.CertificateList.{CertificateList}
use Rattle.pkix_cert.specs.declared.revocation.CrlReason.{CrlReason}
use Rattle.pkix_cert.specs.declared.revocation.RevokedCertificate.{RevokedCertificate}
use Rattle.path_names.specs.NameMatching.{names_match}
use Rattle.path_revocation.specs.Deltas.{delta_for, is_used_delta}
use Rattle.path_revocation.specs.Entries.{is_of_issuer, revocation_by}
use Rattle.path_revocation.specs.Lists.{Accepts, is_complete, is_sound, issuing_point, sound_lists}
use Rattle.path_revocation.specs.Newer.{is_superseded}
use Rattle.path_revocation.specs.Reasons.{are_all, no_reasons, union}
use Rattle.path_revocation.specs.Search.{corresponds, interim_reasons, is_in_force, points_of, revocation, status_on, subject_of}
use Rattle.path_revocation.specs.declared.delta.Delta.{Delta}
use Rattle.path_revocation.specs.declared.given.GivenList.{GivenList}
use Rattle.path_revocation.specs.declared.given.RevocationInputs.{RevocationInputs}
use Rattle.path_revocation.specs.declared.reasons.Reasons.{Reasons}
use Rattle.path_revocation.specs.declared.status.RevocationStatus.TheVariants.{Good, Revoked}

-- the list that is applied to it for the certificate
abbrev pub its_delta : Accepts → RevocationInputs → Certificate → GivenList → Option Delta
its_delta accepts x c g = delta_for (sound_lists accepts x) x (subject_of c) g

-- the list is one of those that are given, the point one of the certificate's; the list can be used, its issuer signed it ((f) and (g)), it is complete,
-- of that issuer and scope (6.3.3 (b)), in force ((a)), and superseded by none
pub record IsUsed (accepts : Accepts) (x : RevocationInputs) (c : Certificate) (p : DistributionPoint) (g : GivenList) : Type 0 where
  pub of_certificate : Contains (points_of c) p
  pub given : Contains x.lists g
  pub sound : is_sound accepts x.at g ≡ true
  pub complete : is_complete g.list ≡ true
  pub usable : corresponds (subject_of c) p g.list.tbs_cert_list.issuer (issuing_point g.list) ≡ true
  pub in_force : is_in_force x.at g.list (its_delta accepts x c g) ≡ true
  pub newest : is_superseded (sound_lists accepts x) x.at g (its_delta accepts x c g) ≡ false

-- the delta list is one of those that are given, can be used, is signed under the key of the list's issuer, and is applied to the list (6.3.3 (a), (c) and (h))
pub record IsApplied (accepts : Accepts) (x : RevocationInputs) (g : GivenList) (l : CertificateList) : Type 0 where
  pub delta : GivenList
  pub given : Contains x.lists delta
  pub sound : is_sound accepts x.at delta ≡ true
  pub is_it : l ≡ delta.list
  pub used : is_used_delta x.at g delta ≡ true

-- the entry is on the list with the serial number of the certificate, and the issuer there is the certificate's: the
-- one that the last entry so far names, or else the list's
pub record IsListed (c : Certificate) (l : CertificateList) (e : RevokedCertificate) : Type 0 where
  pub before : List RevokedCertificate
  pub after : List RevokedCertificate
  pub stands : l.tbs_cert_list.revoked_certificates ≡ before ++ e ∷ after
  pub serial : same_integer e.user_certificate c.tbs_certificate.serial_number ≡ true
  pub issuer : fold (is_of_issuer c.tbs_certificate.issuer) (names_match l.tbs_cert_list.issuer c.tbs_certificate.issuer) (before ++ e ∷ []) ≡ true

-- a certificate is revoked only by an entry of its own, which says when and why, on a list that is used or on a delta list that is applied to one
abbrev pub RevokedIsListed : Type 0
RevokedIsListed =
    (accepts : Accepts) (x : RevocationInputs) (c : Certificate) (when : DateTime) (why : CrlReason) → revocation accepts x c ≡ Revoked when why
    → (p : DistributionPoint) × (g : GivenList) × (l : CertificateList) × (e : RevokedCertificate)
    × IsUsed accepts x c p g × ((l ≡ g.list) ⊎ IsApplied accepts x g l) × IsListed c l e × (revocation_by e ≡ record { at = when; reason = why })

-- each of these lists is used at its point, and by none of them, with its delta list, the certificate is revoked
abbrev pub AreClear : Accepts → RevocationInputs → Certificate → List (DistributionPoint × GivenList) → Type 0
AreClear accepts x c [] = Unit {0}
AreClear accepts x c (u ∷ us) =
    IsUsed accepts x c u.0 u.1 × (status_on (subject_of c) (its_delta accepts x c u.1) u.1.list ≡ None) × AreClear accepts x c us

-- the reasons of which they speak
abbrev pub reasons_of : List (DistributionPoint × GivenList) → Reasons
reasons_of [] = no_reasons
reasons_of (u ∷ us) = union (reasons_of us) (interim_reasons u.0 (issuing_point u.1.list))

-- a certificate is good only where lists that are used speak of all reasons, and it is revoked by none of them
abbrev pub GoodIsCovered : Type 0
GoodIsCovered =
    (accepts : Accepts) (x : RevocationInputs) (c : Certificate) → revocation accepts x c ≡ Good
    → (used : List (DistributionPoint × GivenList)) × AreClear accepts x c used × (are_all (reasons_of used) ≡ true)

-- a certificate is good only where it is revoked by none of the lists of its points that are in force, well signed and superseded by none, whatever their order
abbrev pub GoodIsUnlisted : Type 0
GoodIsUnlisted =
    (accepts : Accepts) (x : RevocationInputs) (c : Certificate) (p : DistributionPoint) (g : GivenList) → revocation accepts x c ≡ Good
    → IsUsed accepts x c p g → status_on (subject_of c) (its_delta accepts x c g) g.list ≡ None
