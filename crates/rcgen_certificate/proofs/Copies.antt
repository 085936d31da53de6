-- Copies of parameters.
use Rattle.std.specs.Prelude.{◌≡◌, List, [], ◌∷◌, map, refl}
use Rattle.std.specs.List.{AllZip}
use Rattle.std.proofs.Common.{rules}
use Rattle.rcgen_text.specs.AlternativeNames.{alternative_name}
use Rattle.rcgen_text.specs.declared.san.SanType.{SanType}
use Rattle.rcgen_certificate.specs.CustomExtensions.{custom_of}
use Rattle.rcgen_certificate.specs.DistributionPoints.{uris_of}
use Rattle.rcgen_certificate.specs.ExtendedKeyUsages.{purpose_of}
use Rattle.rcgen_certificate.specs.NameConstraints.{bases_of}
use Rattle.rcgen_certificate.specs.contracts.distribution_point.CrlDistributionPointClone.TheImpl.{ghosts as points}
use Rattle.rcgen_certificate.specs.contracts.name_constraints.NameConstraintsClone.TheImpl.{ghosts as constraints}
use Rattle.rcgen_certificate.specs.declared.custom_extension.CustomExtension.{CustomExtension}
use Rattle.rcgen_certificate.specs.declared.distribution_point.CrlDistributionPoint.{CrlDistributionPoint}
use Rattle.rcgen_certificate.specs.declared.extended_key_usage.ExtendedKeyUsagePurpose.{ExtendedKeyUsagePurpose}
use Rattle.rcgen_text.specs.declared.key_usage.KeyUsagePurpose.{KeyUsagePurpose}
use Rattle.rcgen_certificate.specs.declared.name_constraints.NameConstraints.{NameConstraints}
use Rattle.rcgen_certificate.proofs.Constraints.{bases_of_copies}
use Rattle.rcgen_certificate.proofs.Points.{uris_of_copies}
use Rattle.rcgen_certificate.proofs.Views.{views_same}

pub names_of_copies : (xs ys : List SanType) → AllZip (λ x y. alternative_name y ≡ alternative_name x) xs ys
    → map alternative_name ys ≡ map alternative_name xs
names_of_copies xs ys h = views_same alternative_name xs ys h

pub usages_of_copies : (xs ys : List KeyUsagePurpose) → AllZip (λ x y. y ≡ x) xs ys → ys ≡ xs
usages_of_copies [] [] h = refl
usages_of_copies [] (y ∷ ys) h = absurd h
usages_of_copies (x ∷ xs) [] h = absurd h
usages_of_copies (x ∷ xs) (y ∷ ys) h = rw (h.0, usages_of_copies xs ys h.1) refl

pub purposes_of_copies : (xs ys : List ExtendedKeyUsagePurpose) → AllZip (λ x y. purpose_of y ≡ purpose_of x) xs ys → map purpose_of ys ≡ map purpose_of xs
purposes_of_copies xs ys h = views_same purpose_of xs ys h

pub point_of_copy : (p q : CrlDistributionPoint) → points.is_clone p q → uris_of q ≡ uris_of p
point_of_copy p q h = search (uris_of_copies, rules)

pub points_of_copies : (xs ys : List CrlDistributionPoint) → AllZip points.is_clone xs ys → map uris_of ys ≡ map uris_of xs
points_of_copies [] [] h = refl
points_of_copies [] (y ∷ ys) h = absurd h
points_of_copies (x ∷ xs) [] h = absurd h
points_of_copies (x ∷ xs) (y ∷ ys) h = rw (point_of_copy x y h.0, points_of_copies xs ys h.1) refl

pub constraints_of_copies : (c d : NameConstraints) → constraints.is_clone c d → bases_of d ≡ bases_of c
constraints_of_copies c d h = search (bases_of_copies, rules)

pub customs_of_copies : (xs ys : List CustomExtension) → AllZip (λ x y. custom_of y ≡ custom_of x) xs ys → map custom_of ys ≡ map custom_of xs
customs_of_copies xs ys h = views_same custom_of xs ys h

pub ruleset copies = (
  names_of_copies,
  usages_of_copies,
  purposes_of_copies,
  constraints_of_copies,
  points_of_copies,
  customs_of_copies,
)
