-- Where lists of revoked certificates are found (RFC 5280, 4.2.1.13).
use Rattle.std.specs.Prelude.{ℕ, Bool, ◌==◌, List, length, map, Option, Some, None, string_bytes, flat_map, false, refl}
use Rattle.std.specs.List.{list_any}
use Rattle.std.specs.Option.{option_map}
use Rattle.der_tree.specs.Grammar.{sequence_of}
use Rattle.pkix_cert.specs.declared.distribution.DistributionPoint.{DistributionPoint}
use Rattle.pkix_cert.specs.declared.distribution.DistributionPointName.{DistributionPointName}
use Rattle.pkix_cert.specs.declared.distribution.DistributionPointName.TheVariants.{FullName}
use Rattle.pkix_name.specs.declared.general_name.GeneralName.TheVariants.{Uri}
use Rattle.pkix_cert.specs.ExtensionIds.{ce_crl_distribution_points, id_ce}
use Rattle.pkix_cert.specs.Distributions.{distribution_point}
use Rattle.rcgen_certificate.specs.ExtensionRows.{unless_empty, ExtensionRow, extension_row}
use Rattle.rcgen_certificate.specs.declared.distribution_point.CrlDistributionPoint.{CrlDistributionPoint}

-- the URIs of a point, in order
abbrev pub uris_of : CrlDistributionPoint → List (List ℕ)
uris_of p = map string_bytes p.uris.items

-- the URIs of all points
abbrev pub uri_texts : List (List (List ℕ)) → List (List ℕ)
uri_texts points = flat_map (λ uris. uris) points

abbrev pub is_empty_point : List (List ℕ) → Bool
is_empty_point uris = length uris == 0

abbrev pub has_empty_point : List (List (List ℕ)) → Bool
has_empty_point points = list_any is_empty_point points

-- a name for each URI
abbrev pub full_name : List (List ℕ) → DistributionPointName
full_name uris = FullName (map Uri uris)

-- a full name, and neither reasons nor another issuer
abbrev pub point_value : List (List ℕ) → DistributionPoint
point_value uris = record { distribution_point = Some (full_name uris); reasons = None; crl_issuer = None }

-- the points, where there are some
abbrev pub crl_distribution_points : List (List (List ℕ)) → Option (List DistributionPoint)
crl_distribution_points points = option_map (map point_value) (unless_empty points)

-- the extension on them
abbrev pub crl_distribution_points_row : List (List (List ℕ)) → List ExtensionRow
crl_distribution_points_row points = extension_row (id_ce ce_crl_distribution_points) false (sequence_of distribution_point 0 None refl) (crl_distribution_points points)
