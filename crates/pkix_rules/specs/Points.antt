-- Rules of where more is found: distribution points of lists and information access (RFC 5280, 4.2.1.13 and 4.2.2).
use Rattle.std.specs.Prelude.{Bool, List, None, Option, Some, [], false, is_some, length, not, ◌&&◌, ◌++◌, ◌==◌}
use Rattle.std.specs.List.{list_any}
use Rattle.pkix_cert.specs.declared.distribution.DistributionPoint.{DistributionPoint}
use Rattle.pkix_cert.specs.declared.distribution.DistributionPointName.{DistributionPointName}
use Rattle.pkix_cert.specs.declared.distribution.DistributionPointName.TheVariants.{FullName, NameRelativeToCrlIssuer}
use Rattle.pkix_trust.specs.declared.access.AccessDescription.{AccessDescription}
use Rattle.pkix_rules.specs.Generals.{is_bad_location}
use Rattle.rule_table.specs.Found.{when}
use Rattle.rule_table.specs.declared.rule.Rule.{Rule}
use Rattle.rule_table.specs.declared.rule.Rule.TheVariants.{AccessUri, CrlPointUri, CrlPointWithoutName, EmptyAccess, EmptyCrlPoints}

-- a URI of the name is one that nobody can fetch from
abbrev pub has_bad_name : Option DistributionPointName → Bool
has_bad_name None = false
has_bad_name (Some (FullName names)) = list_any is_bad_location names
has_bad_name (Some (NameRelativeToCrlIssuer part)) = false

abbrev pub has_bad_point : DistributionPoint → Bool
has_bad_point p = has_bad_name p.distribution_point

-- neither a name nor an issuer of the list: reasons alone
abbrev pub lacks_name : DistributionPoint → Bool
lacks_name p = not (is_some p.distribution_point) && not (is_some p.crl_issuer)

unfoldable pub point_rules : Option (List DistributionPoint) → List Rule
point_rules None = []
point_rules (Some points) =
    when (length points == 0) EmptyCrlPoints
    ++ when (list_any lacks_name points) CrlPointWithoutName
    ++ when (list_any has_bad_point points) CrlPointUri

abbrev pub has_bad_access : AccessDescription → Bool
has_bad_access a = is_bad_location a.access_location

unfoldable pub access_rules : Option (List AccessDescription) → List Rule
access_rules None = []
access_rules (Some accesses) =
    when (length accesses == 0) EmptyAccess
    ++ when (list_any has_bad_access accesses) AccessUri
