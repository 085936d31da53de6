-- How much is compared. Each limit is far above what authorities publish.
use Rattle.std.specs.Prelude.{Bool, List, None, Option, Some, length, nat_lt, unwrap_or, ℕ, ◌+◌, ◌*◌, []}
use Rattle.std.specs.List.{sum_by}
use Rattle.pkix_cert.specs.declared.distribution.DistributionPoint.{DistributionPoint}
use Rattle.pkix_cert.specs.declared.distribution.DistributionPointName.{DistributionPointName}
use Rattle.pkix_cert.specs.declared.distribution.DistributionPointName.TheVariants.{FullName, NameRelativeToCrlIssuer}
use Rattle.pkix_cert.specs.declared.distribution.IssuingDistributionPoint.{IssuingDistributionPoint}
use Rattle.pkix_name.specs.declared.name.Name.{Name}
use Rattle.path_names.specs.Sizes.{directory_size, names_size, part_size}
use Rattle.path_revocation.specs.declared.finding.Finding.{Finding}

-- the lists that can be used and are well signed: each may supersede each other one, or be its delta list
abbrev pub most_lists : ℕ
most_lists = 512

-- the octets of names, where those of each point are compared with those of each list (6.3.3 (b))
abbrev pub most_octets : ℕ
most_octets = 1000000

-- ---- the names of a point, or of an issuing distribution point

abbrev pub count_of_name : Option DistributionPointName → ℕ
count_of_name None = 0
count_of_name (Some (FullName names)) = length names
count_of_name (Some (NameRelativeToCrlIssuer rdn)) = 1

-- a relative name is appended to that of the list's issuer, which is counted with the list
abbrev pub size_of_name : Option DistributionPointName → ℕ
size_of_name None = 0
size_of_name (Some (FullName names)) = names_size names
size_of_name (Some (NameRelativeToCrlIssuer rdn)) = part_size rdn

-- ---- a point of a certificate: these names, those of cRLIssuer, and the certificate's issuer

unfoldable pub point_count : DistributionPoint → ℕ
point_count p = 1 + count_of_name p.distribution_point + length (unwrap_or p.crl_issuer [])

unfoldable pub point_size : Name → DistributionPoint → ℕ
point_size issuer p = directory_size issuer + size_of_name p.distribution_point + names_size (unwrap_or p.crl_issuer [])

-- ---- a list: its issuer, and the names of its issuing distribution point

abbrev pub count_on : Option IssuingDistributionPoint → ℕ
count_on None = 0
count_on (Some q) = count_of_name q.distribution_point

abbrev pub size_on : Option IssuingDistributionPoint → ℕ
size_on None = 0
size_on (Some q) = size_of_name q.distribution_point

unfoldable pub finding_count : Option Finding → ℕ
finding_count None = 1
finding_count (Some f) = 1 + count_on f.issuing_point

unfoldable pub finding_size : Option Finding → ℕ
finding_size None = 1
finding_size (Some f) = directory_size f.issuer + size_on f.issuing_point

-- ---- each name of a point is compared with each of a list, which reads the octets of both

unfoldable pub is_too_much : Name → List DistributionPoint → List (Option Finding) → Bool
is_too_much issuer ps fs =
    nat_lt most_octets (sum_by point_count ps * sum_by finding_size fs + sum_by finding_count fs * sum_by (point_size issuer) ps)
