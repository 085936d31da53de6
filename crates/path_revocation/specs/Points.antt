-- Distribution points: their names, and the scope of a list (RFC 5280, 4.2.1.13, 5.2.5 and 6.3.3 (b)).
use Rattle.std.specs.Prelude.{Bool, List, None, Option, Some, false, nat_eq, not, true, unwrap_or, ◌&&◌, ◌||◌, [], ◌++◌, ◌∷◌}
use Rattle.std.specs.Cmp.Lexicographic.{pointwise}
use Rattle.std.specs.List.{list_any}
use Rattle.std.specs.Str.{bytes_eq}
use Rattle.pkix_name.specs.declared.general_name.GeneralName.{GeneralName}
use Rattle.pkix_name.specs.declared.general_name.GeneralName.TheVariants.{DirectoryName, DnsName, IpAddress, RegisteredId, Rfc822Name, Uri}
use Rattle.pkix_name.specs.declared.name.Name.{Name}
use Rattle.pkix_name.specs.declared.name.Name.TheVariants.{RdnSequence}
use Rattle.pkix_name.specs.declared.name.RelativeDistinguishedName.{RelativeDistinguishedName}
use Rattle.pkix_cert.specs.declared.distribution.DistributionPoint.{DistributionPoint}
use Rattle.pkix_cert.specs.declared.distribution.DistributionPointName.{DistributionPointName}
use Rattle.pkix_cert.specs.declared.distribution.DistributionPointName.TheVariants.{FullName, NameRelativeToCrlIssuer}
use Rattle.pkix_cert.specs.declared.distribution.IssuingDistributionPoint.{IssuingDistributionPoint}
use Rattle.path_names.specs.NameMatching.{names_match}

-- ---- names

-- names in the directory match by 7.1, those of these other forms where they are equal; of the forms left none is compared
unfoldable pub general_names_match : GeneralName → GeneralName → Bool
general_names_match (DirectoryName a) (DirectoryName b) = names_match a b
general_names_match (Rfc822Name a) (Rfc822Name b) = bytes_eq a b
general_names_match (DnsName a) (DnsName b) = bytes_eq a b
general_names_match (Uri a) (Uri b) = bytes_eq a b
general_names_match (IpAddress a) (IpAddress b) = bytes_eq a b
general_names_match (RegisteredId a) (RegisteredId b) = pointwise nat_eq a b
general_names_match a b = false

-- one of the names is one of the others
unfoldable pub share_name : List GeneralName → List GeneralName → Bool
share_name names others = list_any (λ a. list_any (general_names_match a) others) names

-- the name in the directory
unfoldable pub is_directory_name : Name → GeneralName → Bool
is_directory_name n (DirectoryName m) = names_match m n
is_directory_name n other = false

-- it is one of the names
unfoldable pub is_among : Name → List GeneralName → Bool
is_among n names = list_any (is_directory_name n) names

-- 4.2.1.13: the relative name is appended to the name of the list's issuer
unfoldable pub below : Name → RelativeDistinguishedName → Name
below (RdnSequence rdns) rdn = RdnSequence (rdns ++ rdn ∷ [])

unfoldable pub names_of : Name → DistributionPointName → List GeneralName
names_of issuer (FullName names) = names
names_of issuer (NameRelativeToCrlIssuer rdn) = DirectoryName (below issuer rdn) ∷ []

abbrev pub names_or : Name → Option DistributionPointName → Option (List GeneralName) → List GeneralName
names_or issuer (Some name) issuers = names_of issuer name
names_or issuer None issuers = unwrap_or issuers []

-- those of the distribution field, or where that is omitted those of cRLIssuer
unfoldable pub names_of_point : Name → DistributionPoint → List GeneralName
names_of_point issuer p = names_or issuer p.distribution_point p.crl_issuer

-- ---- 6.3.3 (b)

unfoldable pub is_indirect : Option IssuingDistributionPoint → Bool
is_indirect None = false
is_indirect (Some q) = q.indirect_crl

-- (1): of the certificate's issuer, the point's cRLIssuer, and a list's issuer and issuing distribution point
unfoldable pub is_of_issuer : Name → Option (List GeneralName) → Name → Option IssuingDistributionPoint → Bool
is_of_issuer issuer None list_issuer q = names_match list_issuer issuer
is_of_issuer issuer (Some issuers) list_issuer q = is_among list_issuer issuers && is_indirect q

-- (2) (i)
unfoldable pub has_name : Name → DistributionPoint → Option DistributionPointName → Bool
has_name list_issuer p None = true
has_name list_issuer p (Some name) = share_name (names_of list_issuer name) (names_of_point list_issuer p)

-- (2) (ii) to (iv)
unfoldable pub contains_such : Bool → IssuingDistributionPoint → Bool
contains_such is_ca q =
    not (q.only_contains_user_certs && is_ca) && (not q.only_contains_ca_certs || is_ca) && not q.only_contains_attribute_certs

-- (2)
unfoldable pub has_scope : Bool → DistributionPoint → Name → Option IssuingDistributionPoint → Bool
has_scope is_ca p list_issuer None = true
has_scope is_ca p list_issuer (Some q) = has_name list_issuer p q.distribution_point && contains_such is_ca q
