-- The types of attributes that have a name, and the kind of string of each.
use Rattle.std.specs.Prelude.{ℕ, Bool, List, [], ◌∷◌, Option, find, map, nat_eq, codes}
use Rattle.std.specs.Char.{to_ascii_lowercase}
use Rattle.std.specs.Cmp.Lexicographic.{pointwise}
use Rattle.std.specs.Option.{option_map, option_map_or}
use Rattle.std.specs.Str.{bytes_eq}
use Rattle.name_parts.specs.declared.types.Kind.{Kind}
use Rattle.name_parts.specs.declared.types.Kind.TheVariants.{Numeric, Printable, Ia5, Utf8}
use Rattle.name_parts.specs.declared.types.Row.{Row}

-- a name, the type that has it, and the kind of its values
pub record KnownType : Type 0 where
  pub name : List ℕ
  pub arcs : List ℕ
  pub kind : Kind

abbrev pub as_known : Row → KnownType
as_known row = record { name = row.name.now; arcs = row.arcs.now; kind = row.kind }

abbrev pub known : List ℕ → List ℕ → Kind → KnownType
known name arcs kind = record { name = name; arcs = arcs; kind = kind }

-- the same but for the case of ASCII (RFC 4512, 2.5)
abbrev pub same_name : List ℕ → List ℕ → Bool
same_name a b = bytes_eq (map to_ascii_lowercase a) (map to_ascii_lowercase b)

unfoldable pub arcs_in : List KnownType → List ℕ → Option (List ℕ)
arcs_in table name = option_map (λ (row : KnownType). row.arcs) (find (λ (row : KnownType). same_name row.name name) table)

unfoldable pub kind_in : List KnownType → List ℕ → Kind
kind_in table arcs = option_map_or (λ (row : KnownType). row.kind) (find (λ (row : KnownType). pointwise nat_eq row.arcs arcs) table) Utf8

-- X.520, the pilot of RFC 4524, RFC 2985 and the guidelines for extended validation
abbrev pub x520 : ℕ → List ℕ
x520 n = 2 ∷ 5 ∷ 4 ∷ n ∷ []

abbrev pub pilot : ℕ → List ℕ
pilot n = 0 ∷ 9 ∷ 2342 ∷ 19200300 ∷ 100 ∷ 1 ∷ n ∷ []

abbrev pub pkcs9 : ℕ → List ℕ
pkcs9 n = 1 ∷ 2 ∷ 840 ∷ 113549 ∷ 1 ∷ 9 ∷ n ∷ []

abbrev pub jurisdiction : ℕ → List ℕ
jurisdiction n = 1 ∷ 3 ∷ 6 ∷ 1 ∷ 4 ∷ 1 ∷ 311 ∷ 60 ∷ 2 ∷ 1 ∷ n ∷ []

-- The types of RFC 4519, 2, whose values are strings, those of RFC 4524, 2, of RFC 2985, 5, and RFC 5280, A.1, and those of companies. Where a
-- type's values are of one kind of string, that is its kind: a country, a serial number and a dnQualifier are PrintableStrings, a domain component
-- and a mailbox IA5Strings; of a DirectoryString it is UTF8String (RFC 5280, 4.1.2.4).
unfoldable pub known_types : List KnownType
known_types =
    known (codes "businessCategory") (x520 15) Utf8
    ∷ known (codes "c") (x520 6) Printable
    ∷ known (codes "countryName") (x520 6) Printable
    ∷ known (codes "cn") (x520 3) Utf8
    ∷ known (codes "commonName") (x520 3) Utf8
    ∷ known (codes "dc") (pilot 25) Ia5
    ∷ known (codes "domainComponent") (pilot 25) Ia5
    ∷ known (codes "description") (x520 13) Utf8
    ∷ known (codes "destinationIndicator") (x520 27) Printable
    ∷ known (codes "dnQualifier") (x520 46) Printable
    ∷ known (codes "generationQualifier") (x520 44) Utf8
    ∷ known (codes "givenName") (x520 42) Utf8
    ∷ known (codes "houseIdentifier") (x520 51) Utf8
    ∷ known (codes "initials") (x520 43) Utf8
    ∷ known (codes "internationalISDNNumber") (x520 25) Numeric
    ∷ known (codes "l") (x520 7) Utf8
    ∷ known (codes "localityName") (x520 7) Utf8
    ∷ known (codes "name") (x520 41) Utf8
    ∷ known (codes "o") (x520 10) Utf8
    ∷ known (codes "organizationName") (x520 10) Utf8
    ∷ known (codes "ou") (x520 11) Utf8
    ∷ known (codes "organizationalUnitName") (x520 11) Utf8
    ∷ known (codes "physicalDeliveryOfficeName") (x520 19) Utf8
    ∷ known (codes "postalCode") (x520 17) Utf8
    ∷ known (codes "postOfficeBox") (x520 18) Utf8
    ∷ known (codes "serialNumber") (x520 5) Printable
    ∷ known (codes "sn") (x520 4) Utf8
    ∷ known (codes "surname") (x520 4) Utf8
    ∷ known (codes "st") (x520 8) Utf8
    ∷ known (codes "stateOrProvinceName") (x520 8) Utf8
    ∷ known (codes "street") (x520 9) Utf8
    ∷ known (codes "streetAddress") (x520 9) Utf8
    ∷ known (codes "telephoneNumber") (x520 20) Printable
    ∷ known (codes "title") (x520 12) Utf8
    ∷ known (codes "uid") (pilot 1) Utf8
    ∷ known (codes "userid") (pilot 1) Utf8
    ∷ known (codes "x121Address") (x520 24) Numeric
    ∷ known (codes "associatedDomain") (pilot 37) Ia5
    ∷ known (codes "buildingName") (pilot 48) Utf8
    ∷ known (codes "co") (pilot 43) Utf8
    ∷ known (codes "friendlyCountryName") (pilot 43) Utf8
    ∷ known (codes "documentIdentifier") (pilot 11) Utf8
    ∷ known (codes "documentLocation") (pilot 15) Utf8
    ∷ known (codes "documentPublisher") (pilot 56) Utf8
    ∷ known (codes "documentTitle") (pilot 12) Utf8
    ∷ known (codes "documentVersion") (pilot 13) Utf8
    ∷ known (codes "drink") (pilot 5) Utf8
    ∷ known (codes "favouriteDrink") (pilot 5) Utf8
    ∷ known (codes "homePhone") (pilot 20) Printable
    ∷ known (codes "homeTelephone") (pilot 20) Printable
    ∷ known (codes "host") (pilot 9) Utf8
    ∷ known (codes "info") (pilot 4) Utf8
    ∷ known (codes "mail") (pilot 3) Ia5
    ∷ known (codes "rfc822Mailbox") (pilot 3) Ia5
    ∷ known (codes "mobile") (pilot 41) Printable
    ∷ known (codes "mobileTelephoneNumber") (pilot 41) Printable
    ∷ known (codes "organizationalStatus") (pilot 45) Utf8
    ∷ known (codes "pager") (pilot 42) Printable
    ∷ known (codes "pagerTelephoneNumber") (pilot 42) Printable
    ∷ known (codes "personalTitle") (pilot 40) Utf8
    ∷ known (codes "roomNumber") (pilot 6) Utf8
    ∷ known (codes "userClass") (pilot 8) Utf8
    ∷ known (codes "emailAddress") (pkcs9 1) Ia5
    ∷ known (codes "unstructuredName") (pkcs9 2) Utf8
    ∷ known (codes "unstructuredAddress") (pkcs9 8) Utf8
    ∷ known (codes "pseudonym") (x520 65) Utf8
    ∷ known (codes "organizationIdentifier") (x520 97) Utf8
    ∷ known (codes "jurisdictionLocalityName") (jurisdiction 1) Utf8
    ∷ known (codes "jurisdictionStateOrProvinceName") (jurisdiction 2) Utf8
    ∷ known (codes "jurisdictionCountryName") (jurisdiction 3) Printable
    ∷ []

-- the arcs of the type with the name
unfoldable pub arcs_named : List ℕ → Option (List ℕ)
arcs_named name = arcs_in known_types name

-- the kind of string of the type's values; UTF8String where the type isn't known
unfoldable pub kind_of : List ℕ → Kind
kind_of arcs = kind_in known_types arcs
