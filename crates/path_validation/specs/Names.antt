-- The names of a certificate, and the subtrees above it (RFC 5280, 6.1.3 (b) and (c), 4.2.1.10).
use Rattle.std.specs.Prelude.{Bool, List, None, Option, Some, cond, length, nat_lt, ℕ, ◌+◌, ◌*◌, ◌||◌, [], ◌++◌, ◌∷◌}
use Rattle.std.specs.List.{filter_map, flat_map, list_all, list_any, sum_by}
use Rattle.der_tree.specs.Element.{one_element}
use Rattle.pkix_cert.specs.declared.constraint.GeneralSubtree.{GeneralSubtree}
use Rattle.pkix_name.specs.declared.general_name.GeneralName.{GeneralName}
use Rattle.pkix_name.specs.declared.general_name.GeneralName.TheVariants.{DirectoryName, Rfc822Name}
use Rattle.pkix_name.specs.declared.name.AttributeTypeAndValue.{AttributeTypeAndValue}
use Rattle.pkix_name.specs.declared.name.Name.{Name}
use Rattle.path_names.specs.NameForms.{is_excluded_by, is_permitted_by, is_unprocessed_by}
use Rattle.path_names.specs.NameMatching.{rdns_of}
use Rattle.path_names.specs.Sizes.{name_size, names_size}
use Rattle.path_policies.specs.Policies.{same_policy}
use Rattle.path_validation.specs.Limits.{most_octets}
use Rattle.path_validation.specs.declared.certificate.PathCertificate.{PathCertificate}

-- ---- which names a certificate has

-- PKCS #9: an electronic mail address (4.1.2.6), whatever type of text it has, so that no other type escapes
abbrev pub email_address : List ℕ
email_address = 1 ∷ 2 ∷ 840 ∷ 113549 ∷ 1 ∷ 9 ∷ 1 ∷ []

-- a text that isn't ASCII isn't one that a constraint takes
abbrev pub ascii_or_none : List ℕ → List ℕ
ascii_or_none octets = cond (list_all (λ b. nat_lt b 128) octets) octets []

abbrev pub text_in : AttributeTypeAndValue → List ℕ
text_in a = elim (one_element a.value) [ None ↦ [] | Some s ↦ ascii_or_none s.content ]

unfoldable pub address_in : AttributeTypeAndValue → Option GeneralName
address_in a = cond (same_policy a.attr_type email_address) (Some (Rfc822Name (text_in a))) None

abbrev pub addresses_in : Name → List GeneralName
addresses_in name = flat_map (λ rdn. filter_map address_in rdn.0) (rdns_of name)

-- the subject, unless it is empty
abbrev pub subject_names : Name → List GeneralName
subject_names name = cond (nat_lt 0 (length (rdns_of name))) (DirectoryName name ∷ []) []

-- addresses of the subject count where there is no extension with other names
abbrev pub other_names : Name → Option (List GeneralName) → List GeneralName
other_names subject None = addresses_in subject
other_names subject (Some names) = names

unfoldable pub names_of : PathCertificate → List GeneralName
names_of c = subject_names c.identity.subject ++ other_names c.identity.subject c.statements.names.subject_alt_names

-- ---- what the subtrees make of them

abbrev pub Sets : Type 0
Sets = List (List GeneralSubtree)

abbrev pub count_in : Sets → ℕ
count_in sets = sum_by (λ ts. length ts) sets

-- ---- how many octets are compared

unfoldable pub base_size : GeneralSubtree → ℕ
base_size t = name_size t.base

unfoldable pub subtrees_size : List GeneralSubtree → ℕ
subtrees_size ts = sum_by base_size ts

abbrev pub size_in : Sets → ℕ
size_in sets = sum_by subtrees_size sets

-- each name is held against each subtree, which reads the octets of both
unfoldable pub too_much : List GeneralName → Sets → Sets → Bool
too_much names permitted excluded =
    nat_lt most_octets
    (length names * (size_in permitted + size_in excluded) + (count_in permitted + count_in excluded) * names_size names)

-- ---- what the subtrees make of a name

abbrev pub is_unprocessed : Sets → GeneralName → Bool
is_unprocessed sets name = list_any (is_unprocessed_by name) sets

-- (b): by each of the sets, which is their intersection
abbrev pub is_permitted : Sets → GeneralName → Bool
is_permitted sets name = list_all (is_permitted_by name) sets

-- (c)
abbrev pub is_excluded : Sets → GeneralName → Bool
is_excluded sets name = list_any (is_excluded_by name) sets

-- ---- all names

-- a subtree can't be held against one of them (4.2.1.10)
unfoldable pub has_unprocessed : List GeneralName → Sets → Sets → Bool
has_unprocessed names permitted excluded = list_any (λ name. is_unprocessed permitted name || is_unprocessed excluded name) names

unfoldable pub is_all_permitted : List GeneralName → Sets → Bool
is_all_permitted names permitted = list_all (is_permitted permitted) names

unfoldable pub is_some_excluded : List GeneralName → Sets → Bool
is_some_excluded names excluded = list_any (is_excluded excluded) names
