-- The names of a certificate beside the name constraints of its issuer's (RFC 5280, 4.2.1.10).
use Rattle.std.specs.Prelude.{Bool, List, None, Option, Some, [], cond, not, ◌&&◌, ◌++◌, ◌||◌, ◌∷◌}
use Rattle.std.specs.List.{list_all, list_any}
use Rattle.path_names.specs.NameForms.{is_excluded_by, is_permitted_by, is_unprocessed_by}
use Rattle.pkix_cert.specs.Constraints.{name_constraints}
use Rattle.pkix_cert.specs.ExtensionIds.{ce_name_constraints, ce_subject_alt_name}
use Rattle.pkix_cert.specs.declared.constraint.NameConstraints.{NameConstraints}
use Rattle.pkix_cert.specs.declared.extension.Extension.{Extension}
use Rattle.pkix_name.specs.declared.general_name.GeneralName.{GeneralName}
use Rattle.pkix_name.specs.declared.general_name.GeneralName.TheVariants.{DirectoryName}
use Rattle.pkix_name.specs.declared.name.Name.{Name}
use Rattle.pkix_rules.specs.Addresses.{addresses_in}
use Rattle.pkix_rules.specs.AltNames.{names_in}
use Rattle.pkix_rules.specs.Contents.{general_names}
use Rattle.pkix_rules.specs.Extensions.{said}
use Rattle.pkix_rules.specs.NameConstraints.{subtrees_in}
use Rattle.pkix_rules.specs.Names.{is_empty_name}
use Rattle.pkix_rules.specs.Said.{ce_extension}
use Rattle.rule_table.specs.Found.{when}
use Rattle.rule_table.specs.declared.rule.Rule.{Rule}
use Rattle.rule_table.specs.declared.rule.Rule.TheVariants.{NameExcluded, NameNotCompared, NameNotPermitted}

-- a subject that isn't empty is a directory name to which constraints apply
abbrev pub subject_names : Name → List GeneralName
subject_names n = cond (is_empty_name n) [] (DirectoryName n ∷ [])

-- addresses of the subject count where no alternative names are read (4.2.1.10)
abbrev pub addresses_beside : Name → Option (List GeneralName) → List GeneralName
addresses_beside subject None = addresses_in subject
addresses_beside subject (Some names) = []

-- the subject, its addresses and the alternative names
unfoldable pub names_of_subject : Name → Option (List GeneralName) → List GeneralName
names_of_subject subject names = subject_names subject ++ addresses_beside subject names

-- each is within a permitted subtree, where one is of its form (6.1.3 (b))
abbrev pub are_permitted : List GeneralName → NameConstraints → Bool
are_permitted names c = list_all (λ name. is_permitted_by name (subtrees_in c.permitted_subtrees)) names

-- one is within an excluded subtree (6.1.3 (c))
abbrev pub has_excluded : List GeneralName → NameConstraints → Bool
has_excluded names c = list_any (λ name. is_excluded_by name (subtrees_in c.excluded_subtrees)) names

-- one can't be compared with a subtree of its form, so it is rejected (4.2.1.10)
abbrev pub has_incomparable : List GeneralName → NameConstraints → Bool
has_incomparable names c =
    list_any (λ name. is_unprocessed_by name (subtrees_in c.permitted_subtrees)) names
    || list_any (λ name. is_unprocessed_by name (subtrees_in c.excluded_subtrees)) names

unfoldable pub constraint_rules : List GeneralName → List GeneralName → NameConstraints → List Rule
constraint_rules subject names c =
    when (not (are_permitted subject c && are_permitted names c)) NameNotPermitted
    ++ when (has_excluded subject c || has_excluded names c) NameExcluded
    ++ when (has_incomparable subject c || has_incomparable names c) NameNotCompared

-- of the subject and the alternative names
unfoldable pub rules_under : Name → List Extension → Option NameConstraints → List Rule
rules_under subject es None = []
rules_under subject es (Some c) =
    constraint_rules (names_of_subject subject (said general_names (ce_extension ce_subject_alt_name es)))
    (names_in (said general_names (ce_extension ce_subject_alt_name es))) c

-- beside the extensions of the issuer's certificate
unfoldable pub constrained_rules : Name → List Extension → List Extension → List Rule
constrained_rules subject es issuer_es = rules_under subject es (said name_constraints (ce_extension ce_name_constraints issuer_es))
