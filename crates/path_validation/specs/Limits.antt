-- The sizes of what extensions hold (RFC 5280, 4.2.1), and how much of it is compared.
use Rattle.std.specs.Prelude.{Bool, List, None, Option, Some, length, nat_le, nat_lt, not, true, ℕ, ◌&&◌, ◌*◌, ◌+◌}
use Rattle.std.specs.List.{list_all}
use Rattle.asn1_core.specs.Twos.{is_negative}
use Rattle.pkix_cert.specs.declared.constraint.GeneralSubtree.{GeneralSubtree}
use Rattle.pkix_name.specs.declared.general_name.GeneralName.{GeneralName}
use Rattle.pkix_name.specs.declared.general_name.GeneralName.TheVariants.{DirectoryName}
use Rattle.pkix_name.specs.declared.name.Name.{Name}
use Rattle.path_names.specs.NameMatching.{rdns_of}
use Rattle.path_policies.specs.Growth.{levels_size}
use Rattle.path_policies.specs.Levels.{Levels}
use Rattle.path_policies.specs.Policies.{Policy}
use Rattle.path_validation.specs.Statements.{excluded_of, inhibit_policy_mapping, path_len_constraint, permitted_of, require_explicit_policy}
use Rattle.path_validation.specs.declared.statements.CaStatements.{CaStatements}
use Rattle.path_validation.specs.declared.statements.NameStatements.{NameStatements}
use Rattle.path_validation.specs.declared.statements.PolicyStatements.{PolicyStatements}
use Rattle.path_validation.specs.declared.statements.Statements.{Statements}

-- ---- how much is compared: each limit is some ten times what certificates have

-- the extensions of a certificate, among which each step looks for its own
abbrev pub most_extensions : ℕ
most_extensions = 256

-- its policies and mappings together, which are held against each other and against those above (6.1.3 (d), 6.1.4 (b))
abbrev pub most_policies : ℕ
most_policies = 512

-- the pairs of policies: each of the user's and of those that are valid so far is compared with each of the latter and of the certificate's
-- (6.1.3 (d), 6.1.4 (b), 6.1.5 (g))
abbrev pub most_pairs : ℕ
most_pairs = 16777216

-- the attributes of a part of a name, each of which is held against each of another part (7.1)
abbrev pub most_attributes : ℕ
most_attributes = 16

-- the octets of names and subtrees, as each name is held against each subtree (6.1.3 (b) and (c))
abbrev pub most_octets : ℕ
most_octets = 1000000

-- ---- sizes of types

-- SEQUENCE SIZE (1..MAX), where it is there
abbrev pub is_filled : {A : Type 0} → Option (List A) → Bool
is_filled None = true
is_filled (Some xs) = nat_lt 0 (length xs)

-- INTEGER (0..MAX), where it is there
abbrev pub is_natural : Option (List ℕ) → Bool
is_natural None = true
is_natural (Some octets) = not (is_negative octets)

-- ---- names

unfoldable pub has_few_attributes : Name → Bool
has_few_attributes name = list_all (λ rdn. nat_le (length rdn.0) most_attributes) (rdns_of name)

abbrev pub is_narrow : GeneralName → Bool
is_narrow (DirectoryName name) = has_few_attributes name
is_narrow other = true

abbrev pub are_narrow : Option (List GeneralName) → Bool
are_narrow None = true
are_narrow (Some names) = list_all is_narrow names

abbrev pub are_narrow_subtrees : Option (List GeneralSubtree) → Bool
are_narrow_subtrees None = true
are_narrow_subtrees (Some ts) = list_all (λ t. is_narrow t.base) ts

unfoldable pub subtrees_fit : Option (List GeneralSubtree) → Bool
subtrees_fit ts = is_filled ts && are_narrow_subtrees ts

-- ---- what a certificate states

-- 4.2.1.9
unfoldable pub ca_fits : CaStatements → Bool
ca_fits said = is_natural (path_len_constraint said.basic_constraints)

-- 4.2.1.6, 4.2.1.10
unfoldable pub names_fit : NameStatements → Bool
names_fit said =
    is_filled said.subject_alt_names && are_narrow said.subject_alt_names
    && (subtrees_fit (permitted_of said.name_constraints) && subtrees_fit (excluded_of said.name_constraints))

abbrev pub count_of : {A : Type 0} → Option (List A) → ℕ
count_of None = 0
count_of (Some xs) = length xs

unfoldable pub has_many_policies : PolicyStatements → Bool
has_many_policies said = nat_lt most_policies (count_of said.policies + count_of said.mappings)

unfoldable pub has_many_pairs : Option (List Policy) → Levels → PolicyStatements → Bool
has_many_pairs users levels said =
    nat_lt most_pairs ((count_of users + levels_size levels) * (levels_size levels + (count_of said.policies + count_of said.mappings)))

-- 4.2.1.4, 4.2.1.5, 4.2.1.11, 4.2.1.14
unfoldable pub policies_fit : PolicyStatements → Bool
policies_fit said =
    is_filled said.policies && is_filled said.mappings && not (has_many_policies said)
    && (is_natural (require_explicit_policy said.constraints) && is_natural (inhibit_policy_mapping said.constraints)) && is_natural said.inhibit_any_policy

unfoldable pub statements_fit : Statements → Bool
statements_fit said = ca_fits said.ca && names_fit said.names && policies_fit said.policies
