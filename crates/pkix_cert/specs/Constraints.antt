-- Constraints on what a certificate is for, a line for each field (RFC 5280, 4.2.1.9 and 4.2.1.10).
use Rattle.std.specs.Prelude.{false, None, refl}
use Rattle.der_tree.specs.Codec.{Codec, Struct}
use Rattle.der_tree.specs.Grammar.{as_struct, beq, beq_exact, defaulted, implicitly, optional, required, sequence, sequence_of, with_default, ◌&◌, ◌⊗◌}
use Rattle.der_tree.specs.PrimitiveTypes.{boolean, integer}
use Rattle.der_tree.specs.Tags.{context, universal}
use Rattle.pkix_name.specs.GeneralNames.{general_name}
use Rattle.pkix_cert.specs.Distances.{same_integer, same_integer_exact, zero}
use Rattle.pkix_cert.specs.declared.constraint.BasicConstraints.{BasicConstraints}
use Rattle.pkix_cert.specs.declared.constraint.NameConstraints.{NameConstraints}
use Rattle.pkix_cert.specs.declared.constraint.GeneralSubtree.{GeneralSubtree}

unfoldable pub general_subtree_fields : Struct GeneralSubtree
general_subtree_fields = as_struct (
    required general_name
    & with_default (implicitly (context 0) integer refl) same_integer same_integer_exact zero
    & optional (implicitly (context 1) integer refl)
    ) refl
    (λ v. v.base ⊗ v.minimum ⊗ v.maximum)
    (λ base minimum maximum. record { base = base; minimum = minimum; maximum = maximum }) (λ v. refl) (λ f. refl)

abbrev pub general_subtree : Codec GeneralSubtree
general_subtree = sequence (universal 16) general_subtree_fields

unfoldable pub basic_constraints_fields : Struct BasicConstraints
basic_constraints_fields = as_struct (
    defaulted boolean beq beq_exact false
    & optional integer
    ) refl
    (λ v. v.ca ⊗ v.path_len_constraint)
    (λ ca path_len_constraint. record { ca = ca; path_len_constraint = path_len_constraint }) (λ v. refl) (λ f. refl)

abbrev pub basic_constraints : Codec BasicConstraints
basic_constraints = sequence (universal 16) basic_constraints_fields

unfoldable pub name_constraints_fields : Struct NameConstraints
name_constraints_fields = as_struct (
    optional (implicitly (context 0) (sequence_of general_subtree 0 None refl) refl)
    & optional (implicitly (context 1) (sequence_of general_subtree 0 None refl) refl)
    ) refl
    (λ v. v.permitted_subtrees ⊗ v.excluded_subtrees)
    (λ permitted_subtrees excluded_subtrees. record { permitted_subtrees = permitted_subtrees; excluded_subtrees = excluded_subtrees })
    (λ v. refl) (λ f. refl)

abbrev pub name_constraints : Codec NameConstraints
name_constraints = sequence (universal 16) name_constraints_fields
