-- Which attributes an issuer may certify (RFC 5755, 7.4).
use Rattle.std.specs.Prelude.{true, None, refl}
use Rattle.der_tree.specs.Codec.{Codec, Struct}
use Rattle.der_tree.specs.Grammar.{as_struct, beq, beq_exact, defaulted, implicitly, optional, sequence, sequence_of, ◌&◌, ◌⊗◌}
use Rattle.der_tree.specs.PrimitiveTypes.{boolean, integer, object_identifier}
use Rattle.der_tree.specs.Tags.{context, universal}
use Rattle.pkix_attr.specs.declared.controls.AaControls.{AaControls}

unfoldable pub aa_controls_fields : Struct AaControls
aa_controls_fields = as_struct (
    optional integer
    & optional (implicitly (context 0) (sequence_of object_identifier 0 None refl) refl)
    & optional (implicitly (context 1) (sequence_of object_identifier 0 None refl) refl)
    & defaulted boolean beq beq_exact true
    ) refl
    (λ v. v.path_len_constraint ⊗ v.permitted_attrs ⊗ v.excluded_attrs ⊗ v.permit_unspecified)
    (λ path_len_constraint permitted_attrs excluded_attrs permit_unspecified. record {
      path_len_constraint = path_len_constraint;
      permitted_attrs = permitted_attrs;
      excluded_attrs = excluded_attrs;
      permit_unspecified = permit_unspecified;
    })
    (λ v. refl) (λ f. refl)

abbrev pub aa_controls : Codec AaControls
aa_controls = sequence (universal 16) aa_controls_fields
