-- A value beside the identifier of its type (X.681, annex C; RFC 5280, 4.2.1.6), with the tag of SEQUENCE in place of 8.
use Rattle.std.specs.Prelude.{refl}
use Rattle.asn1_core.specs.Tags.{context, universal}
use Rattle.der_tree.specs.declared.instance_of.InstanceOf.{InstanceOf}
use Rattle.der_tree.specs.Codec.{Codec, Struct}
use Rattle.der_tree.specs.Grammar.{as_struct, explicitly, required, sequence, ◌&◌, ◌⊗◌}
use Rattle.der_tree.specs.PrimitiveTypes.{object_identifier}

unfoldable pub instance_of_fields : {A : Type 0} → Codec A → Struct (InstanceOf A)
instance_of_fields c = as_struct (
    required object_identifier
    & required (explicitly (context 0) c)
    ) refl
    (λ v. v.type_id ⊗ v.value)
    (λ type_id value. record { type_id = type_id; value = value }) (λ v. refl) (λ f. refl)

abbrev pub instance_of : {A : Type 0} → Codec A → Codec (InstanceOf A)
instance_of c = sequence (universal 16) (instance_of_fields c)
