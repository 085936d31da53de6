-- What the holder may see (RFC 5755, 4.4.6).
use Rattle.std.specs.Prelude.{[], None, refl}
use Rattle.der_tree.specs.Codec.{Codec, Struct}
use Rattle.der_tree.specs.Grammar.{any, as_struct, as_type, defaulted, explicitly, implicitly, optional, required, sequence, set_of, ◌&◌, ◌⊗◌}
use Rattle.der_tree.specs.PrimitiveTypes.{bit_string, object_identifier}
use Rattle.der_tree.specs.Tags.{context, universal}
use Rattle.pkix_attr.specs.Classes.{same_classes, same_classes_exact, unclassified}
use Rattle.pkix_attr.specs.declared.clearance.Clearance.{Clearance}
use Rattle.pkix_attr.specs.declared.clearance.ClassList.{ClassList}
use Rattle.pkix_attr.specs.declared.clearance.SecurityCategory.{SecurityCategory}

abbrev pub class_list : Codec ClassList
class_list = as_type bit_string (λ v. v.0) (λ l. record { 0 = l }) (λ v. refl) (λ l. refl)

unfoldable pub security_category_fields : Struct SecurityCategory
security_category_fields = as_struct (
    required (implicitly (context 0) object_identifier refl)
    & required (explicitly (context 1) any)
    ) refl
    (λ v. v.kind ⊗ v.value)
    (λ kind value. record { kind = kind; value = value }) (λ v. refl) (λ f. refl)

abbrev pub security_category : Codec SecurityCategory
security_category = sequence (universal 16) security_category_fields

unfoldable pub clearance_fields : Struct Clearance
clearance_fields = as_struct (
    required object_identifier
    & defaulted class_list same_classes same_classes_exact unclassified
    & optional (set_of security_category 0 None [] refl)
    ) refl
    (λ v. v.policy_id ⊗ v.class_list ⊗ v.security_categories)
    (λ policy_id class_list security_categories. record { policy_id = policy_id; class_list = class_list; security_categories = security_categories })
    (λ v. refl) (λ f. refl)

abbrev pub clearance : Codec Clearance
clearance = sequence (universal 16) clearance_fields
