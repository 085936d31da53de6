-- What an enrolment server asks for (RFC 7030, 4.5.2).
use Rattle.std.specs.Prelude.{◌≡◌, ◌⊎◌, ℕ, List, [], None, refl}
use Rattle.std.proofs.Common.{inl, inr}
use Rattle.der_tree.specs.Codec.{Codec, Struct}
use Rattle.der_tree.specs.Grammar.{any, as_choice, as_struct, either, required, sequence, set_of, ◌&◌, ◌⊗◌}
use Rattle.der_tree.specs.PrimitiveTypes.{object_identifier}
use Rattle.der_tree.specs.Tags.{universal}
use Rattle.pkix_alg.specs.declared.est.AttrOrOid.{AttrOrOid}
use Rattle.pkix_alg.specs.declared.est.Attribute.{Attribute}
use Rattle.pkix_alg.specs.declared.est.AttrOrOid.TheVariants as attr_or_oid_kind

unfoldable pub attribute_fields : Struct Attribute
attribute_fields = as_struct (
    required object_identifier
    & required (set_of any 0 None [] refl)
    ) refl
    (λ v. v.attr_type ⊗ v.values)
    (λ attr_type values. record { attr_type = attr_type; values = values }) (λ v. refl) (λ f. refl)

abbrev pub attribute : Codec Attribute
attribute = sequence (universal 16) attribute_fields

abbrev pub attr_or_oid_parts : AttrOrOid → List ℕ ⊎ Attribute
attr_or_oid_parts (attr_or_oid_kind.Oid v) = inl v
attr_or_oid_parts (attr_or_oid_kind.Attribute v) = inr v

abbrev pub attr_or_oid_of : List ℕ ⊎ Attribute → AttrOrOid
attr_or_oid_of (inl v) = attr_or_oid_kind.Oid v
attr_or_oid_of (inr v) = attr_or_oid_kind.Attribute v

pub attr_or_oid_there : (v : AttrOrOid) → attr_or_oid_of (attr_or_oid_parts v) ≡ v
attr_or_oid_there (attr_or_oid_kind.Oid v) = refl
attr_or_oid_there (attr_or_oid_kind.Attribute v) = refl

pub attr_or_oid_back : (p : List ℕ ⊎ Attribute) → attr_or_oid_parts (attr_or_oid_of p) ≡ p
attr_or_oid_back (inl v) = refl
attr_or_oid_back (inr v) = refl

abbrev pub attr_or_oid : Codec AttrOrOid
attr_or_oid = as_choice (either object_identifier attribute refl) attr_or_oid_parts attr_or_oid_of attr_or_oid_there attr_or_oid_back
