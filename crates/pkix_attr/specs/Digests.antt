-- Objects that a certificate is for, by their digests (RFC 5755, 4.2.2).
use Rattle.std.specs.Prelude.{◌≡◌, ℕ, List, [], ◌∷◌, Some, refl}
use Rattle.der_tree.specs.Codec.{Codec, Struct}
use Rattle.der_tree.specs.Grammar.{as_struct, enumerated, optional, required, sequence, value_numbered, ◌&◌, ◌⊗◌}
use Rattle.der_tree.specs.PrimitiveTypes.{bit_string, object_identifier}
use Rattle.der_tree.specs.Tags.{universal}
use Rattle.pkix_cert.specs.Algorithms.{algorithm_identifier}
use Rattle.pkix_attr.specs.declared.digest.ObjectDigestInfo.{ObjectDigestInfo}
use Rattle.pkix_attr.specs.declared.digest.DisgestedObjectType.{DisgestedObjectType}
use Rattle.pkix_attr.specs.declared.digest.DisgestedObjectType.TheVariants.{PublicKey, PublicKeyCert, OtherObjectTypes}

abbrev pub disgested_object_type_number : DisgestedObjectType → ℕ
disgested_object_type_number PublicKey = 0
disgested_object_type_number PublicKeyCert = 1
disgested_object_type_number OtherObjectTypes = 2

abbrev pub disgested_object_type_values : List DisgestedObjectType
disgested_object_type_values = PublicKey ∷ PublicKeyCert ∷ OtherObjectTypes ∷ []

pub disgested_object_type_there : (v : DisgestedObjectType) → value_numbered disgested_object_type_number disgested_object_type_values
    (disgested_object_type_number v) ≡ Some v
disgested_object_type_there PublicKey = refl
disgested_object_type_there PublicKeyCert = refl
disgested_object_type_there OtherObjectTypes = refl

abbrev pub disgested_object_type : Codec DisgestedObjectType
disgested_object_type = enumerated disgested_object_type_number disgested_object_type_values disgested_object_type_there PublicKey refl

unfoldable pub object_digest_info_fields : Struct ObjectDigestInfo
object_digest_info_fields = as_struct (
    required disgested_object_type
    & optional object_identifier
    & required algorithm_identifier
    & required bit_string
    ) refl
    (λ v. v.digested_object_type ⊗ v.other_object_type_id ⊗ v.digest_algorithm ⊗ v.object_digest)
    (λ digested_object_type other_object_type_id digest_algorithm object_digest. record {
      digested_object_type = digested_object_type;
      other_object_type_id = other_object_type_id;
      digest_algorithm = digest_algorithm;
      object_digest = object_digest;
    })
    (λ v. refl) (λ f. refl)

abbrev pub object_digest_info : Codec ObjectDigestInfo
object_digest_info = sequence (universal 16) object_digest_info_fields
