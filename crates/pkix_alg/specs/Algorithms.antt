-- Keys, signatures and their parameters, a line for each field (RFC 3279, 2.2 and 2.3).
use Rattle.std.specs.Prelude.{◌≡◌, ◌⊎◌, ℕ, List, refl}
use Rattle.std.proofs.Common.{inl, inr}
use Rattle.der_tree.specs.Codec.{Codec, Struct}
use Rattle.der_tree.specs.Grammar.{any, as_choice, as_struct, either, optional, required, sequence, ◌&◌, ◌⊗◌}
use Rattle.der_tree.specs.PrimitiveTypes.{bit_string, integer, null, object_identifier, octet_string}
use Rattle.der_tree.specs.Tags.{universal}
use Rattle.pkix_alg.specs.declared.algorithms.DssParams.{DssParams}
use Rattle.pkix_alg.specs.declared.algorithms.DssSigValue.{DssSigValue}
use Rattle.pkix_alg.specs.declared.algorithms.RsaPublicKey.{RsaPublicKey}
use Rattle.pkix_alg.specs.declared.algorithms.DomainParameters.{DomainParameters}
use Rattle.pkix_alg.specs.declared.algorithms.ValidationParams.{ValidationParams}
use Rattle.pkix_alg.specs.declared.algorithms.FieldId.{FieldId}
use Rattle.pkix_alg.specs.declared.algorithms.EcdsaSigValue.{EcdsaSigValue}
use Rattle.pkix_alg.specs.declared.algorithms.CharacteristicTwo.{CharacteristicTwo}
use Rattle.pkix_alg.specs.declared.algorithms.Pentanomial.{Pentanomial}
use Rattle.pkix_alg.specs.declared.algorithms.EcpkParameters.{EcpkParameters}
use Rattle.pkix_alg.specs.declared.algorithms.EcParameters.{EcParameters}
use Rattle.pkix_alg.specs.declared.algorithms.Curve.{Curve}
use Rattle.pkix_alg.specs.declared.algorithms.EcpkParameters.TheVariants as ecpk_parameters_kind

unfoldable pub dss_params_fields : Struct DssParams
dss_params_fields = as_struct (
    required integer
    & required integer
    & required integer
    ) refl
    (λ v. v.p ⊗ v.q ⊗ v.g)
    (λ p q g. record { p = p; q = q; g = g }) (λ v. refl) (λ f. refl)

abbrev pub dss_params : Codec DssParams
dss_params = sequence (universal 16) dss_params_fields

unfoldable pub dss_sig_value_fields : Struct DssSigValue
dss_sig_value_fields = as_struct (
    required integer
    & required integer
    ) refl
    (λ v. v.r ⊗ v.s)
    (λ r s. record { r = r; s = s }) (λ v. refl) (λ f. refl)

abbrev pub dss_sig_value : Codec DssSigValue
dss_sig_value = sequence (universal 16) dss_sig_value_fields

unfoldable pub rsa_public_key_fields : Struct RsaPublicKey
rsa_public_key_fields = as_struct (
    required integer
    & required integer
    ) refl
    (λ v. v.modulus ⊗ v.public_exponent)
    (λ modulus public_exponent. record { modulus = modulus; public_exponent = public_exponent }) (λ v. refl) (λ f. refl)

abbrev pub rsa_public_key : Codec RsaPublicKey
rsa_public_key = sequence (universal 16) rsa_public_key_fields

unfoldable pub validation_params_fields : Struct ValidationParams
validation_params_fields = as_struct (
    required bit_string
    & required integer
    ) refl
    (λ v. v.seed ⊗ v.pgen_counter)
    (λ seed pgen_counter. record { seed = seed; pgen_counter = pgen_counter }) (λ v. refl) (λ f. refl)

abbrev pub validation_params : Codec ValidationParams
validation_params = sequence (universal 16) validation_params_fields

unfoldable pub domain_parameters_fields : Struct DomainParameters
domain_parameters_fields = as_struct (
    required integer
    & required integer
    & required integer
    & optional integer
    & optional validation_params
    ) refl
    (λ v. v.p ⊗ v.g ⊗ v.q ⊗ v.j ⊗ v.validation_params)
    (λ p g q j validation_params. record { p = p; g = g; q = q; j = j; validation_params = validation_params }) (λ v. refl) (λ f. refl)

abbrev pub domain_parameters : Codec DomainParameters
domain_parameters = sequence (universal 16) domain_parameters_fields

unfoldable pub field_id_fields : Struct FieldId
field_id_fields = as_struct (
    required object_identifier
    & required any
    ) refl
    (λ v. v.field_type ⊗ v.parameters)
    (λ field_type parameters. record { field_type = field_type; parameters = parameters }) (λ v. refl) (λ f. refl)

abbrev pub field_id : Codec FieldId
field_id = sequence (universal 16) field_id_fields

unfoldable pub ecdsa_sig_value_fields : Struct EcdsaSigValue
ecdsa_sig_value_fields = as_struct (
    required integer
    & required integer
    ) refl
    (λ v. v.r ⊗ v.s)
    (λ r s. record { r = r; s = s }) (λ v. refl) (λ f. refl)

abbrev pub ecdsa_sig_value : Codec EcdsaSigValue
ecdsa_sig_value = sequence (universal 16) ecdsa_sig_value_fields

unfoldable pub characteristic_two_fields : Struct CharacteristicTwo
characteristic_two_fields = as_struct (
    required integer
    & required object_identifier
    & required any
    ) refl
    (λ v. v.m ⊗ v.basis ⊗ v.parameters)
    (λ m basis parameters. record { m = m; basis = basis; parameters = parameters }) (λ v. refl) (λ f. refl)

abbrev pub characteristic_two : Codec CharacteristicTwo
characteristic_two = sequence (universal 16) characteristic_two_fields

unfoldable pub pentanomial_fields : Struct Pentanomial
pentanomial_fields = as_struct (
    required integer
    & required integer
    & required integer
    ) refl
    (λ v. v.k1 ⊗ v.k2 ⊗ v.k3)
    (λ k1 k2 k3. record { k1 = k1; k2 = k2; k3 = k3 }) (λ v. refl) (λ f. refl)

abbrev pub pentanomial : Codec Pentanomial
pentanomial = sequence (universal 16) pentanomial_fields

unfoldable pub curve_fields : Struct Curve
curve_fields = as_struct (
    required octet_string
    & required octet_string
    & optional bit_string
    ) refl
    (λ v. v.a ⊗ v.b ⊗ v.seed)
    (λ a b seed. record { a = a; b = b; seed = seed }) (λ v. refl) (λ f. refl)

abbrev pub curve : Codec Curve
curve = sequence (universal 16) curve_fields

unfoldable pub ec_parameters_fields : Struct EcParameters
ec_parameters_fields = as_struct (
    required integer
    & required field_id
    & required curve
    & required octet_string
    & required integer
    & optional integer
    ) refl
    (λ v. v.ec_parameters ⊗ v.named_curve ⊗ v.curve ⊗ v.base ⊗ v.order ⊗ v.cofactor)
    (λ ec_parameters named_curve curve base order cofactor. record {
      ec_parameters = ec_parameters;
      named_curve = named_curve;
      curve = curve;
      base = base;
      order = order;
      cofactor = cofactor;
    }) (λ v. refl) (λ f. refl)

abbrev pub ec_parameters : Codec EcParameters
ec_parameters = sequence (universal 16) ec_parameters_fields

abbrev pub ecpk_parameters_parts : EcpkParameters → EcParameters ⊎ (List ℕ ⊎ (Unit {0}))
ecpk_parameters_parts (ecpk_parameters_kind.EcParameters v) = inl v
ecpk_parameters_parts (ecpk_parameters_kind.NamedCurve v) = inr (inl v)
ecpk_parameters_parts (ecpk_parameters_kind.ImplicitlyCa v) = inr (inr v)

abbrev pub ecpk_parameters_of : EcParameters ⊎ (List ℕ ⊎ (Unit {0})) → EcpkParameters
ecpk_parameters_of (inl v) = ecpk_parameters_kind.EcParameters v
ecpk_parameters_of (inr (inl v)) = ecpk_parameters_kind.NamedCurve v
ecpk_parameters_of (inr (inr v)) = ecpk_parameters_kind.ImplicitlyCa v

pub ecpk_parameters_there : (v : EcpkParameters) → ecpk_parameters_of (ecpk_parameters_parts v) ≡ v
ecpk_parameters_there (ecpk_parameters_kind.EcParameters v) = refl
ecpk_parameters_there (ecpk_parameters_kind.NamedCurve v) = refl
ecpk_parameters_there (ecpk_parameters_kind.ImplicitlyCa v) = refl

pub ecpk_parameters_back : (p : EcParameters ⊎ (List ℕ ⊎ (Unit {0}))) → ecpk_parameters_parts (ecpk_parameters_of p) ≡ p
ecpk_parameters_back (inl v) = refl
ecpk_parameters_back (inr (inl v)) = refl
ecpk_parameters_back (inr (inr v)) = refl

abbrev pub ecpk_parameters : Codec EcpkParameters
ecpk_parameters =
    as_choice (either ec_parameters (either object_identifier null refl) refl) ecpk_parameters_parts ecpk_parameters_of ecpk_parameters_there
    ecpk_parameters_back
