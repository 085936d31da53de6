-- The algorithms: their identifiers, and that these tell them apart.
use denote.Enum.Bare.{same_true}
use Rattle.std.specs.Prelude.{◌≡◌, ◌↔◌, ℕ, ◌-◌, ◌%◌, Bool, true, ◌&&◌, List, ◌++◌, Option, Some, find, length, nat_eq, slice_index, Contains, IfSome, refl}
use Rattle.std.specs.Cmp.Lexicographic.{pointwise}
use Rattle.std.specs.List.{position_or_len}
use Rattle.std.specs.Option.{option_eq, option_map_or}
use Rattle.std.proofs.Common.{arith, eq-eqb, sym, ap, subst, ◌∙◌}
use Rattle.std.proofs.lemmas.List.Folds.{find_at}
use Rattle.std.proofs.lemmas.Option.{get_or_from_slice_get, slice_get_within}
use Rattle.asn1_core.specs.Arcs.{is_oid}
use Rattle.asn1_core.specs.Base128.{digits}
use Rattle.asn1_core.specs.Binds.{some_is}
use Rattle.asn1_core.specs.Bits.{bits, are_bits}
use Rattle.asn1_core.specs.ObjectIdentifiers.{object_identifier_contents}
use Rattle.asn1_core.specs.Octets.{null_contents}
use Rattle.der_tree.specs.AnyElement.{is_one}
use Rattle.der_tree.specs.Element.{element_at, element_octets, identifier_at, identifier_octets, length_at, length_octets}
use Rattle.der_tree.specs.Form.{IsDerOf}
use Rattle.der_tree.specs.PrimitiveTypes.{null, object_identifier}
use Rattle.rcgen_sign.specs.contracts.sign_algo.Scheme.{the_type}
use Rattle.rcgen_sign.specs.contracts.sign_algo.SignatureAlgorithmPartialEq.TheImpl.{ghosts as equality}
use Rattle.rcgen_sign.specs.declared.key_info.KeyAlgorithm.{KeyAlgorithm}
use Rattle.rcgen_sign.specs.declared.sign_algo.SignatureAlgorithm.{SignatureAlgorithm}
use Rattle.rcgen_sign.specs.declared.sign_algo.TheConstants as algorithm
use Rattle.rcgen_sign.specs.declared.sign_algo.Scheme.{Scheme}
use Rattle.rcgen_sign.specs.declared.sign_algo.Scheme.TheVariants as scheme
use Rattle.rcgen_sign.specs.Algorithms.{key_algorithm_value, key_arcs, key_element, key_parameters, signature_arcs, signature_parameters}
use Rattle.rcgen_sign.specs.Algorithms.{p256_keys, p384_keys, p521_keys, rsa_keys, secp256r1, secp384r1, secp521r1}
use Rattle.rcgen_sign.specs.KeyInfos.{key_algorithm, key_algorithm_fields}
use Rattle.rcgen_sign.specs.Listed.{listed, unlisted, same_key_algorithm}

pub no_unused : (b : List ℕ) → are_bits (bits 0 b) ≡ true
no_unused b = eq-eqb (slice_index b (length b - 1) % 1) 0 (omega arith)

-- what holds at each scheme
module _ (P : Scheme → Type 0) where
  each : P scheme.RsaSha256 → P scheme.RsaSha384 → P scheme.RsaSha512 → P scheme.EcdsaP256Sha256 → P scheme.EcdsaP384Sha384 → P scheme.EcdsaP521Sha256
      → P scheme.EcdsaP521Sha384 → P scheme.EcdsaP521Sha512 → P scheme.Ed25519 → P scheme.MlDsa44 → P scheme.MlDsa65 → P scheme.MlDsa87
      → P scheme.RsaPssSha256 → P scheme.RsaPssSha384 → P scheme.RsaPssSha512 → P scheme.PssSha256 → P scheme.PssSha384
      → P scheme.PssSha512 → P scheme.PssOnlySha256 → P scheme.PssOnlySha384 → P scheme.PssOnlySha512
      → (s : Scheme) → P s
  each p1 p2 p3 p4 p5 p6 p7 p8 p9 p10 p11 p12 p13 p14 p15 p16 p17 p18 p19 p20 p21 scheme.RsaSha256 = p1
  each p1 p2 p3 p4 p5 p6 p7 p8 p9 p10 p11 p12 p13 p14 p15 p16 p17 p18 p19 p20 p21 scheme.RsaSha384 = p2
  each p1 p2 p3 p4 p5 p6 p7 p8 p9 p10 p11 p12 p13 p14 p15 p16 p17 p18 p19 p20 p21 scheme.RsaSha512 = p3
  each p1 p2 p3 p4 p5 p6 p7 p8 p9 p10 p11 p12 p13 p14 p15 p16 p17 p18 p19 p20 p21 scheme.EcdsaP256Sha256 = p4
  each p1 p2 p3 p4 p5 p6 p7 p8 p9 p10 p11 p12 p13 p14 p15 p16 p17 p18 p19 p20 p21 scheme.EcdsaP384Sha384 = p5
  each p1 p2 p3 p4 p5 p6 p7 p8 p9 p10 p11 p12 p13 p14 p15 p16 p17 p18 p19 p20 p21 scheme.EcdsaP521Sha256 = p6
  each p1 p2 p3 p4 p5 p6 p7 p8 p9 p10 p11 p12 p13 p14 p15 p16 p17 p18 p19 p20 p21 scheme.EcdsaP521Sha384 = p7
  each p1 p2 p3 p4 p5 p6 p7 p8 p9 p10 p11 p12 p13 p14 p15 p16 p17 p18 p19 p20 p21 scheme.EcdsaP521Sha512 = p8
  each p1 p2 p3 p4 p5 p6 p7 p8 p9 p10 p11 p12 p13 p14 p15 p16 p17 p18 p19 p20 p21 scheme.Ed25519 = p9
  each p1 p2 p3 p4 p5 p6 p7 p8 p9 p10 p11 p12 p13 p14 p15 p16 p17 p18 p19 p20 p21 scheme.MlDsa44 = p10
  each p1 p2 p3 p4 p5 p6 p7 p8 p9 p10 p11 p12 p13 p14 p15 p16 p17 p18 p19 p20 p21 scheme.MlDsa65 = p11
  each p1 p2 p3 p4 p5 p6 p7 p8 p9 p10 p11 p12 p13 p14 p15 p16 p17 p18 p19 p20 p21 scheme.MlDsa87 = p12
  each p1 p2 p3 p4 p5 p6 p7 p8 p9 p10 p11 p12 p13 p14 p15 p16 p17 p18 p19 p20 p21 scheme.RsaPssSha256 = p13
  each p1 p2 p3 p4 p5 p6 p7 p8 p9 p10 p11 p12 p13 p14 p15 p16 p17 p18 p19 p20 p21 scheme.RsaPssSha384 = p14
  each p1 p2 p3 p4 p5 p6 p7 p8 p9 p10 p11 p12 p13 p14 p15 p16 p17 p18 p19 p20 p21 scheme.RsaPssSha512 = p15
  each p1 p2 p3 p4 p5 p6 p7 p8 p9 p10 p11 p12 p13 p14 p15 p16 p17 p18 p19 p20 p21 scheme.PssSha256 = p16
  each p1 p2 p3 p4 p5 p6 p7 p8 p9 p10 p11 p12 p13 p14 p15 p16 p17 p18 p19 p20 p21 scheme.PssSha384 = p17
  each p1 p2 p3 p4 p5 p6 p7 p8 p9 p10 p11 p12 p13 p14 p15 p16 p17 p18 p19 p20 p21 scheme.PssSha512 = p18
  each p1 p2 p3 p4 p5 p6 p7 p8 p9 p10 p11 p12 p13 p14 p15 p16 p17 p18 p19 p20 p21 scheme.PssOnlySha256 = p19
  each p1 p2 p3 p4 p5 p6 p7 p8 p9 p10 p11 p12 p13 p14 p15 p16 p17 p18 p19 p20 p21 scheme.PssOnlySha384 = p20
  each p1 p2 p3 p4 p5 p6 p7 p8 p9 p10 p11 p12 p13 p14 p15 p16 p17 p18 p19 p20 p21 scheme.PssOnlySha512 = p21

-- what holds of each constant holds of each algorithm
pub every : (P : SignatureAlgorithm → Type 0) → P algorithm.PKCS_RSA_SHA256 → P algorithm.PKCS_RSA_SHA384 → P algorithm.PKCS_RSA_SHA512
    → P algorithm.PKCS_ECDSA_P256_SHA256 → P algorithm.PKCS_ECDSA_P384_SHA384 → P algorithm.PKCS_ECDSA_P521_SHA256
    → P algorithm.PKCS_ECDSA_P521_SHA384 → P algorithm.PKCS_ECDSA_P521_SHA512 → P algorithm.PKCS_ED25519 → P algorithm.PKCS_ML_DSA_44
    → P algorithm.PKCS_ML_DSA_65 → P algorithm.PKCS_ML_DSA_87
    → P algorithm.PKCS_RSA_PSS_SHA256 → P algorithm.PKCS_RSA_PSS_SHA384 → P algorithm.PKCS_RSA_PSS_SHA512
    → P algorithm.PKCS_PSS_SHA256 → P algorithm.PKCS_PSS_SHA384 → P algorithm.PKCS_PSS_SHA512
    → P algorithm.PKCS_PSS_ONLY_SHA256 → P algorithm.PKCS_PSS_ONLY_SHA384 → P algorithm.PKCS_PSS_ONLY_SHA512 → (a : SignatureAlgorithm) → P a
every P p1 p2 p3 p4 p5 p6 p7 p8 p9 p10 p11 p12 p13 p14 p15 p16 p17 p18 p19 p20 p21 a = each (λ s. P (record { scheme = s })) p1 p2 p3 p4 p5 p6 p7 p8 p9 p10 p11 p12 p13 p14 p15 p16 p17 p18 p19 p20 p21 a.scheme

pub key_arcs_are : (a : SignatureAlgorithm) → is_oid (key_arcs a) ≡ true
key_arcs_are a = each (λ s. is_oid (key_arcs (record { scheme = s })) ≡ true) refl refl refl refl refl refl refl refl refl refl refl refl refl refl refl refl refl refl refl refl refl a.scheme

pub are_one : (a : SignatureAlgorithm) → option_map_or is_one (key_parameters a) true ≡ true
unfolding element_at identifier_at length_at
are_one a =
    each (λ s. option_map_or is_one (key_parameters (record { scheme = s })) true ≡ true) refl refl refl refl refl refl refl refl refl refl refl refl refl refl refl refl refl refl refl refl refl
    a.scheme

pub signature_parameters_are_one : (a : SignatureAlgorithm) → option_map_or is_one (signature_parameters a) true ≡ true
unfolding element_at identifier_at length_at
signature_parameters_are_one a =
    each (λ s. option_map_or is_one (signature_parameters (record { scheme = s })) true ≡ true) refl refl refl refl refl refl refl refl refl refl refl refl refl refl refl refl refl refl refl refl refl
    a.scheme

pub parameters_are_one : (a : SignatureAlgorithm) (p : List ℕ) → key_parameters a ≡ Some p → is_one p ≡ true
parameters_are_one a p e = rw e at (are_one a)

pub ruleset formed = (key_arcs_are, parameters_are_one, no_unused)

-- the element of each is the form of its identifier
pub elements : (a : SignatureAlgorithm) → IsDerOf key_algorithm (key_algorithm_value a) (key_element a)
unfolding key_algorithm_fields object_identifier_contents digits element_octets identifier_octets length_octets element_at identifier_at length_at
elements a =
    each (λ s. let x : SignatureAlgorithm = record { scheme = s } in IsDerOf key_algorithm (key_algorithm_value x) (key_element x))
    (_, _, refl, refl, refl) (_, _, refl, refl, refl) (_, _, refl, refl, refl)
    (_, _, refl, refl, refl) (_, _, refl, refl, refl) (_, _, refl, refl, refl) (_, _, refl, refl, refl) (_, _, refl, refl, refl)
    (_, _, refl, refl, refl) (_, _, refl, refl, refl) (_, _, refl, refl, refl) (_, _, refl, refl, refl)
    (_, _, refl, refl, refl) (_, _, refl, refl, refl) (_, _, refl, refl, refl)
    (_, _, refl, refl, refl) (_, _, refl, refl, refl) (_, _, refl, refl, refl)
    (_, _, refl, refl, refl) (_, _, refl, refl, refl) (_, _, refl, refl, refl) a.scheme

-- ---- equality

-- the algorithm of both identifiers
named_with : List ℕ → Option (List ℕ) → KeyAlgorithm → Option SignatureAlgorithm
named_with arcs parameters k =
    find (λ a. pointwise nat_eq (signature_arcs a) arcs && option_eq (pointwise nat_eq) (signature_parameters a) parameters
    && same_key_algorithm (key_algorithm_value a) k) (listed ++ unlisted)

finds_itself : (a : SignatureAlgorithm) → named_with (signature_arcs a) (signature_parameters a) (key_algorithm_value a) ≡ Some a
unfolding named_with listed
finds_itself a =
    each (λ s. let x : SignatureAlgorithm = record { scheme = s } in named_with (signature_arcs x) (signature_parameters x) (key_algorithm_value x) ≡ Some x)
    refl refl refl refl refl refl refl refl refl refl refl refl refl refl refl refl refl refl refl refl refl a.scheme

pub told_apart : (a b : SignatureAlgorithm) → signature_arcs a ≡ signature_arcs b → signature_parameters a ≡ signature_parameters b
    → key_algorithm_value a ≡ key_algorithm_value b → a ≡ b
told_apart a b e p f =
    some_is a b
    (sym (finds_itself a) ∙ ap (λ (arcs : List ℕ). named_with arcs (signature_parameters a) (key_algorithm_value a)) e
    ∙ ap (λ (o : Option (List ℕ)). named_with (signature_arcs b) o (key_algorithm_value a)) p
    ∙ ap (named_with (signature_arcs b) (signature_parameters b)) f ∙ finds_itself b)

equals_itself : (a : SignatureAlgorithm) → equality.eq a a ≡ true
equals_itself a =
    each (λ s. let x : SignatureAlgorithm = record { scheme = s } in equality.eq x x ≡ true) refl refl refl refl refl refl refl refl refl refl refl refl refl refl refl refl refl refl refl refl refl
    a.scheme

pub equal_is : (a b : SignatureAlgorithm) → (equality.eq a b ≡ true) ↔ (a ≡ b)
equal_is a b = (
  λ e. ap (λ (s : Scheme). let x : SignatureAlgorithm = record { scheme = s } in x) (same_true the_type tt a.scheme b.scheme e),
  λ e. subst (λ (x : SignatureAlgorithm). equality.eq a x ≡ true) e (equals_itself a),
)

contained : {A : Type 0} (p : A → Bool) (xs : List A) (y : A) → find p xs ≡ Some y → Contains xs y
contained p xs y e =
    let h = sym (find_at p xs) ∙ e in
    (position_or_len p xs, slice_get_within xs (position_or_len p xs) y h, get_or_from_slice_get xs (position_or_len p xs) y y h)

pub no_other : (a : SignatureAlgorithm) → Contains (listed ++ unlisted) a
unfolding named_with
no_other a = contained _ (listed ++ unlisted) a (finds_itself a)

-- bytes that are the element
pub form_of : (a : SignatureAlgorithm) (b : List ℕ) → b ≡ key_element a → IsDerOf key_algorithm (key_algorithm_value a) b
form_of a b e = subst (λ (x : List ℕ). IsDerOf key_algorithm (key_algorithm_value a) x) (sym e) (elements a)

pub ruleset apart = (told_apart, equal_is, no_other)

-- ---- parameters

pub null_is : IfSome rsa_keys.parameters (IsDerOf null tt)
unfolding null_contents element_octets identifier_octets length_octets element_at identifier_at length_at
null_is = (_, _, refl, refl, refl)

pub p256_is : IfSome p256_keys.parameters (IsDerOf object_identifier secp256r1)
unfolding object_identifier_contents digits element_octets identifier_octets length_octets
p256_is = (_, _, refl, refl, refl)

pub p384_is : IfSome p384_keys.parameters (IsDerOf object_identifier secp384r1)
unfolding object_identifier_contents digits element_octets identifier_octets length_octets
p384_is = (_, _, refl, refl, refl)

pub p521_is : IfSome p521_keys.parameters (IsDerOf object_identifier secp521r1)
unfolding object_identifier_contents digits element_octets identifier_octets length_octets
p521_is = (_, _, refl, refl, refl)
