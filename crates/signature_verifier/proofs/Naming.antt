-- Octets are the DER of an identifier exactly where they are the constant that is.
use Rattle.std.specs.Prelude.{◌≡◌, ℕ, Bool, true, false, ◌||◌, cond, List, [], ◌∷◌, Option, Some, None, find, nat_eq, refl}
use Rattle.std.specs.Cmp.Lexicographic.{pointwise, same_text, nat_list_eq_equiv}
use Rattle.std.specs.List.{list_any}
use Rattle.std.specs.Option.{option_eq}
use Rattle.std.specs.Str.{bytes_eq}
use Rattle.std.proofs.Common.{sym, ap, subst, ◌∙◌}
use Rattle.std.proofs.lemmas.Bool.{both_ways, false_from_ne_true}
use Rattle.std.proofs.Math.Bool.{or-false}
use Rattle.asn1_core.specs.Base128.{digits}
use Rattle.asn1_core.specs.Binds.{◌>>=◌, and_true, true_and}
use Rattle.asn1_core.specs.ObjectIdentifiers.{object_identifier_contents}
use Rattle.der_tree.specs.Element.{element_at, element_octets, identifier_at, identifier_octets, length_at, length_octets}
use Rattle.der_tree.specs.Form.{IsDerOf, value_of}
use Rattle.der_tree.proofs.FormLaws.{no_value, same_form, same_value, value_there}
use Rattle.ecdsa.specs.declared.Curve.TheVariants.{P256, P384, P521}
use Rattle.ecdsa.specs.declared.Hash.TheVariants as ecdsa
use Rattle.rcgen_sign.specs.Algorithms.{ed25519_arcs, key_element}
use Rattle.rcgen_sign.specs.KeyInfos.{key_algorithm, key_algorithm_fields}
use Rattle.rcgen_sign.specs.Listed.{same_key_algorithm}
use Rattle.rcgen_sign.specs.declared.key_info.KeyAlgorithm.{KeyAlgorithm}
use Rattle.rcgen_sign.specs.declared.sign_algo.TheConstants as algorithm
use Rattle.rcgen_sign.proofs.AlgorithmLemmas.{elements}
use Rattle.rsa.specs.declared.Hash.TheVariants as rsa
use Rattle.rsa.specs.declared.digest.PssHash.{PssHash}
use Rattle.rsa.specs.declared.digest.PssHash.TheVariants as pss
use Rattle.signature_verifier.specs.declared.key_kind.KeyKind.{KeyKind}
use Rattle.signature_verifier.specs.declared.key_kind.KeyKind.TheVariants as kind
use Rattle.signature_verifier.specs.declared.scheme.SignatureScheme.{SignatureScheme}
use Rattle.signature_verifier.specs.declared.scheme.SignatureScheme.TheVariants as scheme
use Rattle.signature_verifier.specs.declared.scheme.TheConstants as octets
use Rattle.signature_verifier.specs.Schemes.{alone, ecdsa_with_sha2, key_identifier, kind_named, kind_of, kinds}
use Rattle.signature_verifier.specs.Schemes.{pkcs_1, rsassa_pss, scheme_named, scheme_of, schemes, signature_identifiers, with_null}

-- ---- equal identifiers

same_parameters : (o p : Option (List ℕ)) → option_eq (pointwise nat_eq) o p ≡ true → o ≡ p
same_parameters None None e = refl
same_parameters None (Some b) e = absurd cc
same_parameters (Some a) None e = absurd cc
same_parameters (Some a) (Some b) e = ap Some (same_text a b (sym e))

pub same_identifier : (x y : KeyAlgorithm) → same_key_algorithm x y ≡ true → x ≡ y
same_identifier x y e =
    let h = and_true (pointwise nat_eq x.algorithm y.algorithm) (option_eq (pointwise nat_eq) x.parameters y.parameters) e in
    ap (λ (b : List ℕ). let k : KeyAlgorithm = record { algorithm = b; parameters = x.parameters } in k) (same_text x.algorithm y.algorithm (sym h.0))
    ∙ ap (λ (p : Option (List ℕ)). let k : KeyAlgorithm = record { algorithm = y.algorithm; parameters = p } in k)
    (same_parameters x.parameters y.parameters h.1)

alike : (o : Option (List ℕ)) → option_eq (pointwise nat_eq) o o ≡ true
alike None = refl
alike (Some a) = nat_list_eq_equiv.refl a

pub identifier_alike : (x : KeyAlgorithm) → same_key_algorithm x x ≡ true
identifier_alike x =
    true_and (pointwise nat_eq x.algorithm x.algorithm) (option_eq (pointwise nat_eq) x.parameters x.parameters)
    (nat_list_eq_equiv.refl x.algorithm) (alike x.parameters)

-- ---- one identifier

-- the identifier is there
abbrev is : KeyAlgorithm → Option KeyAlgorithm → Bool
is v None = false
is v (Some w) = same_key_algorithm v w

module _ (v : KeyAlgorithm) (o : List ℕ) (h : IsDerOf key_algorithm v o) (b : List ℕ) where
  form : bytes_eq b o ≡ true → IsDerOf key_algorithm v b
  form e = subst (λ (x : List ℕ). IsDerOf key_algorithm v x) (sym (same_text b o (sym e))) h

  known : (w : KeyAlgorithm) → IsDerOf key_algorithm w b → (t : Bool) → bytes_eq b o ≡ t → same_key_algorithm v w ≡ t
  known w k true e =
      subst (λ (x : KeyAlgorithm). same_key_algorithm v x ≡ true) (same_value key_algorithm v w b (form e) k) (identifier_alike v)
  known w k false e =
      false_from_ne_true (same_key_algorithm v w) (λ same.
      both_ways (bytes_eq b o) e
      (subst (λ (x : List ℕ). bytes_eq b x ≡ true)
      (same_form key_algorithm v b o (subst (λ (x : KeyAlgorithm). IsDerOf key_algorithm x b) (sym (same_identifier v w same)) k) h)
      (nat_list_eq_equiv.refl b)))

  unknown : value_of key_algorithm b ≡ None → (t : Bool) → bytes_eq b o ≡ t → false ≡ t
  unknown e true f = absurd (no_value key_algorithm b e v (form f))
  unknown e false f = refl

  named_at : (r : Option KeyAlgorithm) → value_of key_algorithm b ≡ r → is v r ≡ bytes_eq b o
  named_at None e = unknown e (bytes_eq b o) refl
  named_at (Some w) e = known w (value_there key_algorithm b w e) (bytes_eq b o) refl

  named : is v (value_of key_algorithm b) ≡ bytes_eq b o
  named = named_at (value_of key_algorithm b) refl

-- ---- one of many

find_same : {X : Type 0} (p q : X → Bool) → ((x : X) → p x ≡ q x) → (xs : List X) → find p xs ≡ find q xs
find_same p q h [] = refl
find_same p q h (x ∷ xs) = rw (h x, find_same p q h xs) refl

-- ---- kinds of keys

key_octets : KeyKind → List ℕ
key_octets kind.Rsa = key_element algorithm.PKCS_RSA_SHA256
key_octets (kind.RsaPss None) = octets.RSA_PSS.now
key_octets (kind.RsaPss (Some pss.Sha256)) = octets.RSA_PSS_SHA256.now
key_octets (kind.RsaPss (Some pss.Sha384)) = octets.RSA_PSS_SHA384.now
key_octets (kind.RsaPss (Some pss.Sha512)) = octets.RSA_PSS_SHA512.now
key_octets (kind.Ec P256) = key_element algorithm.PKCS_ECDSA_P256_SHA256
key_octets (kind.Ec P384) = key_element algorithm.PKCS_ECDSA_P384_SHA384
key_octets (kind.Ec P521) = key_element algorithm.PKCS_ECDSA_P521_SHA512
key_octets kind.Ed25519 = key_element algorithm.PKCS_ED25519

pss_octets : PssHash → List ℕ
pss_octets pss.Sha256 = octets.RSA_PSS_SHA256.now
pss_octets pss.Sha384 = octets.RSA_PSS_SHA384.now
pss_octets pss.Sha512 = octets.RSA_PSS_SHA512.now

pss_alone : IsDerOf key_algorithm (alone (pkcs_1 10)) octets.RSA_PSS.now
unfolding key_algorithm_fields object_identifier_contents digits element_octets identifier_octets length_octets element_at identifier_at length_at
pss_alone = (_, _, refl, refl, refl)

pss_forms : (hash : PssHash) → IsDerOf key_algorithm (rsassa_pss hash) (pss_octets hash)
unfolding pss_octets key_algorithm_fields object_identifier_contents digits element_octets identifier_octets length_octets element_at identifier_at length_at
pss_forms pss.Sha256 = (_, _, refl, refl, refl)
pss_forms pss.Sha384 = (_, _, refl, refl, refl)
pss_forms pss.Sha512 = (_, _, refl, refl, refl)

key_forms : (k : KeyKind) → IsDerOf key_algorithm (key_identifier k) (key_octets k)
unfolding key_octets pss_octets
key_forms kind.Rsa = elements algorithm.PKCS_RSA_SHA256
key_forms (kind.RsaPss None) = pss_alone
key_forms (kind.RsaPss (Some pss.Sha256)) = pss_forms pss.Sha256
key_forms (kind.RsaPss (Some pss.Sha384)) = pss_forms pss.Sha384
key_forms (kind.RsaPss (Some pss.Sha512)) = pss_forms pss.Sha512
key_forms (kind.Ec P256) = elements algorithm.PKCS_ECDSA_P256_SHA256
key_forms (kind.Ec P384) = elements algorithm.PKCS_ECDSA_P384_SHA384
key_forms (kind.Ec P521) = elements algorithm.PKCS_ECDSA_P521_SHA512
key_forms kind.Ed25519 = elements algorithm.PKCS_ED25519

kind_is : (o : Option KeyAlgorithm) → (o >>= kind_of) ≡ find (λ k. is (key_identifier k) o) kinds
unfolding kind_of
kind_is None = refl
kind_is (Some w) = refl

pub kind_found : (b : List ℕ)
    → kind_named b ≡ cond (bytes_eq b (key_element algorithm.PKCS_RSA_SHA256)) (Some kind.Rsa)
    (cond (bytes_eq b octets.RSA_PSS.now) (Some (kind.RsaPss None))
    (cond (bytes_eq b octets.RSA_PSS_SHA256.now) (Some (kind.RsaPss (Some pss.Sha256)))
    (cond (bytes_eq b octets.RSA_PSS_SHA384.now) (Some (kind.RsaPss (Some pss.Sha384)))
    (cond (bytes_eq b octets.RSA_PSS_SHA512.now) (Some (kind.RsaPss (Some pss.Sha512)))
    (cond (bytes_eq b (key_element algorithm.PKCS_ECDSA_P256_SHA256)) (Some (kind.Ec P256))
    (cond (bytes_eq b (key_element algorithm.PKCS_ECDSA_P384_SHA384)) (Some (kind.Ec P384))
    (cond (bytes_eq b (key_element algorithm.PKCS_ECDSA_P521_SHA512)) (Some (kind.Ec P521))
    (cond (bytes_eq b (key_element algorithm.PKCS_ED25519)) (Some kind.Ed25519) None))))))))
unfolding kind_named key_octets
kind_found b =
    kind_is (value_of key_algorithm b)
    ∙ find_same (λ k. is (key_identifier k) (value_of key_algorithm b)) (λ k. bytes_eq b (key_octets k))
    (λ k. named (key_identifier k) (key_octets k) (key_forms k) b) kinds

-- ---- schemes

-- the octets are the constant, or one of the two constants, of the scheme
has_octets : List ℕ → SignatureScheme → Bool
has_octets b (scheme.RsaPkcs1 rsa.Sha1) = bytes_eq b octets.SHA1_WITH_RSA.now
has_octets b (scheme.RsaPkcs1 rsa.Sha256) = bytes_eq b octets.SHA256_WITH_RSA.now || bytes_eq b octets.SHA256_WITH_RSA_ALONE.now
has_octets b (scheme.RsaPkcs1 rsa.Sha384) = bytes_eq b octets.SHA384_WITH_RSA.now || bytes_eq b octets.SHA384_WITH_RSA_ALONE.now
has_octets b (scheme.RsaPkcs1 rsa.Sha512) = bytes_eq b octets.SHA512_WITH_RSA.now || bytes_eq b octets.SHA512_WITH_RSA_ALONE.now
has_octets b (scheme.RsaPss hash) = bytes_eq b (pss_octets hash)
has_octets b (scheme.Ecdsa ecdsa.Sha256) = bytes_eq b octets.ECDSA_WITH_SHA256.now
has_octets b (scheme.Ecdsa ecdsa.Sha384) = bytes_eq b octets.ECDSA_WITH_SHA384.now
has_octets b (scheme.Ecdsa ecdsa.Sha512) = bytes_eq b octets.ECDSA_WITH_SHA512.now
has_octets b scheme.Ed25519 = bytes_eq b octets.ED25519.now

only : (a c : Bool) → a ≡ c → (a || false) ≡ c
only a c e = or-false a ∙ e

either : (a b c d : Bool) → a ≡ c → b ≡ d → (a || (b || false)) ≡ (c || d)
either a b c d e f = rw (or-false b, e, f) refl

module _ (b : List ℕ) where
  one : (v : KeyAlgorithm) (o : List ℕ) → IsDerOf key_algorithm v o → (is v (value_of key_algorithm b) || false) ≡ bytes_eq b o
  one v o h = only (is v (value_of key_algorithm b)) (bytes_eq b o) (named v o h b)

  both : (v w : KeyAlgorithm) (o p : List ℕ) → IsDerOf key_algorithm v o → IsDerOf key_algorithm w p
      → (is v (value_of key_algorithm b) || (is w (value_of key_algorithm b) || false)) ≡ (bytes_eq b o || bytes_eq b p)
  both v w o p h k =
      either (is v (value_of key_algorithm b)) (is w (value_of key_algorithm b)) (bytes_eq b o) (bytes_eq b p) (named v o h b) (named w p k b)

  signature_names : (s : SignatureScheme) → list_any (λ i. is i (value_of key_algorithm b)) (signature_identifiers s) ≡ has_octets b s
  unfolding has_octets key_algorithm_fields object_identifier_contents digits element_octets identifier_octets length_octets element_at identifier_at length_at
  signature_names (scheme.RsaPkcs1 rsa.Sha1) = one (with_null (pkcs_1 5)) octets.SHA1_WITH_RSA.now (_, _, refl, refl, refl)
  signature_names (scheme.RsaPkcs1 rsa.Sha256) =
      both (with_null (pkcs_1 11)) (alone (pkcs_1 11)) octets.SHA256_WITH_RSA.now octets.SHA256_WITH_RSA_ALONE.now (_, _, refl, refl, refl)
      (_, _, refl, refl, refl)
  signature_names (scheme.RsaPkcs1 rsa.Sha384) =
      both (with_null (pkcs_1 12)) (alone (pkcs_1 12)) octets.SHA384_WITH_RSA.now octets.SHA384_WITH_RSA_ALONE.now (_, _, refl, refl, refl)
      (_, _, refl, refl, refl)
  signature_names (scheme.RsaPkcs1 rsa.Sha512) =
      both (with_null (pkcs_1 13)) (alone (pkcs_1 13)) octets.SHA512_WITH_RSA.now octets.SHA512_WITH_RSA_ALONE.now (_, _, refl, refl, refl)
      (_, _, refl, refl, refl)
  signature_names (scheme.RsaPss hash) = one (rsassa_pss hash) (pss_octets hash) (pss_forms hash)
  signature_names (scheme.Ecdsa ecdsa.Sha256) = one (alone (ecdsa_with_sha2 2)) octets.ECDSA_WITH_SHA256.now (_, _, refl, refl, refl)
  signature_names (scheme.Ecdsa ecdsa.Sha384) = one (alone (ecdsa_with_sha2 3)) octets.ECDSA_WITH_SHA384.now (_, _, refl, refl, refl)
  signature_names (scheme.Ecdsa ecdsa.Sha512) = one (alone (ecdsa_with_sha2 4)) octets.ECDSA_WITH_SHA512.now (_, _, refl, refl, refl)
  signature_names scheme.Ed25519 = one (alone ed25519_arcs) octets.ED25519.now (_, _, refl, refl, refl)

scheme_is : (o : Option KeyAlgorithm) → (o >>= scheme_of) ≡ find (λ s. list_any (λ i. is i o) (signature_identifiers s)) schemes
unfolding scheme_of
scheme_is None = refl
scheme_is (Some w) = refl

pub scheme_found : (b : List ℕ)
    → scheme_named b ≡ cond (bytes_eq b octets.SHA1_WITH_RSA.now) (Some (scheme.RsaPkcs1 rsa.Sha1))
    (cond (bytes_eq b octets.SHA256_WITH_RSA.now || bytes_eq b octets.SHA256_WITH_RSA_ALONE.now) (Some (scheme.RsaPkcs1 rsa.Sha256))
    (cond (bytes_eq b octets.SHA384_WITH_RSA.now || bytes_eq b octets.SHA384_WITH_RSA_ALONE.now) (Some (scheme.RsaPkcs1 rsa.Sha384))
    (cond (bytes_eq b octets.SHA512_WITH_RSA.now || bytes_eq b octets.SHA512_WITH_RSA_ALONE.now) (Some (scheme.RsaPkcs1 rsa.Sha512))
    (cond (bytes_eq b octets.RSA_PSS_SHA256.now) (Some (scheme.RsaPss pss.Sha256))
    (cond (bytes_eq b octets.RSA_PSS_SHA384.now) (Some (scheme.RsaPss pss.Sha384))
    (cond (bytes_eq b octets.RSA_PSS_SHA512.now) (Some (scheme.RsaPss pss.Sha512))
    (cond (bytes_eq b octets.ECDSA_WITH_SHA256.now) (Some (scheme.Ecdsa ecdsa.Sha256))
    (cond (bytes_eq b octets.ECDSA_WITH_SHA384.now) (Some (scheme.Ecdsa ecdsa.Sha384))
    (cond (bytes_eq b octets.ECDSA_WITH_SHA512.now) (Some (scheme.Ecdsa ecdsa.Sha512))
    (cond (bytes_eq b octets.ED25519.now) (Some scheme.Ed25519) None))))))))))
unfolding scheme_named has_octets pss_octets
scheme_found b =
    scheme_is (value_of key_algorithm b)
    ∙ find_same (λ s. list_any (λ i. is i (value_of key_algorithm b)) (signature_identifiers s)) (has_octets b) (signature_names b) schemes
