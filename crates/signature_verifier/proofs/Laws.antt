-- What is accepted is signed, by one scheme and under one key.
use Rattle.std.specs.Prelude.{◌≡◌, ◌↔◌, ℕ, ◌==◌, Bool, true, false, ◌&&◌, ◌||◌, cond, List, [], ◌∷◌, ◌++◌, Option, Some, None, find, Contains, refl}
use Rattle.std.specs.List.{list_any}
use Rattle.std.specs.Option.{option_map_or}
use Rattle.std.proofs.Common.{sym, ap, subst, ◌∙◌, inl, inr}
use Rattle.std.proofs.lemmas.Bool.{both_ways, eqb-true, false_from_ne_true, or_cases}
use Rattle.std.proofs.lemmas.List.Folds.{list_any-from_Any}
use Rattle.std.proofs.lemmas.Map.Views.{Contains-from_any}
use Rattle.std.proofs.Math.Bool.{or-false}
use Rattle.asn1_core.specs.Binds.{◌>>=◌, and_true, bind_is, bind_some, chosen, some_is, true_and}
use Rattle.der_tree.specs.Form.{IsDerOf, value_of}
use Rattle.der_tree.proofs.FormLaws.{no_front, value_again, value_there}
use Rattle.ecdsa.specs.declared.Curve.TheVariants.{P256, P384, P521}
use Rattle.ecdsa.specs.declared.Hash.TheVariants as ecdsa
use Rattle.rcgen_sign.specs.Algorithms.{ed25519_arcs}
use Rattle.rcgen_sign.specs.KeyInfos.{key_algorithm, key_info}
use Rattle.rcgen_sign.specs.Listed.{same_key_algorithm}
use Rattle.rcgen_sign.specs.declared.key_info.KeyAlgorithm.{KeyAlgorithm}
use Rattle.rcgen_sign.specs.declared.key_info.KeyInfo.{KeyInfo}
use Rattle.rsa.specs.declared.Hash.TheVariants as rsa
use Rattle.rsa.specs.declared.digest.PssHash.TheVariants as pss
use Rattle.signature_verifier.specs.declared.key_kind.KeyKind.{KeyKind}
use Rattle.signature_verifier.specs.declared.key_kind.KeyKind.TheVariants as kind
use Rattle.signature_verifier.specs.declared.scheme.SignatureScheme.{SignatureScheme}
use Rattle.signature_verifier.specs.declared.scheme.SignatureScheme.TheVariants as scheme
use Rattle.signature_verifier.specs.declared.verifier.SignatureVerifier.{SignatureVerifier}
use Rattle.signature_verifier.specs.Accepted.{accepts, is_signed, is_taken}
use Rattle.signature_verifier.specs.Keys.{Key, key}
use Rattle.signature_verifier.specs.PublicKeys.{key_in, key_of, whole_octets}
use Rattle.signature_verifier.specs.Schemes.{alone, ecdsa_with_sha2, key_identifier, kind_of, kinds}
use Rattle.signature_verifier.specs.Schemes.{pkcs_1, rsassa_pss, scheme_named, scheme_of, schemes, signature_identifiers, with_null}
use Rattle.signature_verifier.specs.Signed.{IsSigned, info_of}
use Rattle.signature_verifier.proofs.Naming.{identifier_alike, same_identifier}

found_step : {A : Type 0} (p : A → Bool) (x : A) (after : Option A) (y : A) (b : Bool) → p x ≡ b → (after ≡ Some y → p y ≡ true)
    → cond b (Some x) after ≡ Some y → p y ≡ true
found_step {A} p x after y true t later e = subst (λ (z : A). p z ≡ true) (some_is x y e) t
found_step p x after y false t later e = later e

-- what is found passes the test
found_passes : {A : Type 0} (p : A → Bool) (xs : List A) (y : A) → find p xs ≡ Some y → p y ≡ true
found_passes p [] y e = absurd cc
found_passes p (x ∷ xs) y e = found_step p x (find p xs) y (p x) refl (found_passes p xs y) e

-- ---- the key

kind_again : (k : KeyKind) → kind_of (key_identifier k) ≡ Some k
unfolding kind_of
kind_again kind.Rsa = refl
kind_again (kind.RsaPss None) = refl
kind_again (kind.RsaPss (Some pss.Sha256)) = refl
kind_again (kind.RsaPss (Some pss.Sha384)) = refl
kind_again (kind.RsaPss (Some pss.Sha512)) = refl
kind_again (kind.Ec P256) = refl
kind_again (kind.Ec P384) = refl
kind_again (kind.Ec P521) = refl
kind_again kind.Ed25519 = refl

kind_there : (name : KeyAlgorithm) (k : KeyKind) → kind_of name ≡ Some k → key_identifier k ≡ name
unfolding kind_of
kind_there name k e =
    same_identifier (key_identifier k) name (found_passes (λ (x : KeyKind). same_key_algorithm (key_identifier x) name) kinds k e)

key_back : (k : Key) → key_of (info_of k) ≡ Some k
unfolding key_of
key_back k = rw (kind_again k.kind) refl

info_same : (info : KeyInfo) (kind : KeyKind) (octets : List ℕ) → info.algorithm ≡ key_identifier kind → info.subject_public_key.unused ≡ 0
    → info.subject_public_key.bytes ≡ octets → info ≡ info_of (key kind octets)
info_same info kind octets e f g = λ i. record { algorithm = e i; subject_public_key = record { bytes = g i; unused = f i } }

held : (info : KeyInfo) (k : Key) → key_of info ≡ Some k → info ≡ info_of k
unfolding key_of
held info k e =
    let x = bind_some (kind_of info.algorithm) (λ kind. whole_octets info.subject_public_key >>= λ octets. Some (key kind octets)) k e in
    let y = bind_some (whole_octets info.subject_public_key) (λ octets. Some (key x.0 octets)) k x.2 in
    let b = chosen (info.subject_public_key.unused == 0) info.subject_public_key.bytes y.0 y.1 in
    info_same info x.0 y.0 (sym (kind_there info.algorithm x.0 x.1)) (eqb-true info.subject_public_key.unused 0 b.0) b.1
    ∙ ap info_of (some_is (key x.0 y.0) k y.2)

key_there : (b : List ℕ) (k : Key) → key_in b ≡ Some k → IsDerOf key_info (info_of k) b
unfolding key_in
key_there b k e =
    let x = bind_some (value_of key_info b) key_of k e in
    subst (λ (i : KeyInfo). IsDerOf key_info i b) (held x.0 k x.2) (value_there key_info b x.0 x.1)

key_again : (b : List ℕ) (k : Key) → IsDerOf key_info (info_of k) b → key_in b ≡ Some k
unfolding key_in
key_again b k h = bind_is (value_of key_info b) key_of (info_of k) (Some k) (value_again key_info b (info_of k) h) (key_back k)

-- ---- the scheme

names : SignatureScheme → KeyAlgorithm → Bool
names s name = list_any (λ i. same_key_algorithm i name) (signature_identifiers s)

listed : (s : SignatureScheme) (name : KeyAlgorithm) → names s name ≡ true → Contains (signature_identifiers s) name
unfolding names
listed s name e =
    Contains-from_any {eq = λ x y. same_key_algorithm y x} (λ x y same. sym (same_identifier y x same)) name (signature_identifiers s) e

listed_again : (s : SignatureScheme) (name : KeyAlgorithm) → Contains (signature_identifiers s) name → names s name ≡ true
unfolding names
listed_again s name h =
    list_any-from_Any (λ i. same_key_algorithm i name) (signature_identifiers s) (h.0, name, h.1, h.2, identifier_alike name)

module _ (name : KeyAlgorithm) (s : SignatureScheme) where
  at_one : (v : KeyAlgorithm) → scheme_of v ≡ Some s → same_key_algorithm v name ≡ true → scheme_of name ≡ Some s
  at_one v r e = subst (λ (x : KeyAlgorithm). scheme_of x ≡ Some s) (same_identifier v name e) r

  only : (v : KeyAlgorithm) → scheme_of v ≡ Some s → (same_key_algorithm v name || false) ≡ true → scheme_of name ≡ Some s
  only v r e = at_one v r (sym (or-false (same_key_algorithm v name)) ∙ e)

  either : (v w : KeyAlgorithm) → scheme_of v ≡ Some s → scheme_of w ≡ Some s
      → (same_key_algorithm v name || (same_key_algorithm w name || false)) ≡ true → scheme_of name ≡ Some s
  either v w r q e =
      elim (or_cases (same_key_algorithm v name) (same_key_algorithm w name || false) e) [ inl h ↦ at_one v r h | inr h ↦ only w q h ]

scheme_again : (s : SignatureScheme) (name : KeyAlgorithm) → names s name ≡ true → scheme_of name ≡ Some s
unfolding names scheme_of
scheme_again (scheme.RsaPkcs1 rsa.Sha1) name e = only name (scheme.RsaPkcs1 rsa.Sha1) (with_null (pkcs_1 5)) refl e
scheme_again (scheme.RsaPkcs1 rsa.Sha256) name e = either name (scheme.RsaPkcs1 rsa.Sha256) (with_null (pkcs_1 11)) (alone (pkcs_1 11)) refl refl e
scheme_again (scheme.RsaPkcs1 rsa.Sha384) name e = either name (scheme.RsaPkcs1 rsa.Sha384) (with_null (pkcs_1 12)) (alone (pkcs_1 12)) refl refl e
scheme_again (scheme.RsaPkcs1 rsa.Sha512) name e = either name (scheme.RsaPkcs1 rsa.Sha512) (with_null (pkcs_1 13)) (alone (pkcs_1 13)) refl refl e
scheme_again (scheme.RsaPss pss.Sha256) name e = only name (scheme.RsaPss pss.Sha256) (rsassa_pss pss.Sha256) refl e
scheme_again (scheme.RsaPss pss.Sha384) name e = only name (scheme.RsaPss pss.Sha384) (rsassa_pss pss.Sha384) refl e
scheme_again (scheme.RsaPss pss.Sha512) name e = only name (scheme.RsaPss pss.Sha512) (rsassa_pss pss.Sha512) refl e
scheme_again (scheme.Ecdsa ecdsa.Sha256) name e = only name (scheme.Ecdsa ecdsa.Sha256) (alone (ecdsa_with_sha2 2)) refl e
scheme_again (scheme.Ecdsa ecdsa.Sha384) name e = only name (scheme.Ecdsa ecdsa.Sha384) (alone (ecdsa_with_sha2 3)) refl e
scheme_again (scheme.Ecdsa ecdsa.Sha512) name e = only name (scheme.Ecdsa ecdsa.Sha512) (alone (ecdsa_with_sha2 4)) refl e
scheme_again scheme.Ed25519 name e = only name scheme.Ed25519 (alone ed25519_arcs) refl e

name_there : (b : List ℕ) (s : SignatureScheme) → scheme_named b ≡ Some s
    → (name : KeyAlgorithm) × IsDerOf key_algorithm name b × Contains (signature_identifiers s) name
unfolding scheme_named scheme_of names
name_there b s e =
    let x = bind_some (value_of key_algorithm b) scheme_of s e in
    (x.0, value_there key_algorithm b x.0 x.1, listed s x.0 (found_passes (λ (z : SignatureScheme). names z x.0) schemes s x.2))

scheme_there : (b : List ℕ) (s : SignatureScheme) (name : KeyAlgorithm) → IsDerOf key_algorithm name b → Contains (signature_identifiers s) name
    → scheme_named b ≡ Some s
unfolding scheme_named
scheme_there b s name h k =
    bind_is (value_of key_algorithm b) scheme_of name (Some s) (value_again key_algorithm b name h) (scheme_again s name (listed_again s name k))

-- ---- acceptance

holds : {A : Type 0} (o : Option A) (f : A → Bool) → option_map_or f o false ≡ true → (x : A) × (o ≡ Some x) × (f x ≡ true)
holds None f e = absurd cc
holds (Some x) f e = (x, refl, e)

module _ (v : SignatureVerifier) (message octets algorithm signature : List ℕ) where
  abbrev Signed : SignatureScheme → Key → Type 0
  Signed s k = IsSigned v s k message octets algorithm signature

  accepted_is : accepts v message octets algorithm signature ≡ true → (s : SignatureScheme) × (k : Key) × Signed s k
  unfolding accepts
  accepted_is e =
      let x = holds (key_in octets)
      (λ k. option_map_or (λ s. is_taken v s && is_signed s k message signature) (scheme_named algorithm) false) e in
      let y = holds (scheme_named algorithm) (λ s. is_taken v s && is_signed s x.0 message signature) x.2 in
      let z = and_true (is_taken v y.0) (is_signed y.0 x.0 message signature) y.2 in
      let n = name_there algorithm y.0 y.1 in (
        y.0,
        x.0,
        record {
          key_is = key_there octets x.0 x.1;
          name = n.0;
          name_is = n.1;
          is_listed = n.2;
          is_allowed = z.0;
          verified = z.1;
        },
      )

  key_found : (s : SignatureScheme) (k : Key) → Signed s k → key_in octets ≡ Some k
  key_found s k h = key_again octets k h.key_is

  scheme_found : (s : SignatureScheme) (k : Key) → Signed s k → scheme_named algorithm ≡ Some s
  scheme_found s k h = scheme_there algorithm s h.name h.name_is h.is_listed

  signed_is : (s : SignatureScheme) (k : Key) → Signed s k → accepts v message octets algorithm signature ≡ true
  unfolding accepts
  signed_is s k h =
      rw (key_found s k h, scheme_found s k h) (true_and (is_taken v s) (is_signed s k message signature) h.is_allowed h.verified)

  pub accepted : (accepts v message octets algorithm signature ≡ true) ↔ ((s : SignatureScheme) × (k : Key) × Signed s k)
  accepted = (accepted_is, λ h. signed_is h.0 h.1 h.2)

  pub one : (s other : SignatureScheme) (k other_key : Key) → Signed s k → Signed other other_key → (s ≡ other) × (k ≡ other_key)
  one s other k other_key g h = (
    some_is s other (sym (scheme_found s k g) ∙ scheme_found other other_key h),
    some_is k other_key (sym (key_found s k g) ∙ key_found other other_key h),
  )

-- ---- what is refused

some_more : (b : ℕ) (rest : List ℕ) → (b ∷ rest) ≡ [] → ⊥
some_more b rest e = cc

pub key_ends : (v w : SignatureVerifier) (message other octets algorithm name signature mark : List ℕ) (b : ℕ) (rest : List ℕ)
    → accepts v message octets algorithm signature ≡ true → accepts w other (octets ++ b ∷ rest) name mark ≡ false
key_ends v w message other octets algorithm name signature mark b rest e =
    false_from_ne_true (accepts w other (octets ++ b ∷ rest) name mark) (λ f.
    let x = accepted_is v message octets algorithm signature e in
    let y = accepted_is w other (octets ++ b ∷ rest) name mark f in
    some_more b rest
    (no_front key_info key_info (info_of x.1) (info_of y.1) octets (octets ++ b ∷ rest) (b ∷ rest) x.2.key_is y.2.key_is refl))

pub algorithm_ends : (v w : SignatureVerifier) (message other octets info algorithm signature mark : List ℕ) (b : ℕ) (rest : List ℕ)
    → accepts v message octets algorithm signature ≡ true → accepts w other info (algorithm ++ b ∷ rest) mark ≡ false
algorithm_ends v w message other octets info algorithm signature mark b rest e =
    false_from_ne_true (accepts w other info (algorithm ++ b ∷ rest) mark) (λ f.
    let x = accepted_is v message octets algorithm signature e in
    let y = accepted_is w other info (algorithm ++ b ∷ rest) mark f in
    some_more b rest
    (no_front key_algorithm key_algorithm x.2.name y.2.name algorithm (algorithm ++ b ∷ rest) (b ∷ rest) x.2.name_is y.2.name_is refl))

sha1_named : (b : List ℕ) → IsDerOf key_algorithm (with_null (pkcs_1 5)) b → scheme_named b ≡ Some (scheme.RsaPkcs1 rsa.Sha1)
unfolding scheme_named scheme_of
sha1_named b h =
    bind_is (value_of key_algorithm b) scheme_of (with_null (pkcs_1 5)) (Some (scheme.RsaPkcs1 rsa.Sha1))
    (value_again key_algorithm b (with_null (pkcs_1 5)) h) refl

pub no_sha1 : (v : SignatureVerifier) (message octets algorithm signature : List ℕ) → v.takes_sha1 ≡ false
    → IsDerOf key_algorithm (with_null (pkcs_1 5)) algorithm → accepts v message octets algorithm signature ≡ false
no_sha1 v message octets algorithm signature off h =
    false_from_ne_true (accepts v message octets algorithm signature) (λ e.
    let x = accepted_is v message octets algorithm signature e in
    let same : x.0 ≡ scheme.RsaPkcs1 rsa.Sha1 =
    some_is x.0 (scheme.RsaPkcs1 rsa.Sha1) (sym (scheme_found v message octets algorithm signature x.0 x.1 x.2) ∙ sha1_named algorithm h) in
    both_ways v.takes_sha1 off (subst (λ (s : SignatureScheme). is_taken v s ≡ true) same x.2.is_allowed))
