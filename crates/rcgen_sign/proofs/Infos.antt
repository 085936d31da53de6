-- What is read at the front of bytes, and which fault of it is the first.
use Rattle.std.specs.Prelude.{◌≡◌, ◌↔◌, ℕ, ◌==◌, Bool, true, false, not, cond, List, [], ◌∷◌, ◌++◌, length, Option, Some, None, find, nat_eq, refl}
use Rattle.std.specs.Cmp.Lexicographic.{pointwise, same_text}
use Rattle.std.specs.Option.{option_eq}
use Rattle.std.proofs.Common.{sym, ap, subst, ◌∙◌}
use Rattle.std.proofs.lemmas.Bool.{eqb-true, not-false}
use Rattle.std.proofs.lemmas.List.{append-nil, nil_from_length}
use Rattle.asn1_core.specs.Bits.{bits}
use Rattle.asn1_core.specs.Binds.{◌>>=◌, bind_some, bind_is, some_is, and_true}
use Rattle.der_tree.proofs.FormLaws.{found_is, front_is}
use Rattle.der_tree.specs.Element.{Element, element_at}
use Rattle.der_tree.specs.Form.{IsDerOf}
use Rattle.rcgen_text.specs.Causes.{Cause, MayAnswer, Origin, TakesMemory, unsupported_algorithm}
use Rattle.rcgen_sign.specs.declared.key_info.KeyAlgorithm.{KeyAlgorithm}
use Rattle.rcgen_sign.specs.declared.key_info.KeyInfo.{KeyInfo}
use Rattle.rcgen_sign.specs.declared.sign_algo.SignatureAlgorithm.{SignatureAlgorithm}
use Rattle.rcgen_sign.specs.Algorithms.{key_algorithm_value}
use Rattle.rcgen_sign.specs.KeyInfos.{key_info}
use Rattle.rcgen_sign.specs.KeyReading.{BeginsWithInfo, IsKeyOf, fault_of, first_key_fault, info_at, no_info, trailing_bytes, unused_bits}
use Rattle.rcgen_sign.specs.Keys.{key_info_value, key_of_parts}
use Rattle.rcgen_sign.specs.Listed.{keyed_with, listed, same_key_algorithm}

-- ---- what is read at a front

abbrev shown : Element × List ℕ → Option (KeyInfo × List ℕ)
shown x = key_info.read_of x.0 >>= (λ v. Some (v, x.1))

at_front : (input : List ℕ) (info : KeyInfo) (rest : List ℕ) → info_at input ≡ Some (info, rest) → BeginsWithInfo input info rest
unfolding info_at
at_front input info rest e =
    let x = bind_some (element_at input) shown (info, rest) e in
    let v = bind_some (key_info.read_of x.0.0) (λ (v : KeyInfo). Some (v, x.0.1)) (info, rest) x.2 in
    subst (λ (p : KeyInfo × List ℕ). BeginsWithInfo input p.0 p.1) (some_is (v.0, x.0.1) (info, rest) v.2)
    (found_is key_info input x.0.0 x.0.1 v.0 x.1 v.1)

pub front_at : (input : List ℕ) (info : KeyInfo) (b rest : List ℕ) → IsDerOf key_info info b → input ≡ b ++ rest → info_at input ≡ Some (info, rest)
unfolding info_at
front_at input info b rest h e =
    let p = front_is key_info input info b rest h e in
    bind_is (element_at input) shown (h.1, rest) (Some (info, rest)) p.0
    (bind_is (key_info.read_of h.1) (λ (v : KeyInfo). Some (v, rest)) info (Some (info, rest)) p.1 refl)

pub fronts : (input : List ℕ) (info : KeyInfo) (rest : List ℕ) → (info_at input ≡ Some (info, rest)) ↔ BeginsWithInfo input info rest
fronts input info rest = (at_front input info rest, λ f. front_at input info f.0 rest f.1 f.2)

none_of : {A : Type 0} (o : Option A) → ((x : A) → o ≡ Some x → ⊥) → o ≡ None
none_of None h = refl
none_of (Some x) h = absurd (h x refl)

pub none_at : (input : List ℕ) → ((info : KeyInfo) (b rest : List ℕ) → IsDerOf key_info info b → input ≡ b ++ rest → ⊥) → info_at input ≡ None
none_at input none = none_of (info_at input) (λ x e. let f = at_front input x.0 x.1 e in none x.0 f.0 x.1 f.1 f.2)

-- ---- equal identifiers of keys

same_parameters : (o p : Option (List ℕ)) → option_eq (pointwise nat_eq) o p ≡ true → o ≡ p
same_parameters None None e = refl
same_parameters None (Some b) e = absurd cc
same_parameters (Some a) None e = absurd cc
same_parameters (Some a) (Some b) e = ap Some (same_text a b (sym e))

same_algorithm : (x y : KeyAlgorithm) → same_key_algorithm x y ≡ true → x ≡ y
same_algorithm x y e =
    let h = and_true (pointwise nat_eq x.algorithm y.algorithm) (option_eq (pointwise nat_eq) x.parameters y.parameters) e in
    ap (λ (b : List ℕ). let k : KeyAlgorithm = record { algorithm = b; parameters = x.parameters } in k) (same_text x.algorithm y.algorithm (sym h.0))
    ∙ ap (λ (p : Option (List ℕ)). let k : KeyAlgorithm = record { algorithm = y.algorithm; parameters = p } in k)
    (same_parameters x.parameters y.parameters h.1)

found_step : {A : Type 0} (p : A → Bool) (x : A) (after : Option A) (y : A) (b : Bool) → p x ≡ b → (after ≡ Some y → p y ≡ true)
    → cond b (Some x) after ≡ Some y → p y ≡ true
found_step {A} p x after y true t later e = subst (λ (z : A). p z ≡ true) (some_is x y e) t
found_step p x after y false t later e = later e

found_passes : {A : Type 0} (p : A → Bool) (xs : List A) (y : A) → find p xs ≡ Some y → p y ≡ true
found_passes p [] y e = absurd cc
found_passes p (x ∷ xs) y e = found_step p x (find p xs) y (p x) refl (found_passes p xs y) e

keyed_is : (k : KeyAlgorithm) (a : SignatureAlgorithm) → keyed_with k ≡ Some a → key_algorithm_value a ≡ k
keyed_is k a e =
    same_algorithm (key_algorithm_value a) k (found_passes (λ (x : SignatureAlgorithm). same_key_algorithm (key_algorithm_value x) k) listed a e)

-- ---- the faults, and the key where there is none

-- a maker's answer, where the fault is known
answers : (found fault : Option Cause) (o : Origin) → found ≡ fault → MayAnswer TakesMemory fault o → MayAnswer TakesMemory found o
answers found fault o e h = subst (λ (f : Option Cause). MayAnswer TakesMemory f o) (sym e) h

pub no_info_at : (der : List ℕ) (o : Origin) → ((info : KeyInfo) (b rest : List ℕ) → IsDerOf key_info info b → der ≡ b ++ rest → ⊥)
    → MayAnswer TakesMemory (Some no_info) o → MayAnswer TakesMemory (first_key_fault der) o
no_info_at der o none h = answers (first_key_fault der) (Some no_info) o (ap fault_of (none_at der none)) h

none_unused : (n : ℕ) → not (n == 0) ≡ false → n ≡ 0
none_unused n h = eqb-true n 0 (not-false (n == 0) h)

info_is : (info : KeyInfo) (a : SignatureAlgorithm) → info.subject_public_key.unused ≡ 0 → keyed_with info.algorithm ≡ Some a
    → info ≡ key_info_value (key_of_parts a info.subject_public_key.bytes)
info_is info a full keyed =
    ap (λ (k : KeyAlgorithm). let i : KeyInfo = record { algorithm = k; subject_public_key = info.subject_public_key } in i)
    (sym (keyed_is info.algorithm a keyed))
    ∙ ap (λ (u : ℕ). let i : KeyInfo = record { algorithm = key_algorithm_value a; subject_public_key = bits u info.subject_public_key.bytes } in i) full

module _ (der : List ℕ) (info : KeyInfo) (rest : List ℕ) (begins : BeginsWithInfo der info rest) where
  faults_are : first_key_fault der ≡ fault_of (Some (info, rest))
  faults_are = ap fault_of (front_at der info begins.0 rest begins.1 begins.2)

  pub trailing_at : (o : Origin) → (length rest == 0) ≡ false → MayAnswer TakesMemory (Some trailing_bytes) o
      → MayAnswer TakesMemory (first_key_fault der) o
  trailing_at o some h = answers (first_key_fault der) (Some trailing_bytes) o (faults_are ∙ rw some refl) h

  module _ (whole : (length rest == 0) ≡ true) where
    pub unused_at : (o : Origin) → not (info.subject_public_key.unused == 0) ≡ true → MayAnswer TakesMemory (Some unused_bits) o
        → MayAnswer TakesMemory (first_key_fault der) o
    unused_at o unused h =
        answers (first_key_fault der) (Some unused_bits) o (faults_are ∙ rw (whole, unused) refl) h

    module _ (full : not (info.subject_public_key.unused == 0) ≡ false) where
      pub unlisted_at : keyed_with info.algorithm ≡ None → first_key_fault der ≡ Some unsupported_algorithm
      unlisted_at unlisted = faults_are ∙ rw (whole, full, unlisted) refl

      pub key_at : (a : SignatureAlgorithm) (octets : List ℕ) → keyed_with info.algorithm ≡ Some a → octets ≡ info.subject_public_key.bytes
          → IsKeyOf der (key_of_parts a octets) × (first_key_fault der ≡ None)
      key_at a octets keyed same =
          let left : der ≡ begins.0 =
          begins.2 ∙ ap (λ (r : List ℕ). begins.0 ++ r) (nil_from_length rest (eqb-true (length rest) 0 whole)) ∙ append-nil begins.0 in
          let value : info ≡ key_info_value (key_of_parts a octets) =
          info_is info a (none_unused info.subject_public_key.unused full) keyed ∙ ap (λ (o : List ℕ). key_info_value (key_of_parts a o)) (sym same) in (
            (
              subst (λ (i : KeyInfo). IsDerOf key_info i der) value (subst (λ (b : List ℕ). IsDerOf key_info info b) (sym left) begins.1),
              ap keyed_with (keyed_is info.algorithm a keyed) ∙ keyed,
            ),
            faults_are ∙ rw (whole, full, keyed) refl,
          )
