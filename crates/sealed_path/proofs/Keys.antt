-- The key of an info has the info's DER.
use Rattle.std.specs.Prelude.{Bool, Err, List, None, Ok, Option, Result, Some, cond, false, find, flat_map, nat_eq, not, refl, true, ℕ, [], ◌&&◌, ◌++◌, ◌==◌, ◌∷◌, ◌≡◌}
use Rattle.std.specs.Cmp.Lexicographic.{pointwise, same_text}
use Rattle.std.specs.Option.{option_map}
use Rattle.std.proofs.Common.{ap, subst, sym, ◌∙◌}
use Rattle.std.proofs.lemmas.Bool.{eqb-true}
use Rattle.asn1_core.specs.Binds.{and_true, bind_some, some_is}
use Rattle.asn1_core.specs.Bits.{Bits, bits}
use Rattle.der_tree.specs.Element.{Element, element_octets}
use Rattle.der_tree.specs.Fields.{required_put}
use Rattle.der_tree.specs.Form.{IsDerOf}
use Rattle.der_tree.specs.Grammar.{◌&◌}
use Rattle.der_tree.specs.PrimitiveTypes.{bit_string}
use Rattle.der_tree.specs.Results.{ok_then}
use Rattle.der_tree.specs.Tags.{universal}
use Rattle.der_tree.specs.Tree.{node, row}
use Rattle.der_tree.specs.TreeElement.{checked, element_of, elements_of}
use Rattle.der_tree.specs.laws.Results.{ok_is, ok_then_ok}
use Rattle.der_tree.specs.laws.TreeElement.{elements_of_split, one_tree_is}
use Rattle.der_tree.proofs.FormLaws.{same_value}
use Rattle.pkix_cert.specs.Algorithms.{algorithm_identifier, algorithm_identifier_fields, subject_public_key_info, subject_public_key_info_fields}
use Rattle.pkix_cert.specs.declared.algorithm.SubjectPublicKeyInfo.{SubjectPublicKeyInfo}
use Rattle.rcgen_sign.specs.Algorithms.{key_algorithm_value, key_element}
use Rattle.rcgen_sign.specs.KeyInfos.{key_algorithm as key_algorithm_codec, key_algorithm_fields, key_info, key_info_fields}
use Rattle.rcgen_sign.specs.Keys.{Key, key_info_octets, key_info_value, key_of_parts}
use Rattle.rcgen_sign.specs.declared.sign_algo.SignatureAlgorithm.{SignatureAlgorithm}
use Rattle.rcgen_sign.proofs.AlgorithmLemmas.{elements}
use Rattle.rcgen_certificate.specs.KeyValues.{key_algorithm, key_value}
use Rattle.shelf_fault.specs.Faults.{and_then, some_or}
use Rattle.shelf_fault.specs.declared.fault.Fault.{Fault}
use Rattle.shelf_fault.specs.declared.fault.Fault.TheVariants as fault
use Rattle.shelf_fault.specs.declared.fault.KeyFault.TheVariants.{Parameters}
use Rattle.shelf_fault.specs.declared.fault.Place.{Place}
use Rattle.shelf_keys.specs.Encoded.{encoded}
use Rattle.shelf_keys.specs.Keys.{algorithm_for, any_signing, digest_alone, first_fit, key_of_info, rows, signs_so}
use Rattle.shelf_keys.specs.Parameters.{parameters_fit}
use Rattle.shelf_keys.specs.Refusing.{refuse}
use Rattle.shelf_keys.proofs.Octets.{octets_are}
use Rattle.shelf_profile.specs.declared.signing.Signing.{Signing}

-- ---- steps

pub then_ok : {A B : Type 0} (r : Result A Fault) (f : A → Result B Fault) (y : B) → and_then r f ≡ Ok y → (x : A) × (r ≡ Ok x) × (f x ≡ Ok y)
then_ok (Ok x) f y e = (x, refl, e)
then_ok (Err e) f y h = absurd cc

pub ok_same : {A : Type 0} (x y : A) (r : Result A Fault) → r ≡ Ok x → r ≡ Ok y → x ≡ y
ok_same x y r e f = cc

pub not_refused : (b : Bool) (fault : Fault) (u : Unit {0}) → refuse (not b) fault ≡ Ok u → b ≡ true
not_refused true fault u e = refl
not_refused false fault u e = absurd cc

some_there : {A : Type 0} (o : Option A) (fault : Fault) (x : A) → some_or o fault ≡ Ok x → o ≡ Some x
some_there None fault x e = absurd cc
some_there (Some y) fault x e = cc

-- ---- the algorithm

found_step : {A : Type 0} (test : A → Bool) (b : Bool) (y x : A) (o : Option A) → test y ≡ b → (o ≡ Some x → test x ≡ true) → cond b (Some y) o ≡ Some x → test x ≡ true
found_step test true y x o e k h = ap test (sym (some_is y x h)) ∙ e
found_step test false y x o e k h = k h

found_passes : {A : Type 0} (test : A → Bool) (xs : List A) (x : A) → find test xs ≡ Some x → test x ≡ true
found_passes test [] x e = absurd cc
found_passes test (y ∷ ys) x e = found_step test (test y) y x (find test ys) refl (found_passes test ys x) e

mapped : {A B : Type 0} (f : A → B) (o : Option A) (y : B) → option_map f o ≡ Some y → (x : A) × (o ≡ Some x) × (f x ≡ y)
mapped f (Some x) y e = (x, refl, some_is (f x) y e)
mapped f None y e = absurd cc

fit_is : (element : List ℕ) (signing : Signing) (a : SignatureAlgorithm) → first_fit element signing ≡ Some a → key_element a ≡ element
unfolding first_fit
fit_is element signing a e =
    let x = mapped (λ row. row.0) (find (λ row. pointwise nat_eq (key_element row.0) element && signs_so signing row.1 row.2) rows) a e in
    let p = found_passes (λ row. pointwise nat_eq (key_element row.0) element && signs_so signing row.1 row.2) rows x.0 x.1 in
    ap key_element (sym x.2) ∙ same_text (key_element x.0.0) element (sym (and_true (pointwise nat_eq (key_element x.0.0) element) (signs_so signing x.0.1 x.0.2) p).0)

algorithm_is : (place : Place) (id element : List ℕ) (signing : Signing) (a : SignatureAlgorithm) → algorithm_for place id element signing ≡ Ok a → key_element a ≡ element
unfolding algorithm_for
algorithm_is place id element signing a e =
    let x = then_ok (some_or (first_fit element any_signing) _) _ a e in
    let y = then_ok (some_or (first_fit element (digest_alone signing)) _) _ a x.2 in
    fit_is element signing a (some_there (first_fit element signing) _ a y.2)

-- ---- the info's DER: that of its algorithm, then that of its bits

abbrev around : List Element → Element
around ss = record { tag = universal 16; constructed = true; content = flat_map element_octets ss }

first_form : (info : SubjectPublicKeyInfo) (octets : List ℕ) → IsDerOf subject_public_key_info info octets → (b : List ℕ) × IsDerOf algorithm_identifier info.algorithm b
unfolding subject_public_key_info_fields
first_form info octets h =
    let x = ok_then_ok (subject_public_key_info_fields.fields.put info) (λ ts. Ok (node (universal 16) (row ts))) h.0 h.2 in
    let y = bind_some (elements_of x.0) (λ ss. checked (around ss)) h.1 (ap element_of (ok_is (node (universal 16) (row x.0)) h.0 x.2) ∙ h.3) in
    let p = ok_then_ok (required_put algorithm_identifier info.algorithm) (λ a. ok_then (required_put bit_string info.subject_public_key) (λ b. Ok (a ++ b))) x.0 x.1 in
    let q = ok_then_ok (required_put bit_string info.subject_public_key) (λ b. Ok (p.0 ++ b)) x.0 p.2 in
    let t = ok_then_ok (algorithm_identifier.tree_of info.algorithm) (λ t. Ok (t ∷ [])) p.0 p.1 in
    let z = elements_of_split p.0 q.0 y.0 (ap elements_of (ok_is (p.0 ++ q.0) x.0 q.2) ∙ y.1) in
    let s = one_tree_is t.0 z.0 (ap elements_of (ok_is (t.0 ∷ []) p.0 t.2) ∙ z.2) in
    (element_octets s.0, (t.0, s.0, t.1, s.1, refl))

-- the fields are the same, so the trees are
algorithm_field : (a : SignatureAlgorithm) (b : List ℕ) → IsDerOf key_algorithm_codec (key_algorithm_value a) b → IsDerOf algorithm_identifier (key_algorithm a) b
unfolding key_algorithm_fields algorithm_identifier_fields
algorithm_field a b h = h

info_field : (k : Key) (b : List ℕ) → IsDerOf subject_public_key_info (key_value k.algorithm k.octets) b → IsDerOf key_info (key_info_value k) b
unfolding key_info_fields key_algorithm_fields subject_public_key_info_fields algorithm_identifier_fields
info_field k b h = h

whole_bytes : (b : Bits) → b.unused ≡ 0 → b ≡ bits 0 b.bytes
whole_bytes b e = λ i. record { unused = e i; bytes = b.bytes }

-- ---- the key

abbrev pub Spelled : Type 0
Spelled = (k : Key) (b : List ℕ) → IsDerOf key_info (key_info_value k) b → b ≡ key_info_octets k

pub key_info_is : Spelled → (place : Place) (signing : Signing) (info : SubjectPublicKeyInfo) (octets : List ℕ) (key : Key) → key_of_info place signing info ≡ Ok key
    → IsDerOf subject_public_key_info info octets → IsDerOf subject_public_key_info info (key_info_octets key)
unfolding key_of_info
key_info_is spelled place signing info octets key e h =
    let a = then_ok (refuse (not (info.subject_public_key.unused == 0)) _) _ key e in
    let unused : info.subject_public_key.unused ≡ 0 =
    eqb-true (info.subject_public_key.unused) 0 (not_refused (info.subject_public_key.unused == 0) _ a.0 a.1) in
    let b = then_ok (encoded algorithm_identifier _ info.algorithm) _ key a.2 in
    let c = then_ok (refuse (not (parameters_fit info.algorithm)) (fault.Key place Parameters))
    (λ u. and_then (algorithm_for place info.algorithm.algorithm b.0 signing) (λ a. Ok (key_of_parts a info.subject_public_key.bytes))) key b.2 in
    let d = then_ok (algorithm_for place info.algorithm.algorithm b.0 signing) (λ a. Ok (key_of_parts a info.subject_public_key.bytes)) key c.2 in
    let first = first_form info octets h in
    let element : b.0 ≡ first.0 = ok_same b.0 first.0 (encoded algorithm_identifier _ info.algorithm) b.1 (octets_are algorithm_identifier _ info.algorithm first.0 first.1) in
    let named : key_element d.0 ≡ first.0 = algorithm_is place info.algorithm.algorithm b.0 signing d.0 d.1 ∙ element in
    let form : IsDerOf algorithm_identifier (key_algorithm d.0) first.0 =
    subst (λ (x : List ℕ). IsDerOf algorithm_identifier (key_algorithm d.0) x) named (algorithm_field d.0 (key_element d.0) (elements d.0)) in
    let algorithm : info.algorithm ≡ key_algorithm d.0 = same_value algorithm_identifier info.algorithm (key_algorithm d.0) first.0 first.1 form in
    let bytes : info.subject_public_key ≡ bits 0 info.subject_public_key.bytes = whole_bytes info.subject_public_key unused in
    let value : info ≡ key_value d.0 info.subject_public_key.bytes = λ i. record { algorithm = algorithm i; subject_public_key = bytes i } in
    let same : key_of_parts d.0 info.subject_public_key.bytes ≡ key = ok_same (key_of_parts d.0 info.subject_public_key.bytes) key _ refl d.2 in
    let spelt : octets ≡ key_info_octets (key_of_parts d.0 info.subject_public_key.bytes) =
    spelled (key_of_parts d.0 info.subject_public_key.bytes) octets
    (info_field (key_of_parts d.0 info.subject_public_key.bytes) octets (subst (λ (v : SubjectPublicKeyInfo). IsDerOf subject_public_key_info v octets) value h)) in
    subst (λ (x : List ℕ). IsDerOf subject_public_key_info info x) (spelt ∙ ap key_info_octets same) h
