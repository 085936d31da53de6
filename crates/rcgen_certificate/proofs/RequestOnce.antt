-- What is signed for the parameters of a request is one value; where one signature alone fits each message, so is the request.
use Rattle.std.specs.Prelude.{◌≡◌, ℕ, ◌+◌, ◌<◌, Bool, true, false, not, cond, List, [], ◌∷◌, ◌++◌, map, Option, Some, None, is_some}
use Rattle.std.specs.Prelude.{Result, Ok, Err, refl}
use Rattle.std.specs.List.{list_all, sum_by}
use Rattle.std.specs.List.Sorted.{IsPermutation}
use Rattle.std.specs.Ordering.{nat_cmp, is_eq, is_gt, ordering_reverse}
use Rattle.std.specs.declared.cmp.Ordering.{Ordering}
use Rattle.std.specs.declared.cmp.Ordering.TheVariants.{Less, Equal, Greater}
use Rattle.std.specs.Cmp.Lexicographic.{slice_cmp, texts_ties, bytes_decides}
use Rattle.std.proofs.Common.{sym, ap, ◌∙◌, subst, arith, ◌⊎◌, inl, inr, ⊎_elim}
use Rattle.std.proofs.lemmas.Cmp.{nat_list_cmp_total, nat_list_eq_equiv}
use Rattle.std.proofs.lemmas.List.Sums.{sum_by-cons}
use Rattle.std.proofs.lemmas.List.Sorted.{IsPermutation-map, IsPermutation-sym, IsPermutation-trans, sum_by-IsPermutation}
use Rattle.asn1_core.specs.Binds.{and_true}
use Rattle.der_tree.specs.declared.error.EncodeError.{EncodeError}
use Rattle.der_tree.specs.Codec.{Codec}
use Rattle.der_tree.specs.Form.{IsDerOf}
use Rattle.der_tree.specs.SetOf.{element_if, has_form, is_ascending, is_set, may_precede, octets_in, octets_of_form}
use Rattle.der_tree.specs.Tree.{PlainTree}
use Rattle.der_tree.specs.TreeElement.{element_of}
use Rattle.der_tree.specs.laws.Results.{some_there}
use Rattle.der_tree.proofs.FormLaws.{same_form, same_value}
use Rattle.pkix_name.specs.Names.{attribute}
use Rattle.pkix_name.specs.declared.name.Attribute.{Attribute as AttributeValue}
use Rattle.pkix_cert.specs.Extensions.{extensions}
use Rattle.pkix_cert.specs.Requests.{certification_request, certification_request_info}
use Rattle.pkix_cert.specs.declared.extension.Extensions.{Extensions}
use Rattle.pkix_cert.specs.declared.request.CertificationRequest.{CertificationRequest}
use Rattle.pkix_cert.specs.declared.request.CertificationRequestInfo.{CertificationRequestInfo}
use Rattle.rcgen_sign.specs.Keys.{Key}
use Rattle.rcgen_certificate.specs.ExtensionRows.{ExtensionRow}
use Rattle.rcgen_certificate.specs.ParamsView.{ParamsView}
use Rattle.rcgen_certificate.specs.Requests.{AreAsked, AreAttributes, IsExtensionRequest, IsInfo, Requests, attribute_value, request_rows}
use Rattle.rcgen_certificate.specs.Signed.{FitsOnce}
use Rattle.rcgen_certificate.specs.declared.csr.Attribute.{Attribute}
use Rattle.rcgen_certificate.proofs.Once.{one_field, one_signature}

-- ---- the order of octets

abbrev compared : List ℕ → List ℕ → Ordering
compared x y = slice_cmp nat_cmp x y

abbrev is_same : List ℕ → List ℕ → Bool
is_same x y = is_eq (compared x y)

abbrev is_over : List ℕ → List ℕ → Bool
is_over x y = is_gt (compared x y)

same_itself : (x : List ℕ) → is_same x x ≡ true
same_itself x = sym (texts_ties x x) ∙ nat_list_eq_equiv.refl x

one_text : (x y : List ℕ) → is_same x y ≡ true → x ≡ y
one_text x y e = (bytes_decides x y).0 (texts_ties x y ∙ e)

not_over : (o : Ordering) → is_eq o ≡ true → is_gt o ≡ false
not_over Less e = refl
not_over Equal e = refl
not_over Greater e = absurd cc

not_over_itself : (x y : List ℕ) → x ≡ y → is_over y x ≡ false
not_over_itself x y e = not_over (compared y x) (subst (λ (z : List ℕ). is_same z x ≡ true) e (same_itself x))

not_over_through : (x y z : List ℕ) → is_over x y ≡ false → is_over y z ≡ false → is_over x z ≡ false
not_over_through x y z p q = by (compared x y) (compared y z) refl refl p q
  where
    by : (o k : Ordering) → compared x y ≡ o → compared y z ≡ k → is_gt o ≡ false → is_gt k ≡ false → is_over x z ≡ false
    by Greater k e f p q = absurd cc
    by Equal k e f p q = ap is_gt (nat_list_cmp_total.congr x y z e ∙ f) ∙ q
    by Less Greater e f p q = absurd cc
    by Less Less e f p q = ap is_gt (nat_list_cmp_total.trans x y z e f)
    by Less Equal e f p q = ap is_gt (subst (λ (w : List ℕ). compared x w ≡ Less) (one_text y z (ap is_eq f)) e)

neither_over : (x y : List ℕ) → is_over x y ≡ false → is_over y x ≡ false → x ≡ y
neither_over x y p q = by (compared x y) refl p (sym (ap is_gt (nat_list_cmp_total.antisymm y x)) ∙ q)
  where
    by : (o : Ordering) → compared x y ≡ o → is_gt o ≡ false → is_gt (ordering_reverse o) ≡ false → x ≡ y
    by Less e p q = absurd cc
    by Equal e p q = one_text x y (ap is_eq e)
    by Greater e p q = absurd cc

-- ---- how often octets occur in a list

abbrev once_if : Bool → ℕ
once_if b = cond b 1 0

abbrev times : List ℕ → List (List ℕ) → ℕ
times x xs = sum_by (λ y. once_if (is_same x y)) xs

times_more : (x y : List ℕ) (ys : List (List ℕ)) → times x (y ∷ ys) ≡ once_if (is_same x y) + times x ys
times_more x y ys = sum_by-cons (λ z. once_if (is_same x z)) y ys

times_behind : (x y z : List ℕ) (xs ys : List (List ℕ)) → x ≡ y → times z (x ∷ xs) ≡ times z (y ∷ ys) → times z xs ≡ times z ys
times_behind x y z xs ys e t =
    let p = times_more z x xs in
    let q = times_more z y ys in
    let k = ap (λ (w : List ℕ). once_if (is_same z w)) e in
    omega (arith, p, q, k, t)

there : (x : List ℕ) (xs : List (List ℕ)) → 0 < times x (x ∷ xs)
there x xs = let e = times_more x x xs ∙ ap (λ (b : Bool). once_if b + times x xs) (same_itself x) in omega (arith, e)

here_or_behind : (x y : List ℕ) (ys : List (List ℕ)) → 0 < times x (y ∷ ys) → (x ≡ y) ⊎ (0 < times x ys)
here_or_behind x y ys h = by (is_same x y) refl (subst (λ (n : ℕ). 0 < n) (times_more x y ys) h)
  where
    by : (b : Bool) → is_same x y ≡ b → 0 < once_if b + times x ys → (x ≡ y) ⊎ (0 < times x ys)
    by true e h = inl (one_text x y e)
    by false e h = inr (omega (arith, h))

not_is : (b : Bool) → not b ≡ true → b ≡ false
not_is true e = absurd cc
not_is false e = refl

-- none that occurs in a row that ascends is below the first
first_not_over : (x y : List ℕ) (ys : List (List ℕ)) → is_ascending (y ∷ ys) ≡ true → 0 < times x (y ∷ ys) → is_over y x ≡ false
first_not_over x y [] a h = ⊎_elim (λ e. not_over_itself x y e) (λ k. absurd (omega (arith, k))) (here_or_behind x y [] h)
first_not_over x y (z ∷ zs) a h =
    let p = and_true (may_precede y (z ∷ zs)) (is_ascending (z ∷ zs)) a in
    ⊎_elim (λ e. not_over_itself x y e)
    (λ k. not_over_through y z x (not_is (is_over y z) p.0) (first_not_over x z zs p.1 k))
    (here_or_behind x y (z ∷ zs) h)

-- ---- rows that ascend

one_row_by : (xs ys : List (List ℕ)) → ((x : List ℕ) → times x xs ≡ times x ys) → is_ascending xs ≡ true → is_ascending ys ≡ true
    → xs ≡ ys
one_row_by [] [] t a b = refl
one_row_by [] (y ∷ ys) t a b = let h = there y ys in let e = t y in absurd (omega (arith, h, e))
one_row_by (x ∷ xs) [] t a b = let h = there x xs in let e = t x in absurd (omega (arith, h, e))
one_row_by (x ∷ xs) (y ∷ ys) t a b =
    let p = first_not_over x y ys b (subst (λ (n : ℕ). 0 < n) (t x) (there x xs)) in
    let q = first_not_over y x xs a (subst (λ (n : ℕ). 0 < n) (sym (t y)) (there y ys)) in
    let first : x ≡ y = neither_over x y q p in
    let behind = one_row_by xs ys (λ z. times_behind x y z xs ys first (t z))
    (and_true (may_precede x xs) (is_ascending xs) a).1 (and_true (may_precede y ys) (is_ascending ys) b).1 in
    λ i. first i ∷ behind i

one_row : (xs ys : List (List ℕ)) → IsPermutation xs ys → is_ascending xs ≡ true → is_ascending ys ≡ true → xs ≡ ys
one_row xs ys s a b = one_row_by xs ys (λ x. sym (sum_by-IsPermutation (λ y. once_if (is_same x y)) xs ys s)) a b

-- ---- values

module _ {A : Type 0} (c : Codec A) where
  form_is : (v : A) → has_form c v ≡ true → IsDerOf c v (octets_of_form c v)
  form_is v h = by (c.tree_of v) refl h
    where
      by : (r : Result PlainTree EncodeError) → c.tree_of v ≡ r → is_some (element_if r) ≡ true → IsDerOf c v (octets_in (element_if r))
      by (Ok t) e h = let x = some_there (element_of t) h in (t, x.0, e, x.1, ap octets_in x.1)
      by (Err k) e h = absurd cc

  one_value : (v w : A) → has_form c v ≡ true → has_form c w ≡ true → octets_of_form c v ≡ octets_of_form c w → v ≡ w
  one_value v w h k e = same_value c v w (octets_of_form c w) (subst (IsDerOf c v) e (form_is v h)) (form_is w k)

first_is : (a b : List ℕ) (xs ys : List (List ℕ)) → a ∷ xs ≡ b ∷ ys → a ≡ b
first_is a b xs ys e = cc

others_are : (a b : List ℕ) (xs ys : List (List ℕ)) → a ∷ xs ≡ b ∷ ys → xs ≡ ys
others_are a b xs ys e = cc

module _ {A : Type 0} (c : Codec A) where
  each_value : (vs ws : List A) → list_all (has_form c) vs ≡ true → list_all (has_form c) ws ≡ true
      → map (octets_of_form c) vs ≡ map (octets_of_form c) ws → vs ≡ ws
  each_value [] [] h k e = refl
  each_value [] (w ∷ ws) h k e = absurd cc
  each_value (v ∷ vs) [] h k e = absurd cc
  each_value (v ∷ vs) (w ∷ ws) h k e =
      let p = and_true (has_form c v) (list_all (has_form c) vs) h in
      let q = and_true (has_form c w) (list_all (has_form c) ws) k in
      let first = one_value c v w p.0 q.0 (first_is _ _ _ _ e) in
      let others = each_value vs ws p.1 q.1 (others_are _ _ _ _ e) in
      λ i. first i ∷ others i

  -- sets of the same values, each as often, are the same list
  one_set : (vs ws : List A) → IsPermutation vs ws → is_set c vs ≡ true → is_set c ws ≡ true → vs ≡ ws
  unfolding is_set
  one_set vs ws s a b =
      let octets = octets_of_form c in
      let p = and_true (list_all (has_form c) vs) (is_ascending (map octets vs)) a in
      let q = and_true (list_all (has_form c) ws) (is_ascending (map octets ws)) b in
      each_value vs ws p.0 q.0 (one_row (map octets vs) (map octets ws) (IsPermutation-map octets vs ws s) p.1 q.1)

-- ---- attributes

one_extension_request : (asked : Extensions) (a b : AttributeValue) → IsExtensionRequest asked a → IsExtensionRequest asked b → a ≡ b
one_extension_request asked a b v w =
    let value = same_form extensions asked v.value w.value v.form w.form in
    let attr_type = v.attr_type ∙ sym w.attr_type in
    let values = v.values ∙ ap (λ (x : List ℕ). x ∷ []) value ∙ sym w.values in
    λ i. record { attr_type = attr_type i; values = values i }

one_asked : (field : Option Extensions) (xs ys : List AttributeValue) → AreAsked field xs → AreAsked field ys → xs ≡ ys
one_asked None xs ys v w = v ∙ sym w
one_asked (Some asked) xs ys v w = v.2 ∙ ap (λ (a : AttributeValue). a ∷ []) (one_extension_request asked v.0 w.0 v.1 w.1) ∙ sym w.2

one_attributes : (rows : List ExtensionRow) (given : List Attribute) (xs ys : List AttributeValue)
    → AreAttributes rows given xs → AreAttributes rows given ys → xs ≡ ys
one_attributes rows given xs ys v w =
    let field = one_field rows v.field w.field v.is_field w.is_field in
    let asked = one_asked w.field v.asked w.asked (subst (λ (f : Option Extensions). AreAsked f v.asked) field v.are_asked) w.are_asked in
    let others = map attribute_value given in
    let each = subst (λ (zs : List AttributeValue). IsPermutation (others ++ zs) xs) asked v.each in
    one_set attribute xs ys (IsPermutation-trans xs (others ++ w.asked) ys (IsPermutation-sym (others ++ w.asked) xs each) w.each) v.ordered w.ordered

-- ---- what is signed, and what is requested

pub one_info : (params : ParamsView) (subject : Key) (attrs : List Attribute) (i j : CertificationRequestInfo)
    → IsInfo params subject attrs i → IsInfo params subject attrs j → i ≡ j
one_info params subject attrs i j v w =
    let version = v.version ∙ sym w.version in
    let name = v.subject_name ∙ sym w.subject_name in
    let key = v.subject_key ∙ sym w.subject_key in
    let attributes = one_attributes (request_rows params) attrs i.attributes j.attributes v.attributes w.attributes in
    λ t. record { version = version t; subject = name t; subject_public_key_info = key t; attributes = attributes t }

pub one_requested : (params : ParamsView) (subject : Key) (attrs : List Attribute) (fits : List ℕ → List ℕ → Type 0)
    → FitsOnce fits → (a b : List ℕ) → Requests params subject attrs fits a → Requests params subject attrs fits b → a ≡ b
one_requested params subject attrs fits one a b v w =
    let x = v.1 in
    let y = w.1 in
    let info = one_info params subject attrs v.0.info w.0.info x.info y.info in
    let message = same_form certification_request_info w.0.info x.message y.message
    (subst (λ (i : CertificationRequestInfo). IsDerOf certification_request_info i x.message) info x.message_form) y.message_form in
    let signature = one_signature fits one x.message y.message v.0.signature.bytes w.0.signature.bytes message x.signed y.signed in
    let unused = x.no_unused_bits ∙ sym y.no_unused_bits in
    let algorithm = x.signature_algorithm ∙ sym y.signature_algorithm in
    let same : v.0 ≡ w.0 = λ i. record {
      info = info i;
      signature_algorithm = algorithm i;
      signature = record { bytes = signature i; unused = unused i };
    } in
    same_form certification_request w.0 a b (subst (λ (c : CertificationRequest). IsDerOf certification_request c a) same x.form) y.form
