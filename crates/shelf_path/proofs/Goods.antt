-- Why each certificate of a valid path is good, and who signed the lists.
use Rattle.std.proofs.Common.{ℕ, zero, suc, ◌+◌, ◌-◌, ◌≡◌, ◌∙◌, ◌⊎◌, ◌&&◌, ◌||◌, ◌*◌, ◌++◌, Bool, true, false, cond, List, [], ◌∷◌, Option, Some, None, length, nat_lt, fold, ap, append_assoc, arith, inl, inr, refl, subst, sym}
use Rattle.std.proofs.lemmas.List.{append-nil}
use Rattle.std.proofs.lemmas.List.Elements.{Contains-append_cases, Contains-append_left, Contains-append_right, Contains-push_cases}
use Rattle.std.specs.List.{Contains, flat_map}
use Rattle.jiff.specs.Types.{DateTime}
use Rattle.asn1_core.specs.Binds.{some_is}
use Rattle.der_tree.specs.Form.{IsDerOf, value_of}
use Rattle.der_tree.proofs.FormLaws.{value_again, value_there}
use Rattle.path_names.specs.NameMatching.{names_match}
use Rattle.path_revocation.specs.Lists.{is_issuer_of}
use Rattle.path_revocation.specs.Search.{revocation}
use Rattle.path_revocation.specs.declared.given.GivenList.{GivenList}
use Rattle.path_revocation.specs.declared.given.ListIssuer.{ListIssuer}
use Rattle.path_revocation.specs.declared.status.RevocationStatus.{RevocationStatus}
use Rattle.path_revocation.specs.declared.status.RevocationStatus.TheVariants.{Good, Revoked, Undetermined}
use Rattle.path_validation.specs.Outcomes.{Outcome, invalid, outcome, valid}
use Rattle.path_validation.specs.declared.inputs.PathInputs.{PathInputs}
use Rattle.pkix_cert.specs.Certificates.{certificate}
use Rattle.pkix_cert.specs.Views.{CertificateParts}
use Rattle.pkix_cert.specs.declared.certificate.Certificate.{Certificate}
use Rattle.pkix_cert.specs.declared.revocation.CertificateList.{CertificateList}
use Rattle.shelf_path.specs.Asked.{inputs_at}
use Rattle.shelf_path.specs.Laws.{AreGood, IsGoodBy, IsIssuer, IsListOf, IsOtherIssuer, IsPathIssuer, IsSubject, IssuersListsAreAsked, ListsAreOfIssuers, ValidIsGood}
use Rattle.shelf_path.specs.ListIssuers.{accepts_signature, anchor_as_issuer, as_issuer, has_crl_sign, if_good, is_valid_outcome, is_valid_path, issuer_inputs, key_usage_of, known_below, known_by, known_first, known_if, known_with, list_by, list_under, lists_of, may_sign, most_certificates, most_pairs, names_issuer, path_to, points_of, revocation_inputs, status_by, with_each, with_issuer, with_issuers}
use Rattle.shelf_path.specs.Revocations.{bad_or, bad_reason, first_bad, first_bad_from, passed, passed_by, passed_if, status_in}
use Rattle.shelf_path.specs.Verdicts.{bad_if, is_valid, verdict_by}
use Rattle.shelf_path.specs.declared.list_issuer.KnownIssuers.{KnownIssuers}
use Rattle.shelf_path.specs.declared.revocation.BadStatus.{BadStatus}
use Rattle.shelf_path.specs.declared.revocation.Advance.{Advance}
use Rattle.shelf_path.specs.declared.revocation.Advance.TheVariants.{Goes, Stops}

-- ---- lists

abbrev WhatMakes : {A B : Type 0} → (A → List B) → List A → B → Type 0
WhatMakes {A} f xs y = (x : A) × Contains xs x × Contains (f x) y

made_here : {A B : Type 0} (f : A → List B) (x : A) (xs : List A) (y : B) → Contains (f x) y ⊎ Contains (flat_map f xs) y
    → (Contains (flat_map f xs) y → WhatMakes f xs y) → WhatMakes f (x ∷ xs) y
made_here f x xs y (inl there) rest = (x, (0, omega arith, refl), there)
made_here f x xs y (inr there) rest = let m = rest there in (m.0, Contains-append_right (x ∷ []) xs m.0 m.1, m.2)

made_by : {A B : Type 0} (f : A → List B) (xs : List A) (y : B) → Contains (flat_map f xs) y → WhatMakes f xs y
made_by f [] y h = absurd (omega (arith, h.1))
made_by f (x ∷ xs) y h = made_here f x xs y (Contains-append_cases (f x) (flat_map f xs) y h) (made_by f xs y)

pub only : {A : Type 0} (x y : A) → Contains {X = A} [] y ⊎ (x ≡ y) → x ≡ y
only x y (inl none) = absurd (omega (arith, none.1))
only x y (inr e) = e

one_of : {A : Type 0} (b : Bool) (x y : A) → Contains (cond b (x ∷ []) []) y → (b ≡ true) × (x ≡ y)
one_of true x y h = (refl, only x y (Contains-push_cases [] x y h))
one_of false x y h = absurd (omega (arith, h.1))

where_true : {A : Type 0} (b : Bool) (xs : List A) (y : A) → Contains (cond b xs []) y → Contains xs y
where_true true xs y h = h
where_true false xs y h = absurd (omega (arith, h.1))

where_false : {A : Type 0} (b : Bool) (xs : List A) (y : A) → Contains (cond b [] xs) y → Contains xs y
where_false false xs y h = h
where_false true xs y h = absurd (omega (arith, h.1))

pub lists_are_of_issuers : ListsAreOfIssuers
unfolding list_by list_under lists_of
lists_are_of_issuers ls known p c g h =
    let of_any = names_issuer (points_of p) in
    let few = where_false (nat_lt most_pairs (length ls * length known)) (flat_map (list_by known c.tbs_certificate.issuer of_any) ls) g h in
    let l = made_by (list_by known c.tbs_certificate.issuer of_any) ls g few in
    let asked = where_true (names_match l.0.tbs_cert_list.issuer c.tbs_certificate.issuer || of_any) (flat_map (list_under l.0) known) g l.2 in
    let i = made_by (list_under l.0) known g asked in
    let it : GivenList = record { list = l.0; issuer = Some i.0 } in
    let o = one_of (is_issuer_of l.0 i.0) it g i.2 in
    record {
      issuer = i.0;
      is_it = ap (λ (y : GivenList). y.issuer) (sym o.1);
      is_known = i.1;
      given = subst (λ (y : GivenList). Contains ls y.list) o.1 l.1;
      named = subst (λ (y : GivenList). is_issuer_of y.list i.0 ≡ true) o.1 o.0;
    }

-- where it is made from an element
into_here : {A B : Type 0} (f : A → List B) (z : A) (xs : List A) (x : A) (y : B) → Contains {X = A} (z ∷ []) x ⊎ Contains xs x → Contains (f x) y
    → (Contains xs x → Contains (flat_map f xs) y) → Contains (f z ++ flat_map f xs) y
into_here {A} f z xs x y (inl here) made rest =
    let same : x ≡ z = sym (only z x (Contains-push_cases [] z x here)) in
    Contains-append_left (f z) (flat_map f xs) y (subst (λ (w : A). Contains (f w) y) same made)
into_here {A} f z xs x y (inr there) made rest = Contains-append_right (f z) (flat_map f xs) y (rest there)

into : {A B : Type 0} (f : A → List B) (xs : List A) (x : A) (y : B) → Contains xs x → Contains (f x) y → Contains (flat_map f xs) y
into f [] x y h made = absurd (omega (arith, h.1))
into f (z ∷ xs) x y h made = into_here f z xs x y (Contains-append_cases (z ∷ []) xs x h) made (λ there. into f xs x y there made)

where_so : {A : Type 0} (b : Bool) (xs : List A) (y : A) → b ≡ true → Contains xs y → Contains (cond b xs []) y
where_so true xs y e h = h
where_so false xs y e h = absurd cc

where_not : {A : Type 0} (b : Bool) (xs : List A) (y : A) → b ≡ false → Contains xs y → Contains (cond b [] xs) y
where_not false xs y e h = h
where_not true xs y e h = absurd cc

either : (a b : Bool) → a ≡ true → (a || b) ≡ true
either true b e = refl
either false b e = absurd cc

pub issuers_lists_are_asked : IssuersListsAreAsked
unfolding list_by list_under lists_of
issuers_lists_are_asked ls known p c l i given there named issued few =
    let it : GivenList = record { list = l; issuer = Some i } in
    let of_any = names_issuer (points_of p) in
    let matches = names_match l.tbs_cert_list.issuer c.tbs_certificate.issuer in
    let by_known = into (list_under l) known i it there (where_so (is_issuer_of l i) (it ∷ []) it named (0, omega arith, refl)) in
    let asked = where_so (matches || of_any) (flat_map (list_under l) known) it (either matches of_any issued) by_known in
    where_not (nat_lt most_pairs (length ls * length known)) (flat_map (list_by known c.tbs_certificate.issuer of_any) ls) it few
    (into (list_by known c.tbs_certificate.issuer of_any) ls l it given asked)

-- ---- a certificate

left_of : (a b : Bool) → (a && b) ≡ true → a ≡ true
left_of true b h = refl
left_of false b h = h

right_of : (a b : Bool) → (a && b) ≡ true → b ≡ true
right_of true b h = h
right_of false b h = absurd cc

where_few : (b : Bool) (s : RevocationStatus) → cond b Undetermined s ≡ Good → s ≡ Good
where_few true s e = absurd cc
where_few false s e = e

good_by : (x : PathInputs) (ls : List CertificateList) (known : KnownIssuers) (p : CertificateParts) (c : Certificate)
    → status_by x.at known.left (lists_of ls known.issuers p c) c ≡ Good → IsGoodBy x ls known.issuers p c
unfolding status_by
good_by x ls known p c e =
    let gs = lists_of ls known.issuers p c in
    where_few (nat_lt known.left (length gs)) (revocation accepts_signature (revocation_inputs x.at gs) c) e

abbrev PathIs : PathInputs → Option (List CertificateParts) → Type 0
PathIs x o = (path : List CertificateParts) × (o ≡ Some path) × (is_valid_outcome (outcome accepts_signature x path) ≡ true)

path_of : (x : PathInputs) (o : Option (List CertificateParts)) → is_valid_path x o ≡ true → PathIs x o
path_of x None e = absurd cc
path_of x (Some path) e = (path, refl, e)

-- ---- issuers that are known

module _ (x : PathInputs) (ls : List CertificateList) (ks : List CertificateParts) where
  -- each of them is one, and the path's are among them
  abbrev AreKnown : List CertificateParts → List ListIssuer → Type 0
  AreKnown above known =
      (n : ℕ) × ((i : ListIssuer) → Contains known i → IsIssuer n x ls ks above i) × ((i : ListIssuer) → IsPathIssuer x above i → Contains known i)

  -- the path's are still among more
  kept : (above : List CertificateParts) (known more : List ListIssuer) → ((i : ListIssuer) → IsPathIssuer x above i → Contains known i)
      → (i : ListIssuer) → IsPathIssuer x above i → Contains (known ++ more) i
  kept above known more has i on = Contains-append_left known more i (has i on)

  from_path : (n : ℕ) (above : List CertificateParts) (i : ListIssuer) → IsPathIssuer x above i → IsIssuer n x ls ks above i
  from_path zero above i h = h
  from_path (suc n) above i h = inl h

  with_more : (n : ℕ) (above : List CertificateParts) (i : ListIssuer) → IsIssuer n x ls ks above i → IsIssuer (suc n) x ls ks above i
  with_more zero above i h = inl h
  with_more (suc n) above i (inl h) = inl h
  with_more (suc n) above i (inr o) = inr (record {
    parts = o.parts;
    holder = o.holder;
    given = o.given;
    form = o.form;
    is_it = o.is_it;
    signs_lists = o.signs_lists;
    front = o.front;
    others = o.others;
    is_front = o.is_front;
    path = o.path;
    is_path = o.is_path;
    valid_path = o.valid_path;
    known = o.known;
    each_known = λ j there. with_more n o.front j (o.each_known j there);
    path_known = o.path_known;
    good = o.good;
  })

  on_path : (above rest : List CertificateParts) (i : ListIssuer) → IsPathIssuer x above i → IsPathIssuer x (above ++ rest) i
  on_path above rest i (inl e) = inl e
  on_path above rest i (inr s) = inr (s.0, s.1, Contains-append_left above rest s.0 s.2, s.3, s.4)

  below : (n : ℕ) (above rest : List CertificateParts) (i : ListIssuer) → IsIssuer n x ls ks above i → IsIssuer n x ls ks (above ++ rest) i
  below zero above rest i h = on_path above rest i h
  below (suc n) above rest i (inl h) = inl (on_path above rest i h)
  below (suc n) above rest i (inr o) = inr (record {
    parts = o.parts;
    holder = o.holder;
    given = o.given;
    form = o.form;
    is_it = o.is_it;
    signs_lists = o.signs_lists;
    front = o.front;
    others = o.others ++ rest;
    is_front = ap (λ (z : List CertificateParts). z ++ rest) o.is_front ∙ append_assoc o.front o.others rest;
    path = o.path;
    is_path = o.is_path;
    valid_path = o.valid_path;
    known = o.known;
    each_known = o.each_known;
    path_known = o.path_known;
    good = o.good;
  })

  -- one more
  pushed : (above : List CertificateParts) (known : List ListIssuer) (i : ListIssuer) (n : ℕ)
      → ((j : ListIssuer) → Contains known j → IsIssuer n x ls ks above j) → IsIssuer n x ls ks above i
      → (j : ListIssuer) → Contains known j ⊎ (i ≡ j) → IsIssuer n x ls ks above j
  pushed above known i n each one j (inl there) = each j there
  pushed above known i n each one j (inr e) = subst (λ (y : ListIssuer). IsIssuer n x ls ks above y) e one

  one_more : (above : List CertificateParts) (known : List ListIssuer) (i : ListIssuer) (n : ℕ)
      → ((j : ListIssuer) → Contains known j → IsIssuer n x ls ks above j) → IsIssuer n x ls ks above i
      → ((j : ListIssuer) → IsPathIssuer x above j → Contains (known ++ i ∷ []) j) → AreKnown above (known ++ i ∷ [])
  one_more above known i n each one has = (n, λ j there. pushed above known i n each one j (Contains-push_cases known i j there), has)

  no_more : (above : List CertificateParts) (known : List ListIssuer) → AreKnown above known → AreKnown above (known ++ [])
  no_more above known h = subst (λ (y : List ListIssuer). AreKnown above y) (sym (append-nil known)) h

  -- another issuer
  is_other : (above : List CertificateParts) (known : KnownIssuers) (k : CertificateParts) (c : Certificate) (n : ℕ) → Contains ks k
      → value_of certificate k.whole ≡ Some c → may_sign x known.last above k c ≡ true
      → status_by x.at known.left (lists_of ls known.issuers k c) c ≡ Good
      → ((j : ListIssuer) → Contains known.issuers j → IsIssuer n x ls ks above j) → ((j : ListIssuer) → IsPathIssuer x above j → Contains known.issuers j)
      → IsIssuer (suc n) x ls ks above (as_issuer k c)
  unfolding may_sign
  is_other above known k c n given form signs good each has =
      let signs_lists = has_crl_sign (key_usage_of k) in
      let named = names_match known.last c.tbs_certificate.issuer in
      let ends = is_valid_path x (path_to above k) in
      let both = left_of (signs_lists && named) ends signs in
      let path = path_of x (path_to above k) (right_of (signs_lists && named) ends signs) in
      inr (record {
        parts = k;
        holder = c;
        given = given;
        form = value_there certificate k.whole c form;
        is_it = refl;
        signs_lists = left_of signs_lists named both;
        front = above;
        others = [];
        is_front = sym (append-nil above);
        path = path.0;
        is_path = path.1;
        valid_path = path.2;
        known = known.issuers;
        each_known = each;
        path_known = has;
        good = good_by x ls known k c good;
      })

  by_status : (above : List CertificateParts) (known : KnownIssuers) (k : CertificateParts) (c : Certificate) (s : RevocationStatus)
      → AreKnown above known.issuers
      → (s ≡ Good → (n : ℕ) → ((j : ListIssuer) → Contains known.issuers j → IsIssuer n x ls ks above j) → IsIssuer (suc n) x ls ks above (as_issuer k c))
      → AreKnown above (known.issuers ++ if_good s (as_issuer k c))
  by_status above known k c Good h other =
      one_more above known.issuers (as_issuer k c) (suc h.0) (λ j there. with_more h.0 above j (h.1 j there)) (other refl h.0 h.1)
      (kept above known.issuers (as_issuer k c ∷ []) h.2)
  by_status above known k c (Revoked at why) h other = no_more above known.issuers h
  by_status above known k c Undetermined h other = no_more above known.issuers h

  where_signs : (above : List CertificateParts) (known next : KnownIssuers) (b : Bool) → AreKnown above known.issuers
      → (b ≡ true → AreKnown above next.issuers) → AreKnown above (cond b next known).issuers
  where_signs above known next true h signs = signs refl
  where_signs above known next false h signs = h

  by_certificate : (above : List CertificateParts) (known : KnownIssuers) (k : CertificateParts) (o : Option Certificate) → Contains ks k
      → value_of certificate k.whole ≡ o → AreKnown above known.issuers → AreKnown above (known_if x ls above known k o).issuers
  unfolding known_with
  by_certificate above known k None given form h = h
  by_certificate above known k (Some c) given form h =
      let gs = lists_of ls known.issuers k c in
      let s = status_by x.at known.left gs c in
      where_signs above known (known_by x.at known gs k c) (may_sign x known.last above k c) h
      (λ signs. by_status above known k c s h (λ good n each. is_other above known k c n given form signs good each h.2))

  one_issuer : (above : List CertificateParts) (known : KnownIssuers) (k : CertificateParts) → Contains ks k → AreKnown above known.issuers
      → AreKnown above (with_issuer x ls above known k).issuers
  unfolding with_issuer
  one_issuer above known k given h = by_certificate above known k (value_of certificate k.whole) given refl h

  all_issuers : (above rest : List CertificateParts) (known : KnownIssuers) → ((k : CertificateParts) → Contains rest k → Contains ks k)
      → AreKnown above known.issuers → AreKnown above (fold (with_issuer x ls above) known rest).issuers
  all_issuers above [] known within h = h
  all_issuers above (k ∷ rest) known within h =
      all_issuers above rest (with_issuer x ls above known k) (λ y there. within y (Contains-append_right (k ∷ []) rest y there))
      (one_issuer above known k (within k (0, omega arith, refl)) h)

  all_known : (above : List CertificateParts) (known : KnownIssuers) → AreKnown above known.issuers → AreKnown above (with_issuers x ls ks above known).issuers
  unfolding with_issuers
  all_known above known h =
      where_signs above known (with_each x ls ks above known) (nat_lt (length above) most_certificates) h
      (λ few. all_issuers above ks known (λ k given. given) h)

  -- of the certificate that is passed, too
  at_same : (known : List ListIssuer) (p q : CertificateParts) (c d : Certificate) (j : ListIssuer) → p ≡ q → value_of certificate p.whole ≡ Some c
      → IsDerOf certificate d q.whole → j ≡ as_issuer q d → Contains (known ++ as_issuer p c ∷ []) j
  at_same known p q c d j e form der is =
      let here : value_of certificate q.whole ≡ Some c = subst (λ (y : CertificateParts). value_of certificate y.whole ≡ Some c) e form in
      let same : c ≡ d = some_is c d (sym here ∙ value_again certificate q.whole d der) in
      let one : as_issuer p c ≡ j = ap (λ (y : CertificateParts). as_issuer y c) e ∙ ap (λ (z : Certificate). as_issuer q z) same ∙ sym is in
      subst (λ (i : ListIssuer). Contains (known ++ as_issuer p c ∷ []) i) one
      (Contains-append_right known (as_issuer p c ∷ []) (as_issuer p c) (0, omega arith, refl))

  on_or_here : (above : List CertificateParts) (known : List ListIssuer) (p q : CertificateParts) (c d : Certificate) (j : ListIssuer)
      → value_of certificate p.whole ≡ Some c → ((i : ListIssuer) → IsPathIssuer x above i → Contains known i) → IsDerOf certificate d q.whole
      → j ≡ as_issuer q d → Contains above q ⊎ (p ≡ q) → Contains (known ++ as_issuer p c ∷ []) j
  on_or_here above known p q c d j form has der is (inl there) =
      Contains-append_left known (as_issuer p c ∷ []) j (has j (inr (q, d, there, der, is)))
  on_or_here above known p q c d j form has der is (inr e) = at_same known p q c d j e form der is

  path_kept : (above : List CertificateParts) (known : List ListIssuer) (p : CertificateParts) (c : Certificate) → value_of certificate p.whole ≡ Some c
      → ((i : ListIssuer) → IsPathIssuer x above i → Contains known i)
      → (j : ListIssuer) → IsPathIssuer x (above ++ p ∷ []) j → Contains (known ++ as_issuer p c ∷ []) j
  path_kept above known p c form has j (inl e) = Contains-append_left known (as_issuer p c ∷ []) j (has j (inl e))
  path_kept above known p c form has j (inr s) =
      on_or_here above known p s.0 c s.1 j form has s.3 s.4 (Contains-push_cases above p s.0 s.2)

  -- after a certificate of the path
  behind_one : (above : List CertificateParts) (known : KnownIssuers) (checks : ℕ) (p : CertificateParts) (c : Certificate)
      → value_of certificate p.whole ≡ Some c → AreKnown above known.issuers → AreKnown (above ++ p ∷ []) (known_below known checks p c).issuers
  behind_one above known checks p c form h =
      let there : Contains (above ++ p ∷ []) p = Contains-append_right above (p ∷ []) p (0, omega arith, refl) in
      one_more (above ++ p ∷ []) known.issuers (as_issuer p c) h.0 (λ j known_so. below h.0 above (p ∷ []) j (h.1 j known_so))
      (from_path h.0 (above ++ p ∷ []) (as_issuer p c) (inr (p, c, there, value_there certificate p.whole c form, refl)))
      (path_kept above known.issuers p c form h.2)

  -- ---- the certificates of a path

  good_one : (s : RevocationStatus) (here next : KnownIssuers) → passed_if (bad_reason s) here ≡ Goes next → (s ≡ Good) × (here ≡ next)
  good_one Good here next e = (refl, cc)
  good_one (Revoked at why) here next e = absurd cc
  good_one Undetermined here next e = absurd cc

  -- what is below one that is good
  abbrev Below : ℕ → List CertificateParts → CertificateParts → List CertificateParts → Type 0
  Below place above p ps =
      (next : KnownIssuers) → AreKnown (above ++ p ∷ []) next.issuers → first_bad_from x ls ks (place + 1) (above ++ p ∷ []) next ps ≡ None
      → AreGood x ls ks (above ++ p ∷ []) ps

  good_certificate : (place : ℕ) (above : List CertificateParts) (known next : KnownIssuers) (p : CertificateParts) (ps : List CertificateParts)
      (o : Option Certificate) → value_of certificate p.whole ≡ o → AreKnown above known.issuers → passed_by x ls known p o ≡ Goes next
      → first_bad_from x ls ks (place + 1) (above ++ p ∷ []) next ps ≡ None → Below place above p ps → AreGood x ls ks above (p ∷ ps)
  good_certificate place above known next p ps None form h comes good rest = absurd cc
  good_certificate place above known next p ps (Some c) form h comes good rest =
      let checks = length (lists_of ls known.issuers p c) in
      let g = good_one (status_in x ls known p c) (known_below known checks p c) next comes in (
        c,
        known.issuers,
        h.0,
        value_there certificate p.whole c form,
        h.1,
        h.2,
        good_by x ls known p c g.0,
        rest next (subst (λ (k : KnownIssuers). AreKnown (above ++ p ∷ []) k.issuers) g.1 (behind_one above known checks p c form h)) good,
      )

  first_good : (place : ℕ) (above : List CertificateParts) (known : KnownIssuers) (p : CertificateParts) (ps : List CertificateParts) (r : Advance)
      → AreKnown above known.issuers → passed_by x ls known p (value_of certificate p.whole) ≡ r
      → bad_or place r (λ next. first_bad_from x ls ks (place + 1) (above ++ p ∷ []) next ps) ≡ None → Below place above p ps
      → AreGood x ls ks above (p ∷ ps)
  first_good place above known p ps (Stops why) h comes good rest = absurd cc
  first_good place above known p ps (Goes next) h comes good rest =
      good_certificate place above known next p ps (value_of certificate p.whole) refl h comes good rest

  are_good : (ps : List CertificateParts) (place : ℕ) (above : List CertificateParts) (known : KnownIssuers) → AreKnown above known.issuers
      → first_bad_from x ls ks place above known ps ≡ None → AreGood x ls ks above ps
  unfolding passed
  are_good [] place above known h good = tt
  are_good (p ∷ ps) place above known h good =
      let there = with_issuers x ls ks above known in
      first_good place above there p ps (passed_by x ls there p (value_of certificate p.whole)) (all_known above known h) refl good
      (are_good ps (place + 1) (above ++ p ∷ []))

  at_anchor : (j : ListIssuer) → Contains {X = ListIssuer} [] j ⊎ (anchor_as_issuer x.anchor ≡ j) → IsIssuer 0 x ls ks [] j
  at_anchor j (inl none) = absurd (omega (arith, none.1))
  at_anchor j (inr e) = inl (sym e)

  anchor_known : (j : ListIssuer) → IsPathIssuer x [] j → Contains {X = ListIssuer} (anchor_as_issuer x.anchor ∷ []) j
  anchor_known j (inl e) = subst (λ (i : ListIssuer). Contains {X = ListIssuer} (anchor_as_issuer x.anchor ∷ []) i) (sym e) (0, omega arith, refl)
  anchor_known j (inr s) = absurd (omega (arith, s.2.1))

  first_known : AreKnown [] (anchor_as_issuer x.anchor ∷ [])
  first_known = (0, λ j there. at_anchor j (Contains-push_cases [] (anchor_as_issuer x.anchor) j there), anchor_known)

-- ---- of a verdict

none_bad : (count : ℕ) (bad : Option BadStatus) (o : Outcome) → is_valid (verdict_by count bad o) ≡ true → bad ≡ None
none_bad count None (valid given) e = refl
none_bad count (Some bad) (valid given) e = absurd cc
none_bad count bad (invalid place why) e = absurd cc

where_asked : (asked : Bool) (bad : Option BadStatus) → asked ≡ true → cond asked bad None ≡ None → bad ≡ None
where_asked true bad e h = h
where_asked false bad e h = absurd cc

pub valid_is_good : ValidIsGood
unfolding first_bad
valid_is_good a v is valid_so asked =
    let x = inputs_at is.at a in
    let bad = bad_if a.question.revocation x a.lists a.issuers a.path in
    let none = none_bad (length a.path) bad (outcome accepts_signature x a.path) (ap is_valid (sym is.comes) ∙ valid_so) in
    let known = where_asked a.question.revocation (first_bad x a.lists a.issuers a.path) asked none in (
      is.at,
      is.time,
      are_good (issuer_inputs x) a.lists a.issuers a.path 1 [] (known_first a.lists a.anchor)
          (first_known (issuer_inputs x) a.lists a.issuers) known,
    )
