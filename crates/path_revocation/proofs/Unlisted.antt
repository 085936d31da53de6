-- Why a good certificate is revoked by none of the lists.
use Rattle.std.proofs.Common.{Bool, List, None, Option, Some, ap, arith, cond, false, filter, fold, is_some, map, not, refl, subst, suc, sym, true, zero}
use Rattle.std.proofs.Common.{◌&&◌, ◌||◌, [], ◌∙◌, ◌∷◌, ◌≡◌}
use Rattle.std.specs.List.{Contains}
use Rattle.std.proofs.lemmas.List.Elements.{Contains-append_right}
use Rattle.pkix_cert.specs.declared.certificate.Certificate.{Certificate}
use Rattle.pkix_cert.specs.declared.distribution.DistributionPoint.{DistributionPoint}
use Rattle.pkix_cert.specs.declared.distribution.IssuingDistributionPoint.{IssuingDistributionPoint}
use Rattle.pkix_cert.specs.declared.revocation.CertificateList.{CertificateList}
use Rattle.pkix_name.specs.declared.general_name.GeneralName.{GeneralName}
use Rattle.pkix_name.specs.declared.name.Name.{Name}
use Rattle.path_names.specs.NameMatching.{names_match}
use Rattle.path_revocation.proofs.Telling.{at_end, behind, left_of, right_of, state_good}
use Rattle.path_revocation.specs.Laws.{GoodIsUnlisted, IsUsed, its_delta}
use Rattle.path_revocation.specs.Lists.{Accepts, is_complete, is_sound, issuing_point, sound_lists}
use Rattle.path_revocation.specs.Newer.{is_superseded}
use Rattle.path_revocation.specs.Points.{has_scope, is_among, is_indirect, is_of_issuer}
use Rattle.path_revocation.specs.Search.{after_lists, after_points, can_correspond, corresponds, counts, finding_of, finding_with, findings, first_state}
use Rattle.path_revocation.specs.Search.{found_on}
use Rattle.path_revocation.specs.Search.{is_in_force, is_revoked, points_of, status_on, step, subject_of, told}
use Rattle.path_revocation.specs.declared.entry.Revocation.{Revocation}
use Rattle.path_revocation.specs.declared.finding.Finding.{Finding}
use Rattle.path_revocation.specs.declared.given.GivenList.{GivenList}
use Rattle.path_revocation.specs.declared.given.RevocationInputs.{RevocationInputs}
use Rattle.path_revocation.specs.declared.search.Search.{Search}
use Rattle.path_revocation.specs.declared.subject.Subject.{Subject}

-- ---- a fold: what holds at its end, and no step on the way back loses, holds after each step

fold_back : {S A : Type 0} (N : S → Type 0) (f : S → A → S) → ((s : S) (x : A) → N (f s x) → N s)
    → (xs : List A) (s : S) → N (fold f s xs) → N s
fold_back N f back [] s h = h
fold_back N f back (x ∷ xs) s h = back s x (fold_back N f back xs (f s x) h)

-- a state before the step of the item
abbrev Meets : {S A : Type 0} → (S → Type 0) → (S → A → S) → A → Type 0
Meets {S} N f y = (t : S) × N (f t y)

fold_meets : {S A : Type 0} (N : S → Type 0) (f : S → A → S) → ((s : S) (x : A) → N (f s x) → N s)
    → (xs : List A) (s : S) (y : A) → Contains xs y → N (fold f s xs) → Meets N f y
fold_meets N f back [] s y (k, below, is) h = absurd (omega arith)
fold_meets N f back (x ∷ xs) s y (zero, below, is) h = (s, subst (λ z. N (f s z)) is (fold_back N f back xs (f s x) h))
fold_meets N f back (x ∷ xs) s y (suc k, below, is) h = fold_meets N f back xs (f s x) y (k, omega arith, is) h

-- ---- where an element goes

to_map : {A B : Type 0} (f : A → B) (xs : List A) (y : A) → Contains xs y → Contains (map f xs) (f y)
to_map f [] y (k, below, is) = absurd (omega arith)
to_map f (x ∷ xs) y (zero, below, is) = (0, omega arith, ap f is)
to_map f (x ∷ xs) y (suc k, below, is) = Contains-append_right (f x ∷ []) (map f xs) (f y) (to_map f xs y (k, omega arith, is))

passed_by : {A : Type 0} (t : A → Bool) (x : A) (xs : List A) (y : A) (b : Bool) → t x ≡ b → t y ≡ true → Contains (x ∷ xs) y
    → (Contains xs y → Contains (filter t xs) y) → Contains (cond b (x ∷ filter t xs) (filter t xs)) y
passed_by t x xs y true e h (zero, below, is) rest = (0, omega arith, is)
passed_by t x xs y true e h (suc k, below, is) rest = Contains-append_right (x ∷ []) (filter t xs) y (rest (k, omega arith, is))
passed_by t x xs y false e h (zero, below, is) rest = absurd (let same : t x ≡ t y = ap t is in cc)
passed_by t x xs y false e h (suc k, below, is) rest = rest (k, omega arith, is)

to_filter : {A : Type 0} (t : A → Bool) (xs : List A) (y : A) → Contains xs y → t y ≡ true → Contains (filter t xs) y
to_filter t [] y (k, below, is) h = absurd (omega arith)
to_filter t (x ∷ xs) y there h = passed_by t x xs y (t x) refl h there (λ later. to_filter t xs y later h)

to_sound : (accepts : Accepts) (x : RevocationInputs) (g : GivenList) → Contains x.lists g → is_sound accepts x.at g ≡ true
    → Contains (sound_lists accepts x) g
unfolding sound_lists
to_sound accepts x g there h = to_filter (is_sound accepts x.at) x.lists g there h

-- ---- one list

abbrev NotRevoked : Search → Type 0
NotRevoked s = s.cert_status ≡ None

status_under : (b : Bool) (s t : Search) → (cond b t s).cert_status ≡ cond b t.cert_status s.cert_status
status_under true s t = refl
status_under false s t = refl

back_by : (o status : Option Revocation) (fits : Bool) → cond (not (is_some o) && fits) status o ≡ None → o ≡ None
back_by None status fits h = refl
back_by (Some r) status fits h = h

clear_by : (o status : Option Revocation) (fits : Bool) → cond (not (is_some o) && fits) status o ≡ None → fits ≡ true → status ≡ None
clear_by (Some r) status fits h a = absurd cc
clear_by None status true h a = h
clear_by None status false h a = absurd cc

step_back : (c : Subject) (p : DistributionPoint) (s : Search) (o : Option Finding) → NotRevoked (step c p s o) → NotRevoked s
unfolding told is_revoked
step_back c p s None h = h
step_back c p s (Some f) h =
    let fits = corresponds c p f.issuer f.issuing_point in
    back_by s.cert_status f.status fits (sym (status_under (not (is_some s.cert_status) && fits) s (behind s p f)) ∙ h)

told_clear : (c : Subject) (p : DistributionPoint) (s : Search) (f : Finding) → NotRevoked (told c p s f)
    → corresponds c p f.issuer f.issuing_point ≡ true → f.status ≡ None
unfolding told is_revoked
told_clear c p s f h fits =
    let test = corresponds c p f.issuer f.issuing_point in
    clear_by s.cert_status f.status test (sym (status_under (not (is_some s.cert_status) && test) s (behind s p f)) ∙ h) fits

-- what (b) (1) asks at a point, it asks whatever the point
or_second : (a b : Bool) → b ≡ true → (a || b) ≡ true
or_second true b h = refl
or_second false b h = h

or_first : (a b : Bool) → a ≡ true → (a || b) ≡ true
or_first a b h = rw h refl

of_issuer_by : (issuer name : Name) (issuers : Option (List GeneralName)) (q : Option IssuingDistributionPoint) → is_of_issuer issuer issuers name q ≡ true
    → (names_match name issuer || is_indirect q) ≡ true
unfolding is_of_issuer
of_issuer_by issuer name None q h = or_first (names_match name issuer) (is_indirect q) h
of_issuer_by issuer name (Some issuers) q h = or_second (names_match name issuer) (is_indirect q) (right_of (is_among name issuers) (is_indirect q) h)

can_be : (c : Subject) (p : DistributionPoint) (l : CertificateList) → corresponds c p l.tbs_cert_list.issuer (issuing_point l) ≡ true
    → can_correspond c l ≡ true
unfolding corresponds can_correspond
can_be c p l h =
    let name = l.tbs_cert_list.issuer in
    of_issuer_by c.issuer name p.crl_issuer (issuing_point l)
    (left_of (is_of_issuer c.issuer p.crl_issuer name (issuing_point l)) (has_scope c.is_ca p name (issuing_point l)) h)

found_by : {A : Type 0} (a b d n : Bool) (v : A) → a ≡ true → b ≡ true → d ≡ true → n ≡ false
    → cond (a && b) (cond (d && not n) (Some v) None) None ≡ Some v
found_by a b d n v e f g h = rw (e, f, g, h) refl

is_found : (accepts : Accepts) (x : RevocationInputs) (c : Certificate) (p : DistributionPoint) (g : GivenList) → IsUsed accepts x c p g
    → finding_of (sound_lists accepts x) x (subject_of c) g ≡ Some (found_on (subject_of c) g (its_delta accepts x c g))
unfolding finding_of finding_with counts
is_found accepts x c p g used =
    found_by (can_correspond (subject_of c) g.list) (is_complete g.list) (is_in_force x.at g.list (its_delta accepts x c g))
    (is_superseded (sound_lists accepts x) x.at g (its_delta accepts x c g)) (found_on (subject_of c) g (its_delta accepts x c g))
    (can_be (subject_of c) p g.list used.usable) used.complete used.in_force used.newest

-- ---- all lists, all points

lists_back : (c : Subject) (fs : List (Option Finding)) (s : Search) (p : DistributionPoint) → NotRevoked (after_lists c fs s p) → NotRevoked s
unfolding after_lists
lists_back c fs s p h = fold_back NotRevoked (step c p) (step_back c p) fs s h

at_point : (accepts : Accepts) (x : RevocationInputs) (c : Certificate) (s : Search) (p : DistributionPoint) (g : GivenList)
    → NotRevoked (after_lists (subject_of c) (findings (sound_lists accepts x) x (subject_of c)) s p) → IsUsed accepts x c p g
    → status_on (subject_of c) (its_delta accepts x c g) g.list ≡ None
unfolding after_lists
at_point accepts x c s p g h used =
    let sound = sound_lists accepts x in
    let o = finding_of sound x (subject_of c) g in
    let there : Contains (findings sound x (subject_of c)) o =
    to_map (finding_of sound x (subject_of c)) sound g (to_sound accepts x g used.given used.sound) in
    let met = fold_meets NotRevoked (step (subject_of c) p) (step_back (subject_of c) p) (findings sound x (subject_of c)) s o there h in
    let P : Option Finding → Type 0 = λ (v : Option Finding). NotRevoked (step (subject_of c) p met.0 v) in
    told_clear (subject_of c) p met.0 (found_on (subject_of c) g (its_delta accepts x c g)) (subst P (is_found accepts x c p g used) met.1) used.usable

after_all : (accepts : Accepts) (x : RevocationInputs) (c : Certificate) (p : DistributionPoint) (g : GivenList)
    → NotRevoked (at_end accepts x c) → IsUsed accepts x c p g
    → status_on (subject_of c) (its_delta accepts x c g) g.list ≡ None
unfolding after_points
after_all accepts x c p g h used =
    let fs = findings (sound_lists accepts x) x (subject_of c) in
    let met = fold_meets NotRevoked (after_lists (subject_of c) fs) (lists_back (subject_of c) fs) (points_of c) first_state p used.of_certificate h in
    at_point accepts x c met.0 p g met.1 used

pub good_unlisted : GoodIsUnlisted
good_unlisted accepts x c p g e used = after_all accepts x c p g (state_good accepts x c e).0 used
