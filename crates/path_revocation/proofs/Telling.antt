-- Why the laws hold: what is known of the state along the search.
use Rattle.std.proofs.Common.{Bool, List, None, Option, Some, ap, arith, cond, false, filter, fold, inl}
use Rattle.std.proofs.Common.{inr, is_some, length, map, nat_le, not, refl, subst, suc}
use Rattle.std.proofs.Common.{sym, true, zero, ℕ, ◌&&◌, [], ◌++◌, ◌∙◌, ◌∷◌, ◌≡◌, ◌⊎◌}
use Rattle.std.specs.List.{Contains}
use Rattle.std.specs.Option.{option_or}
use Rattle.std.proofs.lemmas.List.Elements.{Contains-append_right}
use Rattle.jiff.specs.Types.{DateTime}
use Rattle.asn1_core.specs.IntegerOrder.{same_integer}
use Rattle.pkix_cert.specs.declared.certificate.Certificate.{Certificate}
use Rattle.pkix_cert.specs.declared.distribution.DistributionPoint.{DistributionPoint}
use Rattle.pkix_cert.specs.declared.revocation.CertificateList.{CertificateList}
use Rattle.pkix_cert.specs.declared.revocation.CrlReason.{CrlReason}
use Rattle.pkix_cert.specs.declared.revocation.RevokedCertificate.{RevokedCertificate}
use Rattle.pkix_name.specs.declared.name.Name.{Name}
use Rattle.path_names.specs.NameMatching.{names_match}
use Rattle.path_revocation.specs.Deltas.{asks_delta, crl_number, delta_for, is_newer, is_used_delta, listed_in, listed_on, newer, newer_of, newest}
use Rattle.path_revocation.specs.Entries.{found, is_of_issuer, is_removal, revocation_by, unless_removed}
use Rattle.path_revocation.specs.Laws.{AreClear, GoodIsCovered, IsApplied, IsListed, IsUsed, RevokedIsListed, its_delta, reasons_of}
use Rattle.path_revocation.specs.Limits.{is_too_much, most_lists}
use Rattle.path_revocation.specs.Lists.{Accepts, is_complete, is_sound, issuing_point, sound_lists}
use Rattle.path_revocation.specs.Newer.{is_superseded}
use Rattle.path_revocation.specs.Reasons.{are_all, union}
use Rattle.path_revocation.specs.Search.{after_lists, after_points, can_correspond, corresponds, counts, finding_of, finding_with, findings, first_state}
use Rattle.path_revocation.specs.Search.{found_on}
use Rattle.path_revocation.specs.Search.{interim_reasons, is_in_force, is_readable_certificate, is_revoked, points_of}
use Rattle.path_revocation.specs.Search.{revocation, status_among, status_at_points, status_by}
use Rattle.path_revocation.specs.Search.{status_of, status_on, step, subject_of, told}
use Rattle.path_revocation.specs.declared.delta.Delta.{Delta}
use Rattle.path_revocation.specs.declared.entry.Revocation.{Revocation}
use Rattle.path_revocation.specs.declared.finding.Finding.{Finding}
use Rattle.path_revocation.specs.declared.given.GivenList.{GivenList}
use Rattle.path_revocation.specs.declared.given.RevocationInputs.{RevocationInputs}
use Rattle.path_revocation.specs.declared.reasons.Reasons.{Reasons}
use Rattle.path_revocation.specs.declared.search.Search.{Search}
use Rattle.path_revocation.specs.declared.status.RevocationStatus.{RevocationStatus}
use Rattle.path_revocation.specs.declared.status.RevocationStatus.TheVariants.{Good, Revoked, Undetermined}
use Rattle.path_revocation.specs.declared.subject.Subject.{Subject}

-- ---- tests

pub left_of : (a b : Bool) → a && b ≡ true → a ≡ true
left_of true b h = refl
left_of false b h = h

pub right_of : (a b : Bool) → a && b ≡ true → b ≡ true
right_of true b h = h
right_of false b h = absurd cc

pub not_true : (b : Bool) → not b ≡ true → b ≡ false
not_true true h = absurd cc
not_true false h = refl

none_there : {A : Type 0} (o : Option A) → is_some o ≡ false → o ≡ None
none_there None h = refl
none_there (Some x) h = absurd cc

-- ---- a fold keeps what each step keeps

fold_keeps : {S A : Type 0} (P : S → Type 0) (all : List A) (f : S → A → S) → ((s : S) (x : A) → Contains all x → P s → P (f s x))
    → (xs : List A) → ((x : A) → Contains xs x → Contains all x) → (s : S) → P s → P (fold f s xs)
fold_keeps P all f keeps [] within s h = h
fold_keeps P all f keeps (x ∷ xs) within s h =
    fold_keeps P all f keeps xs (λ y there. within y (Contains-append_right (x ∷ []) xs y there)) (f s x)
    (keeps s x (within x (0, omega arith, refl)) h)

-- ---- what the state tells

-- a list that is used says so
record Told (accepts : Accepts) (x : RevocationInputs) (c : Certificate) (r : Revocation) : Type 0 where
  p : DistributionPoint
  g : GivenList
  used : IsUsed accepts x c p g
  says : status_on (subject_of c) (its_delta accepts x c g) g.list ≡ Some r

-- lists that are used speak of these reasons, and of no revocation
record Clear (accepts : Accepts) (x : RevocationInputs) (c : Certificate) (mask : Reasons) : Type 0 where
  used : List (DistributionPoint × GivenList)
  clear : AreClear accepts x c used
  all : mask ≡ reasons_of used

record Sound (accepts : Accepts) (x : RevocationInputs) (c : Certificate) (s : Search) : Type 0 where
  revoked : (r : Revocation) → s.cert_status ≡ Some r → Told accepts x c r
  good : s.cert_status ≡ None → Clear accepts x c s.reasons_mask

first_sound : (accepts : Accepts) (x : RevocationInputs) (c : Certificate) → Sound accepts x c first_state
first_sound accepts x c = record {
  revoked = λ r e. absurd cc;
  good = λ e. record { used = []; clear = tt; all = refl };
}

one_more : (accepts : Accepts) (x : RevocationInputs) (c : Certificate) (p : DistributionPoint) (g : GivenList) (mask : Reasons)
    → IsUsed accepts x c p g → status_on (subject_of c) (its_delta accepts x c g) g.list ≡ None → Clear accepts x c mask
    → Clear accepts x c (union mask (interim_reasons p (issuing_point g.list)))
one_more accepts x c p g mask used none k = record {
  used = (p, g) ∷ k.used;
  clear = (used, none, k.clear);
  all = ap (λ (m : Reasons). union m (interim_reasons p (issuing_point g.list))) k.all;
}

-- what a list that counts says
record Made (accepts : Accepts) (x : RevocationInputs) (c : Certificate) (g : GivenList) (f : Finding) : Type 0 where
  complete : is_complete g.list ≡ true
  counted : counts (sound_lists accepts x) x g (its_delta accepts x c g) ≡ true
  is : found_on (subject_of c) g (its_delta accepts x c g) ≡ f

both_hold : {A : Type 0} (b d : Bool) (v f : A) → cond b (cond d (Some v) None) None ≡ Some f → (b ≡ true) × (d ≡ true) × (v ≡ f)
both_hold true true v f e = (refl, refl, cc)
both_hold true false v f e = absurd cc
both_hold false d v f e = absurd cc

made : (accepts : Accepts) (x : RevocationInputs) (c : Certificate) (g : GivenList) (f : Finding)
    → finding_of (sound_lists accepts x) x (subject_of c) g ≡ Some f → Made accepts x c g f
unfolding finding_of finding_with
made accepts x c g f e =
    let b = can_correspond (subject_of c) g.list && is_complete g.list in
    let d = counts (sound_lists accepts x) x g (its_delta accepts x c g) in
    let k = both_hold b d (found_on (subject_of c) g (its_delta accepts x c g)) f e in
    record { complete = right_of (can_correspond (subject_of c) g.list) (is_complete g.list) k.0; counted = k.1; is = k.2 }

-- what the tests of a list say
is_used : (accepts : Accepts) (x : RevocationInputs) (c : Certificate) (p : DistributionPoint) (g : GivenList)
    → Contains (points_of c) p → Contains x.lists g → is_sound accepts x.at g ≡ true → is_complete g.list ≡ true
    → corresponds (subject_of c) p g.list.tbs_cert_list.issuer (issuing_point g.list) ≡ true
    → counts (sound_lists accepts x) x g (its_delta accepts x c g) ≡ true → IsUsed accepts x c p g
unfolding counts
is_used accepts x c p g of_certificate given sound complete fits e =
    let in_force = is_in_force x.at g.list (its_delta accepts x c g) in
    let superseded = is_superseded (sound_lists accepts x) x.at g (its_delta accepts x c g) in
    record {
      of_certificate = of_certificate;
      given = given;
      sound = sound;
      complete = complete;
      usable = fits;
      in_force = left_of in_force (not superseded) e;
      newest = not_true superseded (right_of in_force (not superseded) e);
    }

-- the state after a list that is used
abbrev pub behind : Search → DistributionPoint → Finding → Search
behind s p f = record { reasons_mask = union s.reasons_mask (interim_reasons p f.issuing_point); cert_status = f.status }

told_by : (accepts : Accepts) (x : RevocationInputs) (c : Certificate) (s : Search) (p : DistributionPoint) (g : GivenList) (f : Finding) (b : Bool)
    → Contains (points_of c) p → Contains x.lists g → is_sound accepts x.at g ≡ true
    → is_complete g.list ≡ true → counts (sound_lists accepts x) x g (its_delta accepts x c g) ≡ true
    → f ≡ found_on (subject_of c) g (its_delta accepts x c g)
    → not (is_some s.cert_status) && corresponds (subject_of c) p g.list.tbs_cert_list.issuer (issuing_point g.list) ≡ b
    → Sound accepts x c s → Sound accepts x c (cond b (behind s p (found_on (subject_of c) g (its_delta accepts x c g))) s)
told_by accepts x c s p g f false of_certificate given sound complete counted is h k = k
told_by accepts x c s p g f true of_certificate given sound complete counted is h k =
    let undecided = not (is_some s.cert_status) in
    let fits = corresponds (subject_of c) p g.list.tbs_cert_list.issuer (issuing_point g.list) in
    let used = is_used accepts x c p g of_certificate given sound complete (right_of undecided fits h) counted in
    let none : s.cert_status ≡ None = none_there s.cert_status (not_true (is_some s.cert_status) (left_of undecided fits h)) in
    record {
      revoked = λ r says. record { p = p; g = g; used = used; says = says };
      good = λ says. one_more accepts x c p g s.reasons_mask used says (k.good none);
    }

found_sound : (accepts : Accepts) (x : RevocationInputs) (c : Certificate) (s : Search) (p : DistributionPoint) (g : GivenList)
    → Contains (points_of c) p → Contains x.lists g → is_sound accepts x.at g ≡ true
    → is_complete g.list ≡ true → counts (sound_lists accepts x) x g (its_delta accepts x c g) ≡ true
    → Sound accepts x c s → Sound accepts x c (told (subject_of c) p s (found_on (subject_of c) g (its_delta accepts x c g)))
unfolding told is_revoked
found_sound accepts x c s p g of_certificate given sound complete counted k =
    told_by accepts x c s p g (found_on (subject_of c) g (its_delta accepts x c g))
    (not (is_some s.cert_status) && corresponds (subject_of c) p g.list.tbs_cert_list.issuer (issuing_point g.list))
    of_certificate given sound complete counted refl refl k

step_by : (accepts : Accepts) (x : RevocationInputs) (c : Certificate) (s : Search) (p : DistributionPoint) (g : GivenList) (o : Option Finding)
    → Contains (points_of c) p → Contains x.lists g → is_sound accepts x.at g ≡ true → finding_of (sound_lists accepts x) x (subject_of c) g ≡ o
    → Sound accepts x c s → Sound accepts x c (step (subject_of c) p s o)
step_by accepts x c s p g None of_certificate given sound e k = k
step_by accepts x c s p g (Some f) of_certificate given sound e k =
    let m = made accepts x c g f e in
    let P : Finding → Type 0 = λ (v : Finding). Sound accepts x c (told (subject_of c) p s v) in
    subst P m.is (found_sound accepts x c s p g of_certificate given sound m.complete m.counted k)

-- ---- where an element is from

pub from_map : {A B : Type 0} (f : A → B) (xs : List A) (y : B) → Contains (map f xs) y → (a : A) × Contains xs a × (f a ≡ y)
from_map f [] y (k, below, is) = absurd (omega arith)
from_map f (x ∷ xs) y (zero, below, is) = (x, (0, omega arith, refl), is)
from_map f (x ∷ xs) y (suc k, below, is) =
    let rest = from_map f xs y (k, omega arith, is) in
    (rest.0, Contains-append_right (x ∷ []) xs rest.0 rest.1, rest.2)

kept_by : {A : Type 0} (t : A → Bool) (x : A) (xs : List A) (y : A) (b : Bool) → t x ≡ b → Contains (cond b (x ∷ filter t xs) (filter t xs)) y
    → (Contains (filter t xs) y → Contains xs y × (t y ≡ true)) → Contains (x ∷ xs) y × (t y ≡ true)
kept_by t x xs y false e there rest = let k = rest there in (Contains-append_right (x ∷ []) xs y k.0, k.1)
kept_by t x xs y true e (zero, below, is) rest = ((0, omega arith, is), subst (λ z. t z ≡ true) is e)
kept_by t x xs y true e (suc k, below, is) rest =
    let m = rest (k, omega arith, is) in
    (Contains-append_right (x ∷ []) xs y m.0, m.1)

pub from_filter : {A : Type 0} (t : A → Bool) (xs : List A) (y : A) → Contains (filter t xs) y → Contains xs y × (t y ≡ true)
from_filter t [] y (k, below, is) = absurd (omega arith)
from_filter t (x ∷ xs) y there = kept_by t x xs y (t x) refl there (from_filter t xs y)

pub from_sound : (accepts : Accepts) (x : RevocationInputs) (g : GivenList) → Contains (sound_lists accepts x) g
    → Contains x.lists g × (is_sound accepts x.at g ≡ true)
unfolding sound_lists
from_sound accepts x g there = from_filter (is_sound accepts x.at) x.lists g there

-- ---- all lists, all points

step_sound : (accepts : Accepts) (x : RevocationInputs) (c : Certificate) (p : DistributionPoint) → Contains (points_of c) p
    → (s : Search) (o : Option Finding) → Contains (findings (sound_lists accepts x) x (subject_of c)) o
    → Sound accepts x c s → Sound accepts x c (step (subject_of c) p s o)
step_sound accepts x c p of_certificate s o there k =
    let m = from_map (finding_of (sound_lists accepts x) x (subject_of c)) (sound_lists accepts x) o there in
    let h = from_sound accepts x m.0 m.1 in
    step_by accepts x c s p m.0 o of_certificate h.0 h.1 m.2 k

lists_sound : (accepts : Accepts) (x : RevocationInputs) (c : Certificate) (s : Search) (p : DistributionPoint) → Contains (points_of c) p
    → Sound accepts x c s → Sound accepts x c (after_lists (subject_of c) (findings (sound_lists accepts x) x (subject_of c)) s p)
unfolding after_lists
lists_sound accepts x c s p of_certificate k =
    let fs = findings (sound_lists accepts x) x (subject_of c) in
    fold_keeps (Sound accepts x c) fs (step (subject_of c) p) (step_sound accepts x c p of_certificate) fs (λ o there. there) s k

-- the state at the end
abbrev pub at_end : Accepts → RevocationInputs → Certificate → Search
at_end accepts x c = after_points (sound_lists accepts x) x c

points_sound : (accepts : Accepts) (x : RevocationInputs) (c : Certificate) → Sound accepts x c (at_end accepts x c)
unfolding after_points
points_sound accepts x c =
    fold_keeps (Sound accepts x c) (points_of c) (after_lists (subject_of c) (findings (sound_lists accepts x) x (subject_of c))) (lists_sound accepts x c)
    (points_of c) (λ p there. there) first_state (first_sound accepts x c)

-- ---- from the answer to the state

no_revoked : (b : Bool) (when : DateTime) (why : CrlReason) → cond b Good Undetermined ≡ Revoked when why → ⊥
no_revoked true when why e = cc
no_revoked false when why e = cc

revoked_by : (mask : Reasons) (o : Option Revocation) (when : DateTime) (why : CrlReason) → status_by mask o ≡ Revoked when why
    → o ≡ Some (record { at = when; reason = why })
revoked_by mask None when why e = absurd (no_revoked (are_all mask) when why e)
revoked_by mask (Some r) when why e =
    let a : r.at ≡ when = cc in
    let b : r.reason ≡ why = cc in
    λ i. Some (record { at = a i; reason = b i })

all_if : (b : Bool) → cond b Good Undetermined ≡ Good → b ≡ true
all_if true e = refl
all_if false e = absurd cc

good_by : (mask : Reasons) (o : Option Revocation) → status_by mask o ≡ Good → (o ≡ None) × (are_all mask ≡ true)
good_by mask None e = (refl, all_if (are_all mask) e)
good_by mask (Some r) e = absurd cc

read_revoked : (b : Bool) (s : RevocationStatus) (when : DateTime) (why : CrlReason) → cond b s Undetermined ≡ Revoked when why → s ≡ Revoked when why
read_revoked true s when why e = e
read_revoked false s when why e = absurd cc

read_good : (b : Bool) (s : RevocationStatus) → cond b s Undetermined ≡ Good → s ≡ Good
read_good true s e = e
read_good false s e = absurd cc

state_revoked : (accepts : Accepts) (x : RevocationInputs) (c : Certificate) (when : DateTime) (why : CrlReason)
    → revocation accepts x c ≡ Revoked when why → (at_end accepts x c).cert_status ≡ Some (record { at = when; reason = why })
unfolding revocation status_among status_at_points status_of
state_revoked accepts x c when why e =
    let s = at_end accepts x c in
    let sound = sound_lists accepts x in
    let few = is_readable_certificate c && nat_le (length sound) most_lists in
    let compared = not (is_too_much (subject_of c).issuer (points_of c) (findings sound x (subject_of c))) in
    let status = status_by s.reasons_mask s.cert_status in
    revoked_by s.reasons_mask s.cert_status when why
    (read_revoked compared status when why (read_revoked few (cond compared status Undetermined) when why e))

pub state_good : (accepts : Accepts) (x : RevocationInputs) (c : Certificate) → revocation accepts x c ≡ Good
    → ((at_end accepts x c).cert_status ≡ None) × (are_all (at_end accepts x c).reasons_mask ≡ true)
unfolding revocation status_among status_at_points status_of
state_good accepts x c e =
    let s = at_end accepts x c in
    let sound = sound_lists accepts x in
    let few = is_readable_certificate c && nat_le (length sound) most_lists in
    let compared = not (is_too_much (subject_of c).issuer (points_of c) (findings sound x (subject_of c))) in
    let status = status_by s.reasons_mask s.cert_status in
    good_by s.reasons_mask s.cert_status (read_good compared status (read_good few (cond compared status Undetermined) e))

-- ---- from what is listed to the entry

record Entry (issuer : Name) (serial : List ℕ) (first : Bool) (es : List RevokedCertificate) (r : Revocation) : Type 0 where
  entry : RevokedCertificate
  before : List RevokedCertificate
  after : List RevokedCertificate
  stands : es ≡ before ++ entry ∷ after
  same : same_integer entry.user_certificate serial ≡ true
  issued : fold (is_of_issuer issuer) first (before ++ entry ∷ []) ≡ true
  says : revocation_by entry ≡ r

later : (issuer : Name) (serial : List ℕ) (first : Bool) (e : RevokedCertificate) (es : List RevokedCertificate) (r : Revocation)
    → Entry issuer serial (is_of_issuer issuer first e) es r → Entry issuer serial first (e ∷ es) r
later issuer serial first e es r k = record {
  entry = k.entry;
  before = e ∷ k.before;
  after = k.after;
  stands = ap (λ (rest : List RevokedCertificate). e ∷ rest) k.stands;
  same = k.same;
  issued = k.issued;
  says = k.says;
}

entry_by : (issuer : Name) (serial : List ℕ) (first : Bool) (e : RevokedCertificate) (es : List RevokedCertificate) (r : Revocation) (b : Bool)
    → is_of_issuer issuer first e && same_integer e.user_certificate serial ≡ b
    → (found issuer serial (is_of_issuer issuer first e) es ≡ Some r → Entry issuer serial (is_of_issuer issuer first e) es r)
    → cond b (Some (revocation_by e)) (found issuer serial (is_of_issuer issuer first e) es) ≡ Some r → Entry issuer serial first (e ∷ es) r
entry_by issuer serial first e es r false h rest k = later issuer serial first e es r (rest k)
entry_by issuer serial first e es r true h rest k = record {
  entry = e;
  before = [];
  after = es;
  stands = refl;
  same = right_of (is_of_issuer issuer first e) (same_integer e.user_certificate serial) h;
  issued = left_of (is_of_issuer issuer first e) (same_integer e.user_certificate serial) h;
  says = cc;
}

entry_of : (issuer : Name) (serial : List ℕ) (first : Bool) (es : List RevokedCertificate) (r : Revocation) → found issuer serial first es ≡ Some r
    → Entry issuer serial first es r
unfolding found
entry_of issuer serial first [] r k = absurd cc
entry_of issuer serial first (e ∷ es) r k =
    entry_by issuer serial first e es r (is_of_issuer issuer first e && same_integer e.user_certificate serial) refl
    (entry_of issuer serial (is_of_issuer issuer first e) es r) k

listed : (c : Certificate) (l : CertificateList) (r : Revocation) → listed_on (subject_of c) l ≡ Some r
    → (e : RevokedCertificate) × IsListed c l e × (revocation_by e ≡ r)
unfolding listed_on subject_of
listed c l r h =
    let first = names_match l.tbs_cert_list.issuer c.tbs_certificate.issuer in
    let k = entry_of c.tbs_certificate.issuer c.tbs_certificate.serial_number first l.tbs_cert_list.revoked_certificates r h in
    (k.entry, record { before = k.before; after = k.after; stands = k.stands; serial = k.same; issuer = k.issued }, k.says)

-- ---- from a delta to its list

-- the delta comes of one of the lists
record Origin (sound : List GivenList) (at : DateTime) (c : Subject) (g : GivenList) (b : Delta) : Type 0 where
  delta : GivenList
  given : Contains sound delta
  used : is_used_delta at g delta ≡ true
  says : b.listed ≡ listed_on c delta.list

abbrev HasOrigin : List GivenList → DateTime → Subject → GivenList → Option Delta → Type 0
HasOrigin sound at c g best = (b : Delta) → best ≡ Some b → Origin sound at c g b

chosen_by : (sound : List GivenList) (at : DateTime) (c : Subject) (g d : GivenList) (number : List ℕ) (best : Option Delta) (b : Bool)
    → Contains sound d → is_used_delta at g d ≡ true → HasOrigin sound at c g best
    → HasOrigin sound at c g (cond b (Some (record { number = number; listed = listed_on c d.list })) best)
chosen_by sound at c g d number best false given used k = k
chosen_by sound at c g d number best true given used k =
    λ b e. record { delta = d; given = given; used = used; says = sym (ap (λ (o : Option Delta). listed_in o) e) }

numbered_by : (sound : List GivenList) (at : DateTime) (c : Subject) (g d : GivenList) (number : Option (List ℕ)) (best : Option Delta)
    → Contains sound d → is_used_delta at g d ≡ true → HasOrigin sound at c g best → HasOrigin sound at c g (newer_of best number (listed_on c d.list))
numbered_by sound at c g d None best given used k = k
numbered_by sound at c g d (Some number) best given used k = chosen_by sound at c g d number best (is_newer number best) given used k

newer_by : (sound : List GivenList) (at : DateTime) (c : Subject) (g : GivenList) (best : Option Delta) (d : GivenList) (b : Bool)
    → Contains sound d → is_used_delta at g d ≡ b → HasOrigin sound at c g best
    → HasOrigin sound at c g (cond b (newer_of best (crl_number d.list) (listed_on c d.list)) best)
newer_by sound at c g best d false given used k = k
newer_by sound at c g best d true given used k = numbered_by sound at c g d (crl_number d.list) best given used k

newer_has : (sound : List GivenList) (at : DateTime) (c : Subject) (g : GivenList) (best : Option Delta) (d : GivenList)
    → Contains sound d → HasOrigin sound at c g best → HasOrigin sound at c g (newer at c g best d)
unfolding newer
newer_has sound at c g best d given k = newer_by sound at c g best d (is_used_delta at g d) given refl k

newest_has : (sound : List GivenList) (at : DateTime) (c : Subject) (g : GivenList) → HasOrigin sound at c g (newest sound at c g)
unfolding newest
newest_has sound at c g =
    fold_keeps (HasOrigin sound at c g) sound (newer at c g) (newer_has sound at c g) sound (λ d there. there) None (λ b e. absurd cc)

-- what is listed in a delta is listed on its list
record DeltaEntry (accepts : Accepts) (x : RevocationInputs) (c : Subject) (g : GivenList) (r : Revocation) : Type 0 where
  delta : GivenList
  given : Contains x.lists delta
  sound : is_sound accepts x.at delta ≡ true
  used : is_used_delta x.at g delta ≡ true
  says : listed_on c delta.list ≡ Some r

from_origin : (accepts : Accepts) (x : RevocationInputs) (c : Subject) (g : GivenList) (r : Revocation) (o : Option Delta)
    → HasOrigin (sound_lists accepts x) x.at c g o → listed_in o ≡ Some r → DeltaEntry accepts x c g r
from_origin accepts x c g r None k e = absurd cc
from_origin accepts x c g r (Some b) k e =
    let at = k b refl in
    let there = from_sound accepts x at.delta at.given in
    record { delta = at.delta; given = there.0; sound = there.1; used = at.used; says = sym at.says ∙ e }

from_asked : (accepts : Accepts) (x : RevocationInputs) (c : Subject) (g : GivenList) (r : Revocation) (b : Bool)
    → listed_in (cond b (newest (sound_lists accepts x) x.at c g) None) ≡ Some r → DeltaEntry accepts x c g r
from_asked accepts x c g r false e = absurd cc
from_asked accepts x c g r true e =
    from_origin accepts x c g r (newest (sound_lists accepts x) x.at c g) (newest_has (sound_lists accepts x) x.at c g) e

from_delta : (accepts : Accepts) (x : RevocationInputs) (c : Subject) (g : GivenList) (r : Revocation)
    → listed_in (delta_for (sound_lists accepts x) x c g) ≡ Some r → DeltaEntry accepts x c g r
unfolding delta_for
from_delta accepts x c g r e = from_asked accepts x c g r (asks_delta x c g.list) e

-- ---- from the status to the list

removed_or : (b : Bool) (q r : Revocation) → cond b None (Some q) ≡ Some r → Some q ≡ Some r
removed_or true q r e = absurd cc
removed_or false q r e = e

was_found : (o : Option Revocation) (r : Revocation) → unless_removed o ≡ Some r → o ≡ Some r
was_found None r e = e
was_found (Some q) r e = removed_or (is_removal q.reason) q r e

one_of : (o p : Option Revocation) (r : Revocation) → option_or o p ≡ Some r → (o ≡ Some r) ⊎ (p ≡ Some r)
one_of None p r e = inr e
one_of (Some q) p r e = inl e

-- the certificate is on the list, or on a delta list
abbrev Stands : Accepts → RevocationInputs → Certificate → GivenList → Revocation → Type 0
Stands accepts x c g r =
    (l : CertificateList) × (e : RevokedCertificate) × ((l ≡ g.list) ⊎ IsApplied accepts x g l) × IsListed c l e × (revocation_by e ≡ r)

stands_by : (accepts : Accepts) (x : RevocationInputs) (c : Certificate) (g : GivenList) (r : Revocation)
    → (listed_in (its_delta accepts x c g) ≡ Some r) ⊎ (listed_on (subject_of c) g.list ≡ Some r) → Stands accepts x c g r
stands_by accepts x c g r (inl e) =
    let d = from_delta accepts x (subject_of c) g r e in
    let k = listed c d.delta.list r d.says in
    (d.delta.list, k.0, inr (record { delta = d.delta; given = d.given; sound = d.sound; is_it = refl; used = d.used }), k.1, k.2)
stands_by accepts x c g r (inr e) =
    let k = listed c g.list r e in
    (g.list, k.0, inl refl, k.1, k.2)

stands : (accepts : Accepts) (x : RevocationInputs) (c : Certificate) (g : GivenList) (r : Revocation)
    → status_on (subject_of c) (its_delta accepts x c g) g.list ≡ Some r → Stands accepts x c g r
unfolding status_on
stands accepts x c g r h =
    let in_delta = listed_in (its_delta accepts x c g) in
    let on_list = listed_on (subject_of c) g.list in
    stands_by accepts x c g r (one_of in_delta on_list r (was_found (option_or in_delta on_list) r h))

-- ---- the laws

pub revoked_listed : RevokedIsListed
revoked_listed accepts x c when why e =
    let r : Revocation = record { at = when; reason = why } in
    let t = (points_sound accepts x c).revoked r (state_revoked accepts x c when why e) in
    let k = stands accepts x c t.g r t.says in
    (t.p, t.g, k.0, k.1, t.used, k.2, k.3, k.4)

pub good_covered : GoodIsCovered
good_covered accepts x c e =
    let k = state_good accepts x c e in
    let clear = (points_sound accepts x c).good k.0 in
    (clear.used, clear.clear, subst (λ (m : Reasons). are_all m ≡ true) clear.all k.1)
