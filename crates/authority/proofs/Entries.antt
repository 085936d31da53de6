-- Entries that can follow one another.
use Rattle.std.specs.Prelude.{◌≡◌, ℕ, zero, suc, ◌<◌, ◌≤◌, ◌^◌, Bool, true, false, nat_eq, nat_lt, ◌==◌, ◌||◌, ◌&&◌, cond, refl}
use Rattle.std.specs.Prelude.{List, [], ◌∷◌, ◌++◌, length, get_or, map, replicate, Option, Some, None, Result, Ok, Err, IfErr, IsErrAnd}
use Rattle.std.specs.Cmp.Lexicographic.{bytes_decides, pointwise}
use Rattle.std.specs.Int.{w64, from_be_bytes, to_be_bytes}
use Rattle.std.specs.Iterator.{Yields}
use Rattle.std.specs.Option.{option_or}
use Rattle.std.specs.Vec.Iter.{into_iter_items, into_iter_steps}
use Rattle.std.specs.declared.vec.IntoIter.{IntoIter}
use Rattle.std.proofs.Common.{sym, ap, subst, ◌∙◌, ⊎_elim, append-nil, append_assoc, arith}
use Rattle.std.proofs.lemmas.Bool.{cases_lt}
use Rattle.std.proofs.lemmas.List.{get_or-replicate, get_or_past, length-append, length-replicate, map-append}
use Rattle.std.proofs.lemmas.Nat.{be_bytes_8}
use Rattle.asn1_core.specs.Binds.{and_true}
use Rattle.rcgen_text.specs.Causes.{cause, origin_of, time}
use Rattle.rcgen_certificate.specs.WrittenTimes.{is_utc}
use Rattle.rcgen_issue.specs.CrlView.{RevokedView, revoked_view}
use Rattle.rcgen_issue.specs.Lists.{has_entry_times, is_utc_if}
use Rattle.rcgen_issue.specs.declared.crl.RevokedCertParams.{RevokedCertParams}
use Rattle.authority.specs.Book.{RefusalCause, State, ExplainsRefusal, already_revoked, entry_cause, first_entry_cause, full, refused, unknown_serial}
use Rattle.authority.specs.Marks.{is_numbered, is_revoked, serial_of}
use Rattle.authority.specs.declared.commands.AuthorityError.{AuthorityError}
use Rattle.authority.specs.declared.commands.AuthorityError.TheVariants as failure
use Rattle.authority.proofs.Marks.{number_of}

neither : {X : Type 0} (a b : Option X) → option_or a b ≡ None → (a ≡ None) × (b ≡ None)
neither None b h = (refl, h)
neither (Some x) b h = absurd cc

-- ---- one more

-- one that can follow those before it
pub entry_behind : (n : ℕ) (others es : List RevokedView) (e : RevokedView) → first_entry_cause n others es ≡ None
    → entry_cause n (others ++ es) e ≡ None → first_entry_cause n others (es ++ e ∷ []) ≡ None
entry_behind n others [] e h k = rw (subst (λ ds. entry_cause n ds e ≡ None) (append-nil others) k) refl
entry_behind n others (d ∷ es) e h k =
    let hs = neither (entry_cause n others d) (first_entry_cause n (others ++ d ∷ []) es) h in
    let rest = entry_behind n (others ++ d ∷ []) es e hs.1 (subst (λ ds. entry_cause n ds e ≡ None) (sym (append_assoc others (d ∷ []) es)) k) in
    rw (hs.0, rest) refl

-- one that can't is the first, whatever follows it
pub first_refused : (n : ℕ) (others es rest : List RevokedView) (e : RevokedView) (c : RefusalCause) → first_entry_cause n others es ≡ None
    → entry_cause n (others ++ es) e ≡ Some c → first_entry_cause n others (es ++ e ∷ rest) ≡ Some c
first_refused n others [] rest e c h k = rw (subst (λ ds. entry_cause n ds e ≡ Some c) (append-nil others) k) refl
first_refused n others (d ∷ es) rest e c h k =
    let hs = neither (entry_cause n others d) (first_entry_cause n (others ++ d ∷ []) es) h in
    let behind = first_refused n (others ++ d ∷ []) es rest e c hs.1
    (subst (λ ds. entry_cause n ds e ≡ Some c) (sym (append_assoc others (d ∷ []) es)) k) in
    rw (hs.0, behind) refl

-- the error of the first that is refused is that of all
pub first_explained : (n : ℕ) (es rest : List RevokedView) (e : RevokedView) (t : AuthorityError) → first_entry_cause n [] es ≡ None
    → ExplainsRefusal (entry_cause n es e) t → ExplainsRefusal (first_entry_cause n [] (es ++ e ∷ rest)) t
first_explained n es rest e failure.Full h w = first_refused n [] es rest e full h w
first_explained n es rest e failure.UnknownSerial h w = first_refused n [] es rest e unknown_serial h w
first_explained n es rest e failure.AlreadyRevoked h w = first_refused n [] es rest e already_revoked h w
first_explained n es rest e (failure.Refused x) h w = first_refused n [] es rest e (refused (origin_of x)) h w
first_explained n es rest e failure.OutOfMemory h w = tt

-- the error of one that is refused after those of a state, passed on
pub refused_behind : {T : Type 0} (r : Result T AuthorityError) (t : AuthorityError) (old : State) (n : ℕ) (es all rest : List RevokedView)
    (e : RevokedView) → IsErrAnd r (λ u. u ≡ t) → all ≡ es ++ e ∷ rest → old.issued ≡ n → old.entries ≡ es
    → first_entry_cause old.issued [] old.entries ≡ None → ExplainsRefusal (entry_cause old.issued old.entries e) t
    → IfErr r (ExplainsRefusal (first_entry_cause n [] all))
refused_behind (Ok x) t old n es all rest e same place issued entries none why = tt
refused_behind (Err u) t old n es all rest e same place issued entries none why =
    rw (same, place, ← issued, ← entries) (first_explained old.issued old.entries rest e t none why)

-- what the iterator of a vector has given is a front of its items
taken_front : {X Z : Type 0} (s : IntoIter X Z) (xs : List X) (t : IntoIter X Z) → Yields into_iter_steps s xs t
    → into_iter_items s ≡ xs ++ into_iter_items t
taken_front s [] t y = ap into_iter_items y
taken_front {X} s (x ∷ xs) t y = y.1.0 ∙ ap (λ (ys : List X). x ∷ ys) (taken_front y.0 xs t y.2)

pub taken_from : {Z : Type 0} (all taken : List RevokedCertParams) (s t u : IntoIter RevokedCertParams Z) (x : RevokedCertParams)
    → into_iter_items s ≡ all → Yields into_iter_steps s taken t → into_iter_steps t (Some x) u
    → map revoked_view all ≡ map revoked_view taken ++ revoked_view x ∷ map revoked_view (into_iter_items u)
taken_from all taken s t u x whole given next =
    ap (map revoked_view) (sym whole ∙ taken_front s taken t given ∙ ap (λ (xs : List RevokedCertParams). taken ++ xs) next.0)
    ∙ map-append revoked_view taken (x ∷ into_iter_items u)

-- ---- more certificates

raised : (b c d : Bool) (x y : Option RefusalCause) (u : RefusalCause) → (c ≡ false → d ≡ false)
    → cond b (option_or (cond c (Some u) x) y) (Some u) ≡ None → cond b (option_or (cond d (Some u) x) y) (Some u) ≡ None
raised true true d x y u k h = absurd cc
raised true false d x y u k h = rw (k refl) h
raised false c d x y u k h = absurd cc

still_known : (serial n m : ℕ) → n ≤ m → (serial == 0 || nat_lt n serial) ≡ false → (serial == 0 || nat_lt m serial) ≡ false
still_known serial n m l h = grind (arith, l)

pub more_issued : (n m : ℕ) (others es : List RevokedView) → n ≤ m → first_entry_cause n others es ≡ None → first_entry_cause m others es ≡ None
more_issued n m others [] l h = refl
more_issued n m others (e ∷ es) l h =
    let hs = neither (entry_cause n others e) (first_entry_cause n (others ++ e ∷ []) es) h in
    let one : entry_cause m others e ≡ None =
    raised (is_numbered e) _ _ _ _ unknown_serial (still_known (serial_of e) n m l) hs.0 in
    rw (one, more_issued n m (others ++ e ∷ []) es l hs.1) refl

-- ---- the tests of one

pub numbered : (e : RevokedView) (serial : ℕ) → e.serial_number ≡ to_be_bytes w64 serial → serial < 2 ^ 64 → is_numbered e ≡ true
numbered e serial octets short =
    (bytes_decides e.serial_number (to_be_bytes w64 (serial_of e))).1 (octets ∙ ap (to_be_bytes w64) (sym (number_of e serial octets short)))

pub entry_taken : (n : ℕ) (others : List RevokedView) (e : RevokedView) (serial : ℕ) → e.serial_number ≡ to_be_bytes w64 serial → serial < 2 ^ 64
    → (serial == 0 || nat_lt n serial) ≡ false → is_revoked serial others ≡ false → has_entry_times e ≡ true → entry_cause n others e ≡ None
entry_taken n others e serial octets short known unrevoked times =
    let same = sym (number_of e serial octets short) in
    let ts = and_true (is_utc e.revocation_time) (is_utc_if e.invalidity_date) times in
    rw (
      numbered e serial octets short,
      subst (λ s. (s == 0 || nat_lt n s) ≡ false) same known,
      subst (λ s. is_revoked s others ≡ false) same unrevoked,
      ts.0,
      ts.1,
    ) refl

-- what is read of its octets
pub read_serial : (b : Bool) (n m : ℕ) → cond b (Some n) None ≡ Some m → (b ≡ true) × (n ≡ m)
read_serial true n m h = (refl, cc)
read_serial false n m h = absurd cc

pub unread_serial : (b : Bool) (n : ℕ) → cond b (Some n) None ≡ None → b ≡ false
unread_serial true n h = absurd cc
unread_serial false n h = refl

no_time : (t i : Bool) → (t && i) ≡ false → option_or (cond t None (Some (refused (cause time)))) (cond i None (Some (refused (cause time))))
    ≡ Some (refused (cause time))
no_time false i h = refl
no_time true false h = refl
no_time true true h = absurd cc

pub entry_untimely : (n : ℕ) (others : List RevokedView) (e : RevokedView) → is_numbered e ≡ true
    → (serial_of e == 0 || nat_lt n (serial_of e)) ≡ false → is_revoked (serial_of e) others ≡ false → has_entry_times e ≡ false
    → entry_cause n others e ≡ Some (refused (cause time))
entry_untimely n others e numbered known unrevoked times =
    rw (numbered, known, unrevoked) (no_time (is_utc e.revocation_time) (is_utc_if e.invalidity_date) times)

-- ---- marks

pub unmarked : (count n : ℕ) → get_or (replicate count false) n false ≡ false
unmarked count n =
    ⊎_elim (λ l. get_or-replicate count n false false l) (λ l. get_or_past (replicate count false) n false (subst (λ k. k ≤ n) (sym (length-replicate count false)) l))
    (cases_lt n count)

-- a certificate more, which isn't revoked
pub none_behind : (marks : List Bool) (n : ℕ) → get_or (marks ++ false ∷ []) n false ≡ get_or marks n false
none_behind [] zero = refl
none_behind [] (suc n) = refl
none_behind (m ∷ marks) zero = refl
none_behind (m ∷ marks) (suc n) = none_behind marks n

pub one_issued : (marks : List Bool) (es : List RevokedView) → first_entry_cause (length marks) [] es ≡ None
    → first_entry_cause (length (marks ++ false ∷ [])) [] es ≡ None
one_issued marks es h =
    let more = length-append marks (false ∷ []) in
    more_issued (length marks) (length (marks ++ false ∷ [])) [] es (omega (arith, more)) h

-- ---- the octets of a number

pub octets_are : (bytes : List ℕ) → length bytes ≡ 8 → ((i : ℕ) → get_or bytes i 0 < 256)
    → pointwise nat_eq bytes (to_be_bytes w64 (from_be_bytes w64 bytes)) ≡ true
octets_are bytes count fit = (bytes_decides bytes (to_be_bytes w64 (from_be_bytes w64 bytes))).1 (sym (be_bytes_8 bytes (from_be_bytes w64 bytes) count fit refl))
