-- The laws of a record.
use Rattle.std.specs.Str.{bytes_eq}
use Rattle.std.proofs.lemmas.List.Elements.{Contains-append_left, Contains-push}
use Rattle.std.proofs.Common.{append-nil, ◌≡◌, ◌≤◌, ◌+◌, inl, inr, ◌↔◌, ℕ, suc, length, nat_eq, Ok, Err, ℤ, Bool, true, false, ◌&&◌, cond, nat_lt, List, [], ◌∷◌, ◌++◌, append_assoc, Option, Some, None, is_none, is_some, refl, sym, ap, subst, ◌∙◌, arith, true≢false}
use Rattle.std.specs.List.{Contains, list_any}
use Rattle.std.specs.Option.{option_map, option_or}
use Rattle.std.proofs.lemmas.Bool.{and_parts, both_ways, eqb-true, lt-ltb}
use Rattle.register_record.specs.Following.{end_of_numbers, fault_if, final_fault, is_hold, is_on_hold, is_revoked, issued_fault, list_fault, may_follow, may_go_on, revoked_fault}
use Rattle.register_record.specs.Decisions.{decided, is_ahead, list_decided, next_fault, next_number, unless, unless_ahead}
use Rattle.register_record.specs.Laws.{AreSerials, CountsEvents, ListedNow, ListedOnce, ListsOnce, NothingAhead, ReleasedIsOff, SealsReservedLists, is_of, revokes, FinalStaysListed, IssuesWhatWasReserved, KeepsOctets, ListsTheRevoked, NextMayFollow, NumbersRise, ReleasedInDelta, ReservesOnce, RevokedInDelta, SealsOnce, StaysListed, TakenMayFollow, ends_hold, has_later_list}
use Rattle.register_record.specs.Lists.{entry, entries, in_complete, in_delta, in_list, is_new, is_off}
use Rattle.register_record.specs.Records.{State, after, changed_to, found, in_place_of, made_final, nothing, number_of, record_of, run, sealed_as}
use Rattle.register_record.specs.declared.event.Event.{Event}
use Rattle.register_record.specs.declared.event.Event.TheVariants as event
use Rattle.register_record.specs.declared.event.Kind.{Kind}
use Rattle.register_record.specs.declared.event.ListKind.TheVariants.{Complete, Delta}
use Rattle.register_record.specs.declared.event.Revocation.{Revocation}
use Rattle.register_record.specs.declared.refusal.Refusal.{Refusal}
use Rattle.register_record.specs.declared.refusal.Refusal.TheVariants as refusal
use Rattle.register_record.specs.declared.state.Base.{Base}
use Rattle.register_record.specs.declared.state.Certificate.{Certificate}
use Rattle.register_record.specs.declared.state.Change.{Change}
use Rattle.register_record.specs.declared.state.Change.TheVariants.{Revoked, Released}
use Rattle.register_record.specs.declared.state.Content.{Content}
use Rattle.register_record.specs.declared.state.Content.TheVariants.{Pending, Sealed}
use Rattle.register_record.proofs.Found.{allowed, allowed_is, found_after, found_serial, fresh, moved, reserved_says, same_bytes, self_same}
use Rattle.register_record.proofs.Runs.{after_sealing, end_stays, final_there, goes_behind, if_allowed, is_among, issued_run, released_there, reserved_once, run_behind, sealed_once, stays_sealed, still, traced}
use Rattle.register_record.proofs.Steps.{sealing_says}
use Rattle.register_record.proofs.Counts.{at_most, once_run, released_unlisted, times}
use Rattle.register_record.proofs.ListsHold.{list_reserved_before, list_reserved_once, list_sealed_once, list_traced}
use Rattle.register_record.proofs.Bases.{base_below, held_at_first, held_back, new_since, rises, BaseBelow}
use Rattle.register_record.proofs.Told.{listed_was_revoked, told_run}

pub reserves_once : ReservesOnce
reserves_once es serial ok = reserved_once serial nothing es ok

pub seals_once : SealsOnce
seals_once es serial ok = sealed_once serial nothing es ok

pub issues_what_was_reserved : IssuesWhatWasReserved
issues_what_was_reserved before later serial octets ok =
    let s = run nothing before in
    let rest = goes_behind nothing before (event.Sealed serial octets ∷ later) ok in
    let may = and_parts (may_follow s (event.Sealed serial octets)) (may_go_on (after s (event.Sealed serial octets)) later) rest.1 in
    sealing_says before serial octets (found serial s.certificates) (traced [] serial nothing before tt) may.0

pub keeps_octets : KeepsOctets
keeps_octets before later serial octets ok =
    let s = run nothing before in
    let e = event.Sealed serial octets in
    let rest = goes_behind nothing before (e ∷ later) ok in
    let may = and_parts (may_follow s e) (may_go_on (after s e) later) rest.1 in
    subst (λ (x : State). option_map (λ c. c.content) (found serial x.certificates) ≡ Some (Sealed octets)) (sym (run_behind nothing before (e ∷ later)))
    (stays_sealed serial octets (after s e) later (after_sealing serial octets s may.0) may.1)

pub numbers_rise : NumbersRise
numbers_rise before between later m n j k a b c d x y ok =
    let s = run nothing before in
    let e = event.ListReserved m j a b x in
    let rest = goes_behind nothing before (e ∷ (between ++ event.ListReserved n k c d y ∷ later))
    (subst (λ all. may_go_on nothing all ≡ true) (append_assoc before (e ∷ between) (event.ListReserved n k c d y ∷ later)) ok) in
    let may = and_parts (may_follow s e) (may_go_on (after s e) (between ++ event.ListReserved n k c d y ∷ later)) rest.1 in
    rises m (after s e) between later n k c d y (omega arith) may.1

pub lists_the_revoked : ListsTheRevoked
lists_the_revoked es kind e ok among =
    listed_was_revoked es kind (record_of es).base (record_of es).certificates e (told_run [] nothing es tt ok) among

-- ---- what a revocation leaves

-- the certificate that may be revoked is issued
revoked_there : (o : Option Certificate) → is_none (fault_if revoked_fault o) ≡ true
    → (c : Certificate) × (octets : List ℕ) × (o ≡ Some c) × (c.content ≡ Sealed octets)
revoked_there None ok = absurd (true≢false (sym ok))
revoked_there (Some c) ok = go c.content refl
  where
    go : (content : Content) → c.content ≡ content → (d : Certificate) × (octets : List ℕ) × (Some c ≡ Some d) × (d.content ≡ Sealed octets)
    go (Pending message) is = absurd (true≢false (sym (subst (λ x. is_none (option_or (issued_fault x) (cond (is_revoked c.change)
        (Some refusal.AlreadyRevoked) None)) ≡ true) is ok)))
    go (Sealed octets) is = (c, octets, refl, is)

after_revocation : (q : List ℕ) (s : State) (r : Revocation) (c : Certificate) → found q s.certificates ≡ Some c
    → found q (after s (event.Revoked q r)).certificates ≡ Some (changed_to (Revoked r) (number_of s.last) c)
after_revocation q s r c at = found_after q s (event.Revoked q r) ∙ rw (at, self_same q) refl

-- what was revoked stays as it is to the end
revoked_at_end : (q : List ℕ) (s : State) (r : Revocation) (later : List Event) → may_go_on s (event.Revoked q r ∷ later) ≡ true
    → list_any (ends_hold q) later ≡ false
    → (c : Certificate) × (found q s.certificates ≡ Some c) × (found q (run s (event.Revoked q r ∷ later)).certificates ≡ Some (changed_to (Revoked r)
    (number_of s.last) c))
revoked_at_end q s r later ok isnt =
    let e = event.Revoked q r in
    let may = and_parts (may_follow s e) (may_go_on (after s e) later) ok in
    let there = revoked_there (found q s.certificates) may.0 in (
      there.0,
      there.2,
      still q there.1 (changed_to (Revoked r) (number_of s.last) there.0) (after s e) later
          (after_revocation q s r there.0 there.2) there.3 may.1 (inr refl) (inl isnt),
    )

complete_has : (base : Option Base) (q : List ℕ) (end : ℤ) (since : ℕ) (r : Revocation) → is_off base since end ≡ false
    → in_complete base q end since (Some (Revoked r)) ≡ Some (entry q (Revoked r))
complete_has base q end since r off = rw off refl

delta_has : (base : Option Base) (q : List ℕ) (since : ℕ) (change : Change) → is_new base since ≡ true
    → in_delta base q since (Some change) ≡ Some (entry q change)
delta_has base q since change new = rw new refl

fresh_end : (q : List ℕ) (n : ℕ) (o : Option Certificate) (kind : Kind) (end : ℤ) (message : List ℕ) → o ≡ None
    → option_map (λ x. x.not_after) (moved q n o (event.Reserved q kind end message)) ≡ Some end
fresh_end q n o kind end message none = rw (none, self_same q) refl

not_there : (s : State) (q : List ℕ) (kind : Kind) (end : ℤ) (message : List ℕ) → may_follow s (event.Reserved q kind end message) ≡ true
    → found q s.certificates ≡ None
not_there s q kind end message ok = (reserved_says s q ok).1

-- a certificate whose number was reserved ends when that says, and the base is not above the last list
reserved_before : (before between rest : List Event) (q : List ℕ) (kind : Kind) (end : ℤ) (message : List ℕ)
    → may_go_on nothing ((before ++ event.Reserved q kind end message ∷ between) ++ rest) ≡ true
    → (option_map (λ x. x.not_after) (found q (run nothing (before ++ event.Reserved q kind end message ∷ between)).certificates) ≡ Some end)
    × BaseBelow (run nothing (before ++ event.Reserved q kind end message ∷ between)).base
    (number_of (run nothing (before ++ event.Reserved q kind end message ∷ between)).last)
    × (may_go_on (run nothing (before ++ event.Reserved q kind end message ∷ between)) rest ≡ true)
reserved_before before between rest q kind end message ok =
    let first = event.Reserved q kind end message in
    let s0 = run nothing before in
    let front = goes_behind nothing (before ++ first ∷ between) rest ok in
    let one = goes_behind nothing before (first ∷ between) front.0 in
    let two = and_parts (may_follow s0 first) (may_go_on (after s0 first) between) one.1 in
    let ended : option_map (λ x. x.not_after) (found q (run (after s0 first) between).certificates) ≡ Some end =
    end_stays q end (after s0 first) between
    (ap (option_map (λ x. x.not_after)) (found_after q s0 first)
    ∙ fresh_end q (number_of s0.last) (found q s0.certificates) kind end message (not_there s0 q kind end message two.0)) in (
      subst (λ (x : State). option_map (λ y. y.not_after) (found q x.certificates) ≡ Some end) (sym (run_behind nothing before (first ∷ between))) ended,
      base_below nothing (before ++ first ∷ between) tt front.0,
      front.1,
    )

-- what is revoked at the end has its entry, where no later list was sealed
listed_at_end : (q : List ℕ) (r : Revocation) (c : Certificate) (s : State) (later : List Event) (end : ℤ) → BaseBelow s.base (number_of s.last)
    → may_go_on s later ≡ true → has_later_list end later ≡ false → c.serial ≡ q → c.not_after ≡ end
    → found q (run s later).certificates ≡ Some (changed_to (Revoked r) (number_of s.last) c)
    → Contains (entries Complete (run s later)) (entry q (Revoked r))
listed_at_end q r c s later end below ok none serial at_end there =
    let last = run s later in
    let off : is_off last.base (number_of s.last) end ≡ false = held_back (number_of s.last) end s later (held_at_first s end later below none) ok in
    let d = changed_to (Revoked r) (number_of s.last) c in
    let has : in_list Complete last.base d ≡ Some (entry q (Revoked r)) =
    subst (λ x. in_complete last.base x c.not_after (number_of s.last) (Some (Revoked r)) ≡ Some (entry q (Revoked r))) (sym serial)
    (subst (λ x. in_complete last.base q x (number_of s.last) (Some (Revoked r)) ≡ Some (entry q (Revoked r))) (sym at_end)
    (complete_has last.base q end (number_of s.last) r off)) in
    is_among (in_list Complete last.base) q last.certificates d (entry q (Revoked r)) there has

some_end : (o : Option Certificate) (c : Certificate) (end : ℤ) → o ≡ Some c → option_map (λ x. x.not_after) o ≡ Some end → c.not_after ≡ end
some_end o c end at is = let w : Some c.not_after ≡ Some end = ap (option_map (λ x. x.not_after)) (sym at) ∙ is in cc

pub stays_listed : StaysListed
stays_listed before between later q r kind end message ok isnt none =
    let past = before ++ event.Reserved q kind end message ∷ between in
    let e = event.Revoked q r in
    let s = run nothing past in
    let known = reserved_before before between (e ∷ later) q kind end message ok in
    let may = and_parts (may_follow s e) (may_go_on (after s e) later) known.2 in
    let c = revoked_at_end q s r later known.2 isnt in
    subst (λ (x : State). Contains (entries Complete x) (entry q (Revoked r))) (sym (run_behind nothing past (e ∷ later)))
    (listed_at_end q r c.0 (after s e) later end known.1 may.1 none (found_serial q s.certificates c.0 c.1)
    (some_end (found q s.certificates) c.0 end c.1 known.0) c.2)

pub revoked_in_delta : RevokedInDelta
revoked_in_delta before later q r b ok isnt base within =
    let e = event.Revoked q r in
    let s = run nothing before in
    let rest = goes_behind nothing before (e ∷ later) ok in
    let c = revoked_at_end q s r later rest.1 isnt in
    let last = run s (e ∷ later) in
    let whole : run nothing (before ++ e ∷ later) ≡ last = run_behind nothing before (e ∷ later) in
    let based : last.base ≡ Some b = ap (λ (x : State). x.base) (sym whole) ∙ base in
    let d = changed_to (Revoked r) (number_of s.last) c.0 in
    let serial : c.0.serial ≡ q = found_serial q s.certificates c.0 c.1 in
    let has : in_list Delta last.base d ≡ Some (entry q (Revoked r)) =
    subst (λ x. in_delta last.base x (number_of s.last) (Some (Revoked r)) ≡ Some (entry q (Revoked r))) (sym serial)
    (delta_has last.base q (number_of s.last) (Revoked r) (new_since last.base b (number_of s.last) based within)) in
    subst (λ (x : State). Contains (entries Delta x) (entry q (Revoked r))) (sym whole)
    (is_among (in_list Delta last.base) q last.certificates d (entry q (Revoked r)) c.2 has)

after_release : (q : List ℕ) (s : State) (time : ℤ) (c : Certificate) → found q s.certificates ≡ Some c
    → found q (after s (event.Released q time)).certificates ≡ Some (changed_to (Released time) (number_of s.last) c)
after_release q s time c at = found_after q s (event.Released q time) ∙ rw (at, self_same q) refl

-- what was released stays as it is to the end
released_at_end : (q : List ℕ) (before later : List Event) (time : ℤ) → may_go_on nothing (before ++ event.Released q time ∷ later) ≡ true
    → list_any (revokes q) later ≡ false
    → (c : Certificate) × (found q (run nothing before).certificates ≡ Some c) × (found q (run (run nothing before) (event.Released q time ∷ later)).certificates
    ≡ Some (changed_to (Released time) (number_of (run nothing before).last) c))
released_at_end q before later time ok isnt =
    let e = event.Released q time in
    let s = run nothing before in
    let rest = goes_behind nothing before (e ∷ later) ok in
    let may = and_parts (may_follow s e) (may_go_on (after s e) later) rest.1 in
    let c = released_there (found q s.certificates) (issued_run q nothing before tt rest.0) may.0 in
    let d = changed_to (Released time) (number_of s.last) c.0 in
    (c.0, c.2, still q c.1 d (after s e) later (after_release q s time c.0 c.2) c.3 may.1 (inl isnt) (inr refl))

pub released_is_off : ReleasedIsOff
released_is_off before later q time ok isnt =
    let e = event.Released q time in
    let s = run nothing before in
    let c = released_at_end q before later time ok isnt in
    let d = changed_to (Released time) (number_of s.last) c.0 in
    let last = run s (e ∷ later) in
    let whole : run nothing (before ++ e ∷ later) ≡ last = run_behind nothing before (e ∷ later) in
    let once : times q last.certificates ≤ 1 =
    subst (λ (x : State). times q x.certificates ≤ 1) whole (once_run q nothing (before ++ e ∷ later) (omega arith) ok) in
    subst (λ (x : State). list_any (is_of q) (entries Complete x) ≡ false) (sym whole)
    (released_unlisted last.base q last.certificates d time once c.2 refl)

pub released_in_delta : ReleasedInDelta
released_in_delta before later q time b ok isnt base within =
    let e = event.Released q time in
    let s = run nothing before in
    let c = released_at_end q before later time ok isnt in
    let d = changed_to (Released time) (number_of s.last) c.0 in
    let last = run s (e ∷ later) in
    let whole : run nothing (before ++ e ∷ later) ≡ last = run_behind nothing before (e ∷ later) in
    let at_end : found q last.certificates ≡ Some d = c.2 in
    let based : last.base ≡ Some b = ap (λ (x : State). x.base) (sym whole) ∙ base in
    let serial : c.0.serial ≡ q = found_serial q s.certificates c.0 c.1 in
    let has : in_list Delta last.base d ≡ Some (entry q (Released time)) =
    subst (λ x. in_delta last.base x (number_of s.last) (Some (Released time)) ≡ Some (entry q (Released time))) (sym serial)
    (delta_has last.base q (number_of s.last) (Released time) (new_since last.base b (number_of s.last) based within)) in
    subst (λ (x : State). Contains (entries Delta x) (entry q (Released time))) (sym whole)
    (is_among (in_list Delta last.base) q last.certificates d (entry q (Released time)) at_end has)

-- ---- once each

pub are_serials : AreSerials
are_serials before later serial kind end message ok =
    let s = run nothing before in
    let e = event.Reserved serial kind end message in
    let rest = goes_behind nothing before (e ∷ later) ok in
    (reserved_says s serial (and_parts (may_follow s e) (may_go_on (after s e) later) rest.1).0).0

pub listed_once : ListedOnce
listed_once es kind serial ok =
    let s = record_of es in
    let once = once_run serial nothing es (omega arith) ok in
    let most = at_most kind s.base serial s.certificates in
    omega (arith, once, most)

pub lists_once : ListsOnce
lists_once es n ok = (list_reserved_once n nothing es ok, list_sealed_once n nothing es ok)

pub seals_reserved_lists : SealsReservedLists
seals_reserved_lists before later number octets ok =
    let s = run nothing before in
    let e = event.ListSealed number octets in
    let rest = goes_behind nothing before (e ∷ later) ok in
    let may = and_parts (may_follow s e) (may_go_on (after s e) later) rest.1 in
    list_reserved_before before number octets s.last (list_traced [] nothing before tt) may.0

-- ---- the next list

count_run : (s : State) (es : List Event) → (run s es).count ≡ s.count + length es
count_run s [] = omega arith
count_run s (e ∷ es) = let rest = count_run (after s e) es in omega (arith, rest)

pub counts_events : CountsEvents
counts_events es = let whole = count_run nothing es in omega (arith, whole)

none_left : (more : List Event) → length more ≡ 0 → more ≡ []
none_left [] h = refl
none_left (e ∷ es) h = absurd (omega (arith, h))

pub listed_now : ListedNow
listed_now before more list now message e made is =
    let s = record_of before in
    let whole : run nothing (before ++ more) ≡ run s more = run_behind nothing before more in
    let same : list.count ≡ (record_of (before ++ more)).count = go (nat_eq list.count (record_of (before ++ more)).count) refl is in
    let counted : (record_of (before ++ more)).count ≡ s.count + length more = ap (λ (x : State). x.count) whole ∙ count_run s more in
    none_left more (omega (arith, made, same, counted))
  where
    go : (b : Bool) → nat_eq list.count (record_of (before ++ more)).count ≡ b
        → cond b (decided now (next_fault list.kind list.this_update list.next_update (record_of (before ++ more)))
        (event.ListReserved (next_number (record_of (before ++ more))) list.kind list.this_update list.next_update message)) (Err refusal.Stale) ≡ Ok e
        → list.count ≡ (record_of (before ++ more)).count
    go true test is = eqb-true list.count (record_of (before ++ more)).count test
    go false test is = absurd (cc)

pub nothing_ahead : NothingAhead
nothing_ahead now fault e f is =
    let says = go fault (is_ahead now e) is in (says.0, ap (is_ahead now) says.0 ∙ says.1)
  where
    go : (o : Option Refusal) (b : Bool) → unless (unless_ahead b o) e ≡ Ok f → (f ≡ e) × (b ≡ false)
    go None true is = absurd (cc)
    go None false is = (cc, refl)
    go (Some why) b is = absurd (cc)

next_may : (x : Bool) (o : Option Refusal) → (cond x o (Some refusal.Full) ≡ None) ↔ ((x && is_none o) ≡ true)
next_may true None = (λ _. refl, λ _. refl)
next_may true (Some why) = (λ e. absurd (cc), λ e. absurd (true≢false (sym e)))
next_may false o = (λ e. absurd (cc), λ e. absurd (true≢false (sym e)))

pub next_may_follow : NextMayFollow
next_may_follow s kind this_update next_update message =
    rw (lt-ltb (number_of s.last) (suc (number_of s.last)) (omega arith))
    (next_may (nat_lt (suc (number_of s.last)) end_of_numbers) (list_fault kind this_update next_update s))

taken_may : (x y : Bool) (o : Option Refusal)
    → (cond x (cond y o (Some refusal.Full)) (Some refusal.OldNumber) ≡ None) ↔ ((x && y && is_none o) ≡ true)
taken_may true true None = (λ _. refl, λ _. refl)
taken_may true true (Some why) = (λ e. absurd (cc), λ e. absurd (true≢false (sym e)))
taken_may true false o = (λ e. absurd (cc), λ e. absurd (true≢false (sym e)))
taken_may false y o = (λ e. absurd (cc), λ e. absurd (true≢false (sym e)))

pub taken_may_follow : TakenMayFollow
taken_may_follow s number this_update next_update message =
    taken_may (nat_lt (number_of s.last) number) (nat_lt number end_of_numbers) (list_fault Complete this_update next_update s)

-- ---- a hold that is made final

-- the hold that an entry has was recorded
abbrev pub HoldTold : List Event → List ℕ → Option Change → Type 0
HoldTold past q None = Unit {0}
HoldTold past q (Some (Released time)) = Unit {0}
HoldTold past q (Some (Revoked h)) = is_hold h.reason ≡ true → Contains past (event.Revoked q h)

abbrev pub Held : List Event → List ℕ → Option Certificate → Type 0
Held past q None = Unit {0}
Held past q (Some c) = HoldTold past q c.change

hold_on : (past : List Event) (e : Event) (q : List ℕ) (o : Option Change) → HoldTold past q o → HoldTold (past ++ e ∷ []) q o
hold_on past e q None h = tt
hold_on past e q (Some (Released time)) h = tt
hold_on past e q (Some (Revoked r)) h = λ is. Contains-append_left past (e ∷ []) (event.Revoked q r) (h is)

held_on : (past : List Event) (e : Event) (q : List ℕ) (o : Option Certificate) → Held past q o → Held (past ++ e ∷ []) q o
held_on past e q None h = tt
held_on past e q (Some c) h = hold_on past e q c.change h

held_cond : (past : List Event) (q : List ℕ) (b : Bool) (f : Certificate → Certificate) (o : Option Certificate)
    → ((c : Certificate) → o ≡ Some c → b ≡ true → HoldTold past q c.change → HoldTold past q (f c).change) → Held past q o
    → Held past q (cond b (option_map f o) o)
held_cond past q true f None step h = h
held_cond past q true f (Some c) step h = step c refl refl h
held_cond past q false f o step h = h

-- the reason that makes final is no hold
pub final_says : (o : Option Certificate) (c : Certificate) (r : Revocation) → o ≡ Some c → is_none (fault_if (final_fault r) o) ≡ true
    → (is_on_hold c.change ≡ true) × (is_hold r.reason ≡ false)
final_says o c r at ok = go (is_on_hold c.change) (is_hold r.reason) (subst (λ x. is_none (fault_if (final_fault r) x) ≡ true) at ok)
  where
    go : (a b : Bool) → is_none (cond a (cond b (Some refusal.AlreadyOnHold) None) (Some refusal.NotOnHold)) ≡ true → (a ≡ true) × (b ≡ false)
    go true true e = absurd (true≢false (sym e))
    go true false e = (refl, refl)
    go false b e = absurd (true≢false (sym e))

same_reason : (o : Option Change) (r : Revocation) → (in_place_of o r).reason ≡ r.reason
same_reason None r = refl
same_reason (Some (Released time)) r = refl
same_reason (Some (Revoked h)) r = refl

revoked_here : (past : List Event) (serial q : List ℕ) (r : Revocation) → bytes_eq serial q ≡ true
    → Contains (past ++ event.Revoked serial r ∷ []) (event.Revoked q r)
revoked_here past serial q r is =
    subst (λ x. Contains (past ++ event.Revoked serial r ∷ []) (event.Revoked x r)) (same_bytes serial q is) (Contains-push past (event.Revoked serial r))

held_step : (past : List Event) (q : List ℕ) (n : ℕ) (o : Option Certificate) (e : Event) → Held past q o → allowed q o e ≡ true
    → Held (past ++ e ∷ []) q (moved q n o e)
held_step past q n o (event.Issuer certificate) h ok = held_on past (event.Issuer certificate) q o h
held_step past q n None (event.Reserved serial kind not_after message) h ok = go (bytes_eq serial q)
  where
    go : (b : Bool) → Held (past ++ event.Reserved serial kind not_after message ∷ []) q (cond b (Some (fresh serial kind not_after message)) None)
    go true = tt
    go false = tt
held_step past q n (Some c) (event.Reserved serial kind not_after message) h ok = held_on past (event.Reserved serial kind not_after message) q (Some c) h
held_step past q n o (event.Sealed serial octets) h ok =
    let e = event.Sealed serial octets in held_cond (past ++ e ∷ []) q (bytes_eq serial q) (sealed_as octets) o (λ _ _ _ x. x) (held_on past e q o h)
held_step past q n o (event.Revoked serial r) h ok =
    let e = event.Revoked serial r in
    held_cond (past ++ e ∷ []) q (bytes_eq serial q) (changed_to (Revoked r) n) o (λ _ _ is _ _. revoked_here past serial q r is) (held_on past e q o h)
held_step past q n o (event.MadeFinal serial r) h ok =
    let e = event.MadeFinal serial r in
    held_cond (past ++ e ∷ []) q (bytes_eq serial q) (made_final r n) o
    (λ c at is _ hold. absurd (both_ways (is_hold r.reason)
    (final_says o c r at (if_allowed (bytes_eq serial q) (is_none (fault_if (final_fault r) o)) ok is)).1
    (subst (λ x. is_hold x ≡ true) (same_reason c.change r) hold))) (held_on past e q o h)
held_step past q n o (event.Released serial time) h ok =
    let e = event.Released serial time in
    held_cond (past ++ e ∷ []) q (bytes_eq serial q) (changed_to (Released time) n) o (λ _ _ _ _. tt) (held_on past e q o h)
held_step past q n o (event.ListReserved number kind a b message) h ok = held_on past (event.ListReserved number kind a b message) q o h
held_step past q n o (event.ListSealed number octets) h ok = held_on past (event.ListSealed number octets) q o h

held_run : (past : List Event) (q : List ℕ) (s : State) (es : List Event) → Held past q (found q s.certificates) → may_go_on s es ≡ true
    → Held (past ++ es) q (found q (run s es).certificates)
held_run past q s [] h ok = rw append-nil h
held_run past q s (e ∷ es) h ok =
    let both = and_parts (may_follow s e) (may_go_on (after s e) es) ok in
    subst (λ all. Held all q (found q (run (after s e) es).certificates)) (append_assoc past (e ∷ []) es)
    (held_run (past ++ e ∷ []) q (after s e) es
    (subst (λ o. Held (past ++ e ∷ []) q o) (sym (found_after q s e)) (held_step past q (number_of s.last) (found q s.certificates) e h
    (allowed_is q s e both.0))) both.1)

after_final : (q : List ℕ) (s : State) (r : Revocation) (c : Certificate) → found q s.certificates ≡ Some c
    → found q (after s (event.MadeFinal q r)).certificates ≡ Some (made_final r (number_of s.last) c)
after_final q s r c at = found_after q s (event.MadeFinal q r) ∙ rw (at, self_same q) refl

-- what is on hold has the hold's revocation
on_hold_is : (past : List Event) (q : List ℕ) (o : Option Change) → HoldTold past q o → is_on_hold o ≡ true
    → (h : Revocation) × (o ≡ Some (Revoked h)) × (is_hold h.reason ≡ true) × Contains past (event.Revoked q h)
on_hold_is past q None told is = absurd (true≢false (sym is))
on_hold_is past q (Some (Released time)) told is = absurd (true≢false (sym is))
on_hold_is past q (Some (Revoked h)) told is = (h, refl, is, told is)

pub final_stays_listed : FinalStaysListed
final_stays_listed before between later q r kind end message ok none =
    let past = before ++ event.Reserved q kind end message ∷ between in
    let e = event.MadeFinal q r in
    let s = run nothing past in
    let known = reserved_before before between (e ∷ later) q kind end message ok in
    let first = goes_behind nothing past (e ∷ later) ok in
    let may = and_parts (may_follow s e) (may_go_on (after s e) later) known.2 in
    let c = final_there (found q s.certificates) r (issued_run q nothing past tt first.0) may.0 in
    let says = final_says (found q s.certificates) c.0 r c.2 may.0 in
    let told : HoldTold past q c.0.change = subst (λ o. Held past q o) c.2 (held_run [] q nothing past tt first.0) in
    let hold = on_hold_is past q c.0.change told says.0 in
    let new = record r { time = hold.0.time } in
    let placed : in_place_of c.0.change r ≡ new = ap (λ o. in_place_of o r) hold.1 in
    let d = changed_to (Revoked new) (number_of s.last) c.0 in
    let begins : found q (after s e).certificates ≡ Some d =
    after_final q s r c.0 c.2 ∙ ap (λ x. Some (changed_to (Revoked x) (number_of s.last) c.0)) placed in
    let ends : found q (run (after s e) later).certificates ≡ Some d = still q c.1 d (after s e) later begins c.3 may.1 (inr refl) (inr says.1) in (
      hold.0,
      hold.2,
      hold.3,
      subst (λ (x : State). Contains (entries Complete x) (entry q (Revoked new))) (sym (run_behind nothing past (e ∷ later)))
          (listed_at_end q new c.0 (after s e) later end known.1 may.1 none (found_serial q s.certificates c.0 c.2)
          (some_end (found q s.certificates) c.0 end c.2 known.0) ends),
    )
