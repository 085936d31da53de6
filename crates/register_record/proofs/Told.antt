-- What is on a list was revoked.
use Rattle.std.proofs.Common.{◌≡◌, ◌<◌, ℕ, zero, suc, ℤ, Bool, true, false, ◌||◌, cond, length, List, [], ◌∷◌, ◌++◌, append-nil, append_assoc, Option, Some, None, is_none, refl, sym, subst, ◌∙◌, arith, true≢false}
use Rattle.std.specs.Prelude.{slice_index_or}
use Rattle.std.specs.List.{AllByRecursion, Contains, filter_map, cons_option, list_any}
use Rattle.std.specs.Str.{bytes_eq}
use Rattle.std.proofs.lemmas.Bool.{and_parts, or_left, or_right}
use Rattle.std.proofs.lemmas.List.Folds.{list_any-append}
use Rattle.register_record.specs.Following.{fault_if, final_fault, is_on_hold, may_follow, may_go_on, released_fault}
use Rattle.register_record.specs.Laws.{revokes}
use Rattle.register_record.specs.Lists.{entry, in_complete, in_delta, in_list, is_new, is_off}
use Rattle.register_record.specs.Records.{State, after, changed, changed_to, found, has_serial, made_final, number_of, run, sealed_as}
use Rattle.register_record.specs.declared.event.Event.{Event}
use Rattle.register_record.specs.declared.event.Event.TheVariants as event
use Rattle.register_record.specs.declared.event.ListKind.{ListKind}
use Rattle.register_record.specs.declared.event.ListKind.TheVariants.{Complete, Delta}
use Rattle.register_record.specs.declared.event.Revocation.{Revocation}
use Rattle.register_record.specs.declared.list.Entry.{Entry}
use Rattle.register_record.specs.declared.refusal.Refusal.{Refusal}
use Rattle.register_record.specs.declared.refusal.Refusal.TheVariants as refusal
use Rattle.register_record.specs.declared.state.Base.{Base}
use Rattle.register_record.specs.declared.state.Certificate.{Certificate}
use Rattle.register_record.specs.declared.state.Change.{Change}
use Rattle.register_record.specs.declared.state.Change.TheVariants.{Revoked, Released}
use Rattle.register_record.proofs.Found.{found_serial, fresh, self_same}

-- a status that has changed comes of a revocation
abbrev pub Told : List Event → List ℕ → Option Change → Type 0
Told past q None = Unit {0}
Told past q (Some change) = list_any (revokes q) past ≡ true

abbrev pub AllTold : List Event → List Certificate → Type 0
AllTold past = AllByRecursion (λ c. Told past c.serial c.change)

told_on : (past : List Event) (e : Event) (q : List ℕ) (o : Option Change) → Told past q o → Told (past ++ e ∷ []) q o
told_on past e q None h = tt
told_on past e q (Some change) h = list_any-append (revokes q) past (e ∷ []) ∙ or_left (list_any (revokes q) past) (list_any (revokes q) (e ∷ [])) h

all_on : (past : List Event) (e : Event) (cs : List Certificate) → AllTold past cs → AllTold (past ++ e ∷ []) cs
all_on past e [] h = tt
all_on past e (c ∷ cs) h = (told_on past e c.serial c.change h.0, all_on past e cs h.1)

all_changed : (T : Certificate → Type 0) (s : List ℕ) (f : Certificate → Certificate) (cs : List Certificate) → AllByRecursion T cs
    → ((c : Certificate) → found s cs ≡ Some c → T c → T (f c)) → AllByRecursion T (changed s f cs)
all_changed T s f [] all step = tt
all_changed T s f (c ∷ cs) all step = go (has_serial s c) refl (all_changed T s f cs all.1)
  where
    go : (b : Bool) → has_serial s c ≡ b → (((d : Certificate) → found s cs ≡ Some d → T d → T (f d)) → AllByRecursion T (changed s f cs))
        → AllByRecursion T (cond b (f c ∷ cs) (c ∷ changed s f cs))
    go true is rest = (step c (rw is refl) all.0, all.1)
    go false is rest = (all.0, rest (λ d at. step d (rw is at)))

all_more : (T : Certificate → Type 0) (cs : List Certificate) (c : Certificate) → AllByRecursion T cs → T c → AllByRecursion T (cs ++ c ∷ [])
all_more T [] c all h = (h, tt)
all_more T (x ∷ cs) c all h = (all.0, all_more T cs c all.1 h)

last_tells : (past : List Event) (serial q : List ℕ) (r : Revocation) → q ≡ serial → list_any (revokes q) (past ++ event.Revoked serial r ∷ []) ≡ true
last_tells past serial q r same =
    list_any-append (revokes q) past (event.Revoked serial r ∷ [])
    ∙ or_right (list_any (revokes q) past) (bytes_eq serial q || false) (subst
    (λ x. (bytes_eq serial x || false) ≡ true) (sym same) (or_left (bytes_eq serial serial) false (self_same serial)))

hold_tells : (past : List Event) (q : List ℕ) (o : Option Change) → is_on_hold o ≡ true → Told past q o → list_any (revokes q) past ≡ true
hold_tells past q None is h = absurd (true≢false (sym is))
hold_tells past q (Some change) is h = h

on_hold : (b : Bool) (x : Option Refusal) → is_none (cond b x (Some refusal.NotOnHold)) ≡ true → b ≡ true
on_hold true x ok = refl
on_hold false x ok = absurd (true≢false (sym ok))

told_step : (past : List Event) (s : State) (e : Event) → AllTold past s.certificates → may_follow s e ≡ true
    → AllTold (past ++ e ∷ []) (after s e).certificates
told_step past s (event.Issuer certificate) h ok = all_on past (event.Issuer certificate) s.certificates h
told_step past s (event.Reserved serial kind not_after message) h ok =
    let e = event.Reserved serial kind not_after message in
    all_more (λ c. Told (past ++ e ∷ []) c.serial c.change) s.certificates (fresh serial kind not_after message) (all_on past e s.certificates h) tt
told_step past s (event.Sealed serial octets) h ok =
    let e = event.Sealed serial octets in
    all_changed (λ c. Told (past ++ e ∷ []) c.serial c.change) serial (sealed_as octets) s.certificates (all_on past e s.certificates h) (λ _ _ x. x)
told_step past s (event.Revoked serial r) h ok =
    let e = event.Revoked serial r in
    all_changed (λ c. Told (past ++ e ∷ []) c.serial c.change) serial (changed_to (Revoked r) (number_of s.last)) s.certificates
    (all_on past e s.certificates h)
    (λ c at x. last_tells past serial c.serial r (found_serial serial s.certificates c at))
told_step past s (event.MadeFinal serial r) h ok =
    let e = event.MadeFinal serial r in
    all_changed (λ c. Told (past ++ e ∷ []) c.serial c.change) serial (made_final r (number_of s.last)) s.certificates (all_on past e s.certificates h)
    (λ c at x. hold_tells (past ++ e ∷ []) c.serial c.change
    (on_hold (is_on_hold c.change) _ (subst (λ o. is_none (fault_if (final_fault r) o) ≡ true) at ok)) x)
told_step past s (event.Released serial time) h ok =
    let e = event.Released serial time in
    all_changed (λ c. Told (past ++ e ∷ []) c.serial c.change) serial (changed_to (Released time) (number_of s.last)) s.certificates
    (all_on past e s.certificates h)
    (λ c at x. hold_tells (past ++ e ∷ []) c.serial c.change
    (on_hold (is_on_hold c.change) None (subst (λ o. is_none (fault_if released_fault o) ≡ true) at ok)) x)
told_step past s (event.ListReserved number kind a b message) h ok = all_on past (event.ListReserved number kind a b message) s.certificates h
told_step past s (event.ListSealed number octets) h ok = all_on past (event.ListSealed number octets) s.certificates h

pub told_run : (past : List Event) (s : State) (es : List Event) → AllTold past s.certificates → may_go_on s es ≡ true
    → AllTold (past ++ es) (run s es).certificates
told_run past s [] h ok = rw append-nil h
told_run past s (e ∷ es) h ok =
    let both = and_parts (may_follow s e) (may_go_on (after s e) es) ok in
    subst (λ all. AllTold all (run (after s e) es).certificates) (append_assoc past (e ∷ []) es)
    (told_run (past ++ e ∷ []) (after s e) es (told_step past s e h both.0) both.1)

-- ---- entries

complete_tells : (past : List Event) (base : Option Base) (q : List ℕ) (end : ℤ) (since : ℕ) (o : Option Change) (e : Entry)
    → in_complete base q end since o ≡ Some e
    → Told past q o → list_any (revokes e.serial) past ≡ true
complete_tells past base q end since None e is h = absurd (cc)
complete_tells past base q end since (Some (Released time)) e is h = absurd (cc)
complete_tells past base q end since (Some (Revoked r)) e is h = go (is_off base since end) is
  where
    go : (b : Bool) → cond b None (Some (entry q (Revoked r))) ≡ Some e → list_any (revokes e.serial) past ≡ true
    go true is = absurd (cc)
    go false is = let same : entry q (Revoked r) ≡ e = cc in subst (λ (x : Entry). list_any (revokes x.serial) past ≡ true) same h

delta_tells : (past : List Event) (base : Option Base) (q : List ℕ) (since : ℕ) (o : Option Change) (e : Entry) → in_delta base q since o ≡ Some e
    → Told past q o → list_any (revokes e.serial) past ≡ true
delta_tells past base q since None e is h = absurd (cc)
delta_tells past base q since (Some change) e is h = go (is_new base since) is
  where
    go : (b : Bool) → cond b (Some (entry q change)) None ≡ Some e → list_any (revokes e.serial) past ≡ true
    go true is = let same : entry q change ≡ e = cc in subst (λ (x : Entry). list_any (revokes x.serial) past ≡ true) same h
    go false is = absurd (cc)

entry_tells : (past : List Event) (kind : ListKind) (base : Option Base) (c : Certificate) (e : Entry) → in_list kind base c ≡ Some e
    → Told past c.serial c.change
    → list_any (revokes e.serial) past ≡ true
entry_tells past Complete base c e is h = complete_tells past base c.serial c.not_after c.since c.change e is h
entry_tells past Delta base c e is h = delta_tells past base c.serial c.since c.change e is h

entries_tell : (past : List Event) (kind : ListKind) (base : Option Base) (cs : List Certificate) → AllTold past cs
    → AllByRecursion (λ (e : Entry). list_any (revokes e.serial) past ≡ true) (filter_map (in_list kind base) cs)
entries_tell past kind base [] h = tt
entries_tell past kind base (c ∷ cs) h = go (in_list kind base c) refl (entries_tell past kind base cs h.1)
  where
    go : (o : Option Entry) → in_list kind base c ≡ o
        → AllByRecursion (λ (e : Entry). list_any (revokes e.serial) past ≡ true) (filter_map (in_list kind base) cs)
        → AllByRecursion (λ (e : Entry). list_any (revokes e.serial) past ≡ true) (cons_option o (filter_map (in_list kind base) cs))
    go None is rest = rest
    go (Some e) is rest = (entry_tells past kind base c e is h.0, rest)

all_at : {X : Type 0} (P : X → Type 0) (xs : List X) (k : ℕ) (d : X) → AllByRecursion P xs → k < length xs → P (slice_index_or xs k d)
all_at P [] k d all within = absurd (omega (arith, within))
all_at P (x ∷ xs) zero d all within = all.0
all_at P (x ∷ xs) (suc k) d all within = all_at P xs k d all.1 (omega (arith, within))

pub listed_was_revoked : (past : List Event) (kind : ListKind) (base : Option Base) (cs : List Certificate) (e : Entry) → AllTold past cs
    → Contains (filter_map (in_list kind base) cs) e → list_any (revokes e.serial) past ≡ true
listed_was_revoked past kind base cs e h among =
    subst (λ (x : Entry). list_any (revokes x.serial) past ≡ true) among.2
    (all_at (λ (x : Entry). list_any (revokes x.serial) past ≡ true) (filter_map (in_list kind base) cs) among.0 e (entries_tell past kind base cs h) among.1)
