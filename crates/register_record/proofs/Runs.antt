-- What events leave of what is recorded under a serial number.
use Rattle.std.proofs.Common.{◌≡◌, ◌⊎◌, inl, inr, ◌≤◌, ℕ, suc, ℤ, Bool, true, false, cond, length, List, [], ◌∷◌, ◌++◌, append-nil, append_assoc, Option, Some, None, is_none, is_some, refl, sym, ap, subst, ◌∙◌, arith, true≢false}
use Rattle.std.specs.List.{Contains, filter, filter_map, cons_option, list_any}
use Rattle.std.specs.Option.{option_map, option_or}
use Rattle.std.specs.Str.{bytes_eq}
use Rattle.std.proofs.lemmas.Bool.{and_parts, or_parts}
use Rattle.register_record.specs.Following.{fault_if, final_fault, is_hold, is_on_hold, is_revoked, issued_fault, may_follow, may_go_on, released_fault, revoked_fault, sealing_fault}
use Rattle.register_record.specs.Laws.{ends_hold, reserves, revokes, seals}
use Rattle.register_record.specs.Records.{State, after, changed_to, found, made_final, number_of, run, sealed_as}
use Rattle.register_record.specs.declared.event.Event.{Event}
use Rattle.register_record.specs.declared.event.Event.TheVariants as event
use Rattle.register_record.specs.declared.event.Revocation.{Revocation}
use Rattle.register_record.specs.declared.refusal.Refusal.{Refusal}
use Rattle.register_record.specs.declared.refusal.Refusal.TheVariants as refusal
use Rattle.register_record.specs.declared.state.Certificate.{Certificate}
use Rattle.register_record.specs.declared.state.Change.{Change}
use Rattle.register_record.specs.declared.state.Change.TheVariants.{Revoked, Released}
use Rattle.register_record.specs.declared.state.Content.{Content}
use Rattle.register_record.specs.declared.state.Content.TheVariants.{Pending, Sealed}
use Rattle.register_record.proofs.Found.{allowed, allowed_is, found_after, fresh, moved, same_bytes, self_same}
use Rattle.register_record.proofs.Steps.{end_step, sealed_step, still_step, taken_step, traced_step, Traced}

-- ---- runs in two parts

pub run_behind : (s : State) (before es : List Event) → run s (before ++ es) ≡ run (run s before) es
run_behind s [] es = refl
run_behind s (e ∷ before) es = run_behind (after s e) before es

pub goes_behind : (s : State) (before es : List Event) → may_go_on s (before ++ es) ≡ true → (may_go_on s before ≡ true) × (may_go_on (run s before) es ≡ true)
goes_behind s [] es ok = (refl, ok)
goes_behind s (e ∷ before) es ok =
    let both = and_parts (may_follow s e) (may_go_on (after s e) (before ++ es)) ok in
    let rest = goes_behind (after s e) before es both.1 in
    (rw (both.0, rest.0) refl, rest.1)

pub some_is : {A : Type 0} (o : Option A) → is_some o ≡ true → (x : A) × (o ≡ Some x)
some_is None e = absurd (true≢false (sym e))
some_is (Some x) e = (x, refl)

-- ---- no serial number twice

pub none_of : (p : Event → Bool) (e : Event) (es : List Event) → p e ≡ false → length (filter p es) ≡ 0 → length (filter p (e ∷ es)) ≡ 0
none_of p e es isnt rest = rw isnt rest

pub taken : (q : List ℕ) (s : State) (es : List Event) → is_some (found q s.certificates) ≡ true → may_go_on s es ≡ true → length (filter (reserves q) es) ≡ 0
taken q s [] is ok = refl
taken q s (e ∷ es) is ok =
    let both = and_parts (may_follow s e) (may_go_on (after s e) es) ok in
    let c = some_is (found q s.certificates) is in
    let allows : allowed q (Some c.0) e ≡ true = subst (λ o. allowed q o e ≡ true) c.1 (allowed_is q s e both.0) in
    let step = taken_step q (number_of s.last) c.0 e allows in
    let next : is_some (found q (after s e).certificates) ≡ true =
    ap is_some (found_after q s e ∙ ap (λ o. moved q (number_of s.last) o e) c.1) ∙ step.0 in
    none_of (reserves q) e es step.1 (taken q (after s e) es next both.1)

pub one_of : (p : Event → Bool) (e : Event) (es : List Event) (b : Bool) → p e ≡ b → (b ≡ true → length (filter p es) ≡ 0) → length (filter p es) ≤ 1
    → length (filter p (e ∷ es)) ≤ 1
one_of p e es true is none rest = rw is (let n = none refl in omega (arith, n))
one_of p e es false is none rest = rw is rest

reserved_is_there : (q : List ℕ) (n : ℕ) (o : Option Certificate) (e : Event) → reserves q e ≡ true → is_some (moved q n o e) ≡ true
reserved_is_there q n None (event.Reserved serial kind not_after message) is = rw is refl
reserved_is_there q n (Some c) (event.Reserved serial kind not_after message) is = refl
reserved_is_there q n o (event.Issuer certificate) is = absurd (true≢false (sym is))
reserved_is_there q n o (event.Sealed serial octets) is = absurd (true≢false (sym is))
reserved_is_there q n o (event.Revoked serial r) is = absurd (true≢false (sym is))
reserved_is_there q n o (event.MadeFinal serial r) is = absurd (true≢false (sym is))
reserved_is_there q n o (event.Released serial time) is = absurd (true≢false (sym is))
reserved_is_there q n o (event.ListReserved number kind a b message) is = absurd (true≢false (sym is))
reserved_is_there q n o (event.ListSealed number octets) is = absurd (true≢false (sym is))

pub reserved_once : (q : List ℕ) (s : State) (es : List Event) → may_go_on s es ≡ true → length (filter (reserves q) es) ≤ 1
reserved_once q s [] ok = omega arith
reserved_once q s (e ∷ es) ok =
    let both = and_parts (may_follow s e) (may_go_on (after s e) es) ok in
    one_of (reserves q) e es (reserves q e) refl
    (λ is. taken q (after s e) es (ap is_some (found_after q s e) ∙ reserved_is_there q (number_of s.last) (found q s.certificates) e is) both.1)
    (reserved_once q (after s e) es both.1)

-- ---- nor sealed twice

sealed_is : (o : Option Certificate) (octets : List ℕ) → option_map (λ x. x.content) o ≡ Some (Sealed octets)
    → (c : Certificate) × (o ≡ Some c) × (c.content ≡ Sealed octets)
sealed_is None octets e = absurd (cc)
sealed_is (Some c) octets e = (c, refl, cc)

step_sealed : (q octets : List ℕ) (s : State) (e : Event) → option_map (λ x. x.content) (found q s.certificates) ≡ Some (Sealed octets) → may_follow s e ≡ true
    → (option_map (λ x. x.content) (found q (after s e).certificates) ≡ Some (Sealed octets)) × (seals q e ≡ false)
step_sealed q octets s e is ok =
    let c = sealed_is (found q s.certificates) octets is in
    let allows : allowed q (Some c.0) e ≡ true = subst (λ o. allowed q o e ≡ true) c.1 (allowed_is q s e ok) in
    let step = sealed_step q (number_of s.last) c.0 e octets c.2 allows in
    (ap (option_map (λ x. x.content)) (found_after q s e ∙ ap (λ o. moved q (number_of s.last) o e) c.1) ∙ step.0, step.1)

pub stays_sealed : (q octets : List ℕ) (s : State) (es : List Event) → option_map (λ x. x.content) (found q s.certificates) ≡ Some (Sealed octets)
    → may_go_on s es ≡ true → option_map (λ x. x.content) (found q (run s es).certificates) ≡ Some (Sealed octets)
stays_sealed q octets s [] is ok = is
stays_sealed q octets s (e ∷ es) is ok =
    let both = and_parts (may_follow s e) (may_go_on (after s e) es) ok in
    stays_sealed q octets (after s e) es (step_sealed q octets s e is both.0).0 both.1

none_sealed : (q octets : List ℕ) (s : State) (es : List Event) → option_map (λ x. x.content) (found q s.certificates) ≡ Some (Sealed octets)
    → may_go_on s es ≡ true → length (filter (seals q) es) ≡ 0
none_sealed q octets s [] is ok = refl
none_sealed q octets s (e ∷ es) is ok =
    let both = and_parts (may_follow s e) (may_go_on (after s e) es) ok in
    let step = step_sealed q octets s e is both.0 in
    none_of (seals q) e es step.1 (none_sealed q octets (after s e) es step.0 both.1)

-- what is under the serial number of a sealing has its octets after it
sealed_there : (q octets : List ℕ) (n : ℕ) (o : Option Certificate) → is_none (fault_if (λ c. sealing_fault c.content octets) o) ≡ true
    → option_map (λ x. x.content) (moved q n o (event.Sealed q octets)) ≡ Some (Sealed octets)
sealed_there q octets n None ok = absurd (true≢false (sym ok))
sealed_there q octets n (Some c) ok = rw (self_same q) refl

pub after_sealing : (q octets : List ℕ) (s : State) → may_follow s (event.Sealed q octets) ≡ true
    → option_map (λ x. x.content) (found q (after s (event.Sealed q octets)).certificates) ≡ Some (Sealed octets)
after_sealing q octets s ok =
    ap (option_map (λ x. x.content)) (found_after q s (event.Sealed q octets)) ∙ sealed_there q octets (number_of s.last) (found q s.certificates) ok

pub sealed_once : (q : List ℕ) (s : State) (es : List Event) → may_go_on s es ≡ true → length (filter (seals q) es) ≤ 1
sealed_once q s [] ok = omega arith
sealed_once q s (e ∷ es) ok =
    let both = and_parts (may_follow s e) (may_go_on (after s e) es) ok in
    one_of (seals q) e es (seals q e) refl (λ is. go e is both.0 both.1) (sealed_once q (after s e) es both.1)
  where
    go : (e : Event) → seals q e ≡ true → may_follow s e ≡ true → may_go_on (after s e) es ≡ true → length (filter (seals q) es) ≡ 0
    go (event.Sealed serial octets) is ok more =
        let same : serial ≡ q = same_bytes serial q is in
        none_sealed q octets (after s (event.Sealed serial octets)) es
        (subst (λ x. option_map (λ x. x.content) (found x (after s (event.Sealed serial octets)).certificates) ≡ Some (Sealed octets)) same
        (after_sealing serial octets s ok)) more
    go (event.Issuer certificate) is ok more = absurd (true≢false (sym is))
    go (event.Reserved serial kind not_after message) is ok more = absurd (true≢false (sym is))
    go (event.Revoked serial r) is ok more = absurd (true≢false (sym is))
    go (event.MadeFinal serial r) is ok more = absurd (true≢false (sym is))
    go (event.Released serial time) is ok more = absurd (true≢false (sym is))
    go (event.ListReserved number kind a b message) is ok more = absurd (true≢false (sym is))
    go (event.ListSealed number octets) is ok more = absurd (true≢false (sym is))

-- ---- what is sealed was reserved

pub traced : (past : List Event) (q : List ℕ) (s : State) (es : List Event) → Traced past q (found q s.certificates)
    → Traced (past ++ es) q (found q (run s es).certificates)
traced past q s [] h = rw append-nil h
traced past q s (e ∷ es) h =
    subst (λ all. Traced all q (found q (run (after s e) es).certificates)) (append_assoc past (e ∷ []) es)
    (traced (past ++ e ∷ []) q (after s e) es
    (subst (λ o. Traced (past ++ e ∷ []) q o) (sym (found_after q s e)) (traced_step past q (number_of s.last) (found q s.certificates) e h)))

-- ---- the end of its validity stays

pub end_is : {A : Type 0} (p : Certificate → A) (o : Option Certificate) (x : A) → option_map p o ≡ Some x → (c : Certificate) × (o ≡ Some c) × (p c ≡ x)
end_is p None x e = absurd (cc)
end_is p (Some c) x e = (c, refl, cc)

pub end_stays : (q : List ℕ) (end : ℤ) (s : State) (es : List Event) → option_map (λ x. x.not_after) (found q s.certificates) ≡ Some end
    → option_map (λ x. x.not_after) (found q (run s es).certificates) ≡ Some end
end_stays q end s [] is = is
end_stays q end s (e ∷ es) is =
    let c = end_is (λ x. x.not_after) (found q s.certificates) end is in
    end_stays q end (after s e) es
    (ap (option_map (λ x. x.not_after)) (found_after q s e ∙ ap (λ o. moved q (number_of s.last) o e) c.1) ∙ end_step q (number_of s.last) c.0 e ∙ ap Some c.2)

-- ---- its status stays

pub still : (q octets : List ℕ) (c : Certificate) (s : State) (es : List Event) → found q s.certificates ≡ Some c → c.content ≡ Sealed octets
    → may_go_on s es ≡ true
    → (list_any (revokes q) es ≡ false) ⊎ (is_revoked c.change ≡ true) → (list_any (ends_hold q) es ≡ false) ⊎ (is_on_hold c.change ≡ false)
    → found q (run s es).certificates ≡ Some c
still q octets c s [] at is ok r h = at
still q octets c s (e ∷ es) at is ok r h =
    let both = and_parts (may_follow s e) (may_go_on (after s e) es) ok in
    let allows : allowed q (Some c) e ≡ true = subst (λ o. allowed q o e ≡ true) at (allowed_is q s e both.0) in
    let rs = first_and_rest (revokes q) (is_revoked c.change ≡ true) r in
    let hs = first_and_rest (ends_hold q) (is_on_hold c.change ≡ false) h in
    still q octets c (after s e) es
    (found_after q s e ∙ ap (λ o. moved q (number_of s.last) o e) at ∙ still_step q (number_of s.last) c e octets is allows rs.0 hs.0)
    is both.1 rs.1 hs.1
  where
    first_and_rest : (p : Event → Bool) (Q : Type 0) → (list_any p (e ∷ es) ≡ false) ⊎ Q → ((p e ≡ false) ⊎ Q) × ((list_any p es ≡ false) ⊎ Q)
    first_and_rest p Q (inl isnt) = let two = or_parts (p e) (list_any p es) isnt in (inl two.0, inl two.1)
    first_and_rest p Q (inr x) = (inr x, inr x)

-- what is found, and has an entry, is among the entries
pub is_among : {X : Type 0} (h : Certificate → Option X) (q : List ℕ) (cs : List Certificate) (c : Certificate) (x : X) → found q cs ≡ Some c → h c ≡ Some x
    → Contains (filter_map h cs) x
is_among h q [] c x at is = absurd (cc)
is_among {X = X} h q (d ∷ cs) c x at is = go (bytes_eq d.serial q) (λ e. is_among h q cs c x e is) at
  where
    first : (o : Option X) → o ≡ Some x → (xs : List X) → Contains (cons_option o xs) x
    first None e xs = absurd (cc)
    first (Some y) e xs = let same : y ≡ x = cc in (0, omega arith, same)

    more : (o : Option X) (xs : List X) → Contains xs x → Contains (cons_option o xs) x
    more None xs h = h
    more (Some y) xs h = (suc h.0, omega (arith, h.1), h.2)

    go : (b : Bool) → (found q cs ≡ Some c → Contains (filter_map h cs) x) → cond b (Some d) (found q cs) ≡ Some c
        → Contains (cons_option (h d) (filter_map h cs)) x
    go true rest e = let same : d ≡ c = cc in first (h d) (ap h same ∙ is) (filter_map h cs)
    go false rest e = more (h d) (filter_map h cs) (rest e)

-- ---- what has changed is issued

abbrev pub issued_if : Option Change → Content → Type 0
issued_if None content = Unit {0}
issued_if (Some change) content = issued_fault content ≡ None

abbrev pub IssuedIf : Option Certificate → Type 0
IssuedIf None = Unit {0}
IssuedIf (Some c) = issued_if c.change c.content

issued_cond : (b : Bool) (f : Certificate → Certificate) (o : Option Certificate) → ((c : Certificate) → o ≡ Some c → b ≡ true
    → issued_if c.change c.content → IssuedIf (Some (f c)))
    → IssuedIf o → IssuedIf (cond b (option_map f o) o)
issued_cond true f None step h = h
issued_cond true f (Some c) step h = step c refl refl h
issued_cond false f o step h = h

pub if_allowed : (b : Bool) (t : Bool) → cond b t true ≡ true → b ≡ true → t ≡ true
if_allowed true t e is = e
if_allowed false t e is = absurd (true≢false (sym is))

sealed_if : (o : Option Change) (octets : List ℕ) → issued_if o (Sealed octets)
sealed_if None octets = tt
sealed_if (Some change) octets = refl

first_none : (o : Option Refusal) (b : Bool) → is_none (option_or o (cond b (Some refusal.AlreadyRevoked) None)) ≡ true → o ≡ None
first_none None b e = refl
first_none (Some x) b e = absurd (true≢false (sym e))

held_issued : (o : Option Change) (content : Content) (x : Option Refusal) → is_none (cond (is_on_hold o) x (Some refusal.NotOnHold)) ≡ true
    → issued_if o content
    → issued_fault content ≡ None
held_issued None content x ok h = absurd (true≢false (sym ok))
held_issued (Some change) content x ok h = h

issued_step : (q : List ℕ) (n : ℕ) (o : Option Certificate) (e : Event) → IssuedIf o → allowed q o e ≡ true → IssuedIf (moved q n o e)
issued_step q n o (event.Issuer certificate) h ok = h
issued_step q n None (event.Reserved serial kind not_after message) h ok = go (bytes_eq serial q)
  where
    go : (b : Bool) → IssuedIf (cond b (Some (fresh serial kind not_after message)) None)
    go true = tt
    go false = tt
issued_step q n (Some c) (event.Reserved serial kind not_after message) h ok = h
issued_step q n o (event.Sealed serial octets) h ok = issued_cond (bytes_eq serial q) (sealed_as octets) o (λ c _ _ _. sealed_if c.change octets) h
issued_step q n o (event.Revoked serial r) h ok = issued_cond (bytes_eq serial q) (changed_to (Revoked r) n) o
    (λ c at is _. first_none (issued_fault c.content) (is_revoked c.change)
    (subst (λ x. is_none (fault_if revoked_fault x) ≡ true) at (if_allowed (bytes_eq serial q) (is_none (fault_if revoked_fault o)) ok is))) h
issued_step q n o (event.MadeFinal serial r) h ok = issued_cond (bytes_eq serial q) (made_final r n) o
    (λ c at is i. held_issued c.change c.content _
    (subst (λ x. is_none (fault_if (final_fault r) x) ≡ true) at (if_allowed (bytes_eq serial q) (is_none (fault_if (final_fault r) o)) ok is)) i) h
issued_step q n o (event.Released serial time) h ok = issued_cond (bytes_eq serial q) (changed_to (Released time) n) o
    (λ c at is i. held_issued c.change c.content None
    (subst (λ x. is_none (fault_if released_fault x) ≡ true) at (if_allowed (bytes_eq serial q) (is_none (fault_if released_fault o)) ok is)) i) h
issued_step q n o (event.ListReserved number kind a b message) h ok = h
issued_step q n o (event.ListSealed number octets) h ok = h

pub issued_run : (q : List ℕ) (s : State) (es : List Event) → IssuedIf (found q s.certificates) → may_go_on s es ≡ true
    → IssuedIf (found q (run s es).certificates)
issued_run q s [] h ok = h
issued_run q s (e ∷ es) h ok =
    let both = and_parts (may_follow s e) (may_go_on (after s e) es) ok in
    issued_run q (after s e) es
    (subst (λ o. IssuedIf o) (sym (found_after q s e)) (issued_step q (number_of s.last) (found q s.certificates) e h (allowed_is q s e both.0))) both.1

-- what was on hold is issued
hold_there : (c : Certificate) (x : Option Refusal) → IssuedIf (Some c) → is_none (cond (is_on_hold c.change) x (Some refusal.NotOnHold)) ≡ true
    → (d : Certificate) × (octets : List ℕ) × (Some c ≡ Some d) × (d.content ≡ Sealed octets)
hold_there c x h ok = go c.content refl (held_issued c.change c.content x ok h)
  where
    go : (content : Content) → c.content ≡ content → issued_fault c.content ≡ None
        → (d : Certificate) × (octets : List ℕ) × (Some c ≡ Some d) × (d.content ≡ Sealed octets)
    go (Pending message) is none = absurd (let w : issued_fault (Pending message) ≡ None = subst (λ x. issued_fault x ≡ None) is none in cc)
    go (Sealed octets) is none = (c, octets, refl, is)

pub released_there : (o : Option Certificate) → IssuedIf o → is_none (fault_if released_fault o) ≡ true
    → (c : Certificate) × (octets : List ℕ) × (o ≡ Some c) × (c.content ≡ Sealed octets)
released_there None h ok = absurd (true≢false (sym ok))
released_there (Some c) h ok = hold_there c None h ok

pub final_there : (o : Option Certificate) (r : Revocation) → IssuedIf o → is_none (fault_if (final_fault r) o) ≡ true
    → (c : Certificate) × (octets : List ℕ) × (o ≡ Some c) × (c.content ≡ Sealed octets)
final_there None r h ok = absurd (true≢false (sym ok))
final_there (Some c) r h ok = hold_there c (cond (is_hold r.reason) (Some refusal.AlreadyOnHold) None) h ok
