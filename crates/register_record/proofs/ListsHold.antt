-- Lists are reserved once, sealed once, and of the message that was reserved.
use Rattle.std.proofs.Common.{◌≡◌, ◌≤◌, ◌<◌, ℕ, ℤ, Bool, true, false, ◌==◌, cond, length, List, [], ◌∷◌, ◌++◌, append-nil, append_assoc, Option, Some, None, is_none, refl, sym, subst, arith, true≢false}
use Rattle.std.specs.List.{Contains, filter}
use Rattle.std.specs.Option.{option_map}
use Rattle.std.proofs.lemmas.Bool.{and_parts, eqb-true, ne_eqb, false_from_ne_true}
use Rattle.std.proofs.lemmas.List.Elements.{Contains-append_left, Contains-push}
use Rattle.register_record.specs.Following.{is_signed, list_sealing_fault, may_follow, may_go_on, sealing_fault}
use Rattle.register_record.specs.Laws.{reserves_list, seals_list}
use Rattle.register_record.specs.Records.{State, after, list_sealed, number_of, run}
use Rattle.register_record.specs.declared.event.Event.{Event}
use Rattle.register_record.specs.declared.event.Event.TheVariants as event
use Rattle.register_record.specs.declared.event.ListKind.{ListKind}
use Rattle.register_record.specs.declared.refusal.Refusal.TheVariants as refusal
use Rattle.register_record.specs.declared.state.Content.{Content}
use Rattle.register_record.specs.declared.state.Content.TheVariants.{Pending, Sealed}
use Rattle.register_record.specs.declared.state.RevocationList.{RevocationList}
use Rattle.register_record.proofs.Bases.{above_last, reaches}
use Rattle.register_record.proofs.Runs.{none_of, one_of}

-- ---- no number is reserved twice

unreserved : (n : ℕ) (s : State) (e : Event) → n ≤ number_of s.last → may_follow s e ≡ true → reserves_list n e ≡ false
unreserved n s (event.ListReserved number kind a b message) h ok =
    let up = above_last s number kind a b message ok in ne_eqb number n (λ same. omega (arith, h, up, same))
unreserved n s (event.ListSealed number octets) h ok = refl
unreserved n s (event.Issuer certificate) h ok = refl
unreserved n s (event.Reserved serial kind not_after message) h ok = refl
unreserved n s (event.Sealed serial octets) h ok = refl
unreserved n s (event.Revoked serial r) h ok = refl
unreserved n s (event.MadeFinal serial r) h ok = refl
unreserved n s (event.Released serial time) h ok = refl

number_taken : (n : ℕ) (s : State) (es : List Event) → n ≤ number_of s.last → may_go_on s es ≡ true → length (filter (reserves_list n) es) ≡ 0
number_taken n s [] h ok = refl
number_taken n s (e ∷ es) h ok =
    let both = and_parts (may_follow s e) (may_go_on (after s e) es) ok in
    none_of (reserves_list n) e es (unreserved n s e h both.0) (number_taken n (after s e) es (reaches n s e h both.0) both.1)

reaches_number : (n : ℕ) (s : State) (e : Event) → reserves_list n e ≡ true → n ≤ number_of (after s e).last
reaches_number n s (event.ListReserved number kind a b message) is = let same = eqb-true number n is in omega (arith, same)
reaches_number n s (event.ListSealed number octets) is = absurd (true≢false (sym is))
reaches_number n s (event.Issuer certificate) is = absurd (true≢false (sym is))
reaches_number n s (event.Reserved serial kind not_after message) is = absurd (true≢false (sym is))
reaches_number n s (event.Sealed serial octets) is = absurd (true≢false (sym is))
reaches_number n s (event.Revoked serial r) is = absurd (true≢false (sym is))
reaches_number n s (event.MadeFinal serial r) is = absurd (true≢false (sym is))
reaches_number n s (event.Released serial time) is = absurd (true≢false (sym is))

pub list_reserved_once : (n : ℕ) (s : State) (es : List Event) → may_go_on s es ≡ true → length (filter (reserves_list n) es) ≤ 1
list_reserved_once n s [] ok = omega arith
list_reserved_once n s (e ∷ es) ok =
    let both = and_parts (may_follow s e) (may_go_on (after s e) es) ok in
    one_of (reserves_list n) e es (reserves_list n e) refl (λ is. number_taken n (after s e) es (reaches_number n s e is) both.1)
    (list_reserved_once n (after s e) es both.1)

-- ---- nor sealed twice

-- what a sealing that is allowed says: the last list has its number, and isn't sealed
pub list_sealing_says : (o : Option RevocationList) (number : ℕ) (octets : List ℕ) → is_none (list_sealing_fault number octets o) ≡ true
    → (l : RevocationList) × (o ≡ Some l) × (l.number ≡ number) × (is_none (sealing_fault l.content octets) ≡ true)
list_sealing_says None number octets ok = absurd (true≢false (sym ok))
list_sealing_says (Some l) number octets ok = go (l.number == number) refl ok
  where
    go : (b : Bool) → (l.number == number) ≡ b → is_none (cond b (sealing_fault l.content octets) (Some refusal.OtherList)) ≡ true
        → (m : RevocationList) × (Some l ≡ Some m) × (m.number ≡ number) × (is_none (sealing_fault m.content octets) ≡ true)
    go true is ok = (l, refl, eqb-true l.number number is, ok)
    go false is ok = absurd (true≢false (sym ok))

abbrev pub is_done : Content → Bool
is_done (Pending message) = false
is_done (Sealed octets) = true

still_pending : (content : Content) (octets : List ℕ) → is_none (sealing_fault content octets) ≡ true → is_done content ≡ true → ⊥
still_pending (Pending message) octets ok is = true≢false (sym is)
still_pending (Sealed old) octets ok is = true≢false (sym ok)

-- the last list is of this number and sealed, or of a later one
abbrev pub Past : ℕ → Option RevocationList → Type 0
Past n None = ⊥
Past n (Some l) = (n ≤ l.number) × (l.number ≡ n → is_done l.content ≡ true)

past_reaches : (n : ℕ) (o : Option RevocationList) → Past n o → n ≤ number_of o
past_reaches n None h = absurd h
past_reaches n (Some l) h = h.0

past_sealed : (n : ℕ) (o : Option RevocationList) (octets : List ℕ) → Past n o → Past n (option_map (list_sealed octets) o)
past_sealed n None octets h = h
past_sealed n (Some l) octets h = (h.0, λ _. refl)

past_step : (n : ℕ) (s : State) (e : Event) → Past n s.last → may_follow s e ≡ true → Past n (after s e).last × (seals_list n e ≡ false)
past_step n s (event.ListReserved number kind a b message) h ok =
    let up = above_last s number kind a b message ok in
    let to = past_reaches n s.last h in
    ((omega (arith, up, to), λ same. absurd (omega (arith, up, to, same))), refl)
past_step n s (event.ListSealed number octets) h ok =
    let says = list_sealing_says s.last number octets ok in
    let here : Past n (Some says.0) = subst (λ o. Past n o) says.1 h in (
      past_sealed n s.last octets h,
      ne_eqb number n (λ same. still_pending says.0.content octets says.3 (here.1 (omega (arith, same, says.2)))),
    )
past_step n s (event.Issuer certificate) h ok = (h, refl)
past_step n s (event.Reserved serial kind not_after message) h ok = (h, refl)
past_step n s (event.Sealed serial octets) h ok = (h, refl)
past_step n s (event.Revoked serial r) h ok = (h, refl)
past_step n s (event.MadeFinal serial r) h ok = (h, refl)
past_step n s (event.Released serial time) h ok = (h, refl)

none_sealed : (n : ℕ) (s : State) (es : List Event) → Past n s.last → may_go_on s es ≡ true → length (filter (seals_list n) es) ≡ 0
none_sealed n s [] h ok = refl
none_sealed n s (e ∷ es) h ok =
    let both = and_parts (may_follow s e) (may_go_on (after s e) es) ok in
    let step = past_step n s e h both.0 in
    none_of (seals_list n) e es step.1 (none_sealed n (after s e) es step.0 both.1)

sealed_is_past : (n : ℕ) (s : State) (e : Event) → seals_list n e ≡ true → may_follow s e ≡ true → Past n (after s e).last
sealed_is_past n s (event.ListSealed number octets) is ok =
    let says = list_sealing_says s.last number octets ok in
    let same = eqb-true number n is in
    let at : Past n (option_map (list_sealed octets) (Some says.0)) = (omega (arith, same, says.2), λ _. refl) in
    subst (λ o. Past n (option_map (list_sealed octets) o)) (sym says.1) at
sealed_is_past n s (event.ListReserved number kind a b message) is ok = absurd (true≢false (sym is))
sealed_is_past n s (event.Issuer certificate) is ok = absurd (true≢false (sym is))
sealed_is_past n s (event.Reserved serial kind not_after message) is ok = absurd (true≢false (sym is))
sealed_is_past n s (event.Sealed serial octets) is ok = absurd (true≢false (sym is))
sealed_is_past n s (event.Revoked serial r) is ok = absurd (true≢false (sym is))
sealed_is_past n s (event.MadeFinal serial r) is ok = absurd (true≢false (sym is))
sealed_is_past n s (event.Released serial time) is ok = absurd (true≢false (sym is))

pub list_sealed_once : (n : ℕ) (s : State) (es : List Event) → may_go_on s es ≡ true → length (filter (seals_list n) es) ≤ 1
list_sealed_once n s [] ok = omega arith
list_sealed_once n s (e ∷ es) ok =
    let both = and_parts (may_follow s e) (may_go_on (after s e) es) ok in
    one_of (seals_list n) e es (seals_list n e) refl (λ is. none_sealed n (after s e) es (sealed_is_past n s e is both.0) both.1)
    (list_sealed_once n (after s e) es both.1)

-- ---- what is sealed was reserved

-- it was reserved among the events, for this message while that is pending
abbrev pub list_comes_from : List Event → ℕ → ListKind → ℤ → ℤ → Content → Type 0
list_comes_from past number kind a b (Pending message) = Contains past (event.ListReserved number kind a b message)
list_comes_from past number kind a b (Sealed octets) = Unit {0}

abbrev pub ListTraced : List Event → Option RevocationList → Type 0
ListTraced past None = Unit {0}
ListTraced past (Some l) = list_comes_from past l.number l.kind l.this_update l.next_update l.content

list_later : (past : List Event) (e : Event) (number : ℕ) (kind : ListKind) (a b : ℤ) (content : Content) → list_comes_from past number kind a b content
    → list_comes_from (past ++ e ∷ []) number kind a b content
list_later past e number kind a b (Pending message) h = Contains-append_left past (e ∷ []) (event.ListReserved number kind a b message) h
list_later past e number kind a b (Sealed octets) h = tt

list_on : (past : List Event) (e : Event) (o : Option RevocationList) → ListTraced past o → ListTraced (past ++ e ∷ []) o
list_on past e None h = tt
list_on past e (Some l) h = list_later past e l.number l.kind l.this_update l.next_update l.content h

list_traced_sealed : (past : List Event) (octets : List ℕ) (o : Option RevocationList) → ListTraced past (option_map (list_sealed octets) o)
list_traced_sealed past octets None = tt
list_traced_sealed past octets (Some l) = tt

list_traced_step : (past : List Event) (s : State) (e : Event) → ListTraced past s.last → ListTraced (past ++ e ∷ []) (after s e).last
list_traced_step past s (event.ListReserved number kind a b message) h = Contains-push past (event.ListReserved number kind a b message)
list_traced_step past s (event.ListSealed number octets) h = list_traced_sealed (past ++ event.ListSealed number octets ∷ []) octets s.last
list_traced_step past s (event.Issuer certificate) h = list_on past (event.Issuer certificate) s.last h
list_traced_step past s (event.Reserved serial kind not_after message) h = list_on past (event.Reserved serial kind not_after message) s.last h
list_traced_step past s (event.Sealed serial octets) h = list_on past (event.Sealed serial octets) s.last h
list_traced_step past s (event.Revoked serial r) h = list_on past (event.Revoked serial r) s.last h
list_traced_step past s (event.MadeFinal serial r) h = list_on past (event.MadeFinal serial r) s.last h
list_traced_step past s (event.Released serial time) h = list_on past (event.Released serial time) s.last h

pub list_traced : (past : List Event) (s : State) (es : List Event) → ListTraced past s.last → ListTraced (past ++ es) (run s es).last
list_traced past s [] h = rw append-nil h
list_traced past s (e ∷ es) h =
    subst (λ all. ListTraced all (run (after s e) es).last) (append_assoc past (e ∷ []) es)
    (list_traced (past ++ e ∷ []) (after s e) es (list_traced_step past s e h))

pub list_reserved_before : (past : List Event) (number : ℕ) (octets : List ℕ) (o : Option RevocationList) → ListTraced past o
    → is_none (list_sealing_fault number octets o) ≡ true
    → (kind : ListKind) × (a : ℤ) × (b : ℤ) × (message : List ℕ) × Contains past (event.ListReserved number kind a b message) × (is_signed message octets ≡ true)
list_reserved_before past number octets o h ok =
    let says = list_sealing_says o number octets ok in
    let l = says.0 in
    let here : list_comes_from past l.number l.kind l.this_update l.next_update l.content = subst (λ x. ListTraced past x) says.1 h in
    go l.content l.number l.kind l.this_update l.next_update says.2 here says.3
  where
    signed : (b : Bool) → is_none (cond b None (Some refusal.OtherMessage)) ≡ true → b ≡ true
    signed true e = refl
    signed false e = absurd (true≢false (sym e))

    go : (content : Content) (n : ℕ) (kind : ListKind) (a b : ℤ) → n ≡ number → list_comes_from past n kind a b content → is_none (sealing_fault content octets) ≡ true
        → (kind : ListKind) × (a : ℤ) × (b : ℤ) × (message : List ℕ) × Contains past (event.ListReserved number kind a b message) × (is_signed message octets ≡ true)
    go (Pending message) n kind a b same h ok =
        (kind, a, b, message, subst (λ m. Contains past (event.ListReserved m kind a b message)) same h, signed (is_signed message octets) ok)
    go (Sealed old) n kind a b same h ok = absurd (true≢false (sym ok))
