-- What events leave of the last list and of the base.
use Rattle.std.proofs.Common.{◌≡◌, ◌<◌, ◌≤◌, ℕ, ℤ, Bool, true, false, ◌&&◌, ◌==◌, cond, nat_lt, int_lt, List, [], ◌∷◌, ◌++◌, Option, Some, None, is_none, refl, sym, subst, arith, true≢false}
use Rattle.std.specs.List.{list_any}
use Rattle.std.specs.Option.{option_map}
use Rattle.std.proofs.lemmas.Bool.{and_parts, or_parts, both_ways, ltb-true, le-ltb, le-leb, eqb-true, eq-eqb}
use Rattle.register_record.specs.Following.{end_of_numbers, list_fault, list_sealing_fault, may_follow, may_go_on, sealing_fault}
use Rattle.register_record.specs.Laws.{has_later_list, seals_list}
use Rattle.register_record.specs.Lists.{is_new, is_off}
use Rattle.register_record.specs.Records.{State, after, base_after, base_with, list_sealed, number_of, run}
use Rattle.register_record.specs.declared.event.Event.{Event}
use Rattle.register_record.specs.declared.event.Event.TheVariants as event
use Rattle.register_record.specs.declared.event.ListKind.{ListKind}
use Rattle.register_record.specs.declared.event.ListKind.TheVariants.{Complete, Delta}
use Rattle.register_record.specs.declared.refusal.Refusal.TheVariants as refusal
use Rattle.register_record.specs.declared.state.Base.{Base}
use Rattle.register_record.specs.declared.state.RevocationList.{RevocationList}

-- ---- numbers rise

-- that a list may follow says that its number is above the last one
pub above_last : (s : State) (number : ℕ) (kind : ListKind) (a b : ℤ) (message : List ℕ) → may_follow s (event.ListReserved number kind a b message) ≡ true
    → number_of s.last < number
above_last s number kind a b message ok =
    ltb-true (number_of s.last) number (and_parts (nat_lt (number_of s.last) number) (nat_lt number end_of_numbers) (and_parts
    (nat_lt (number_of s.last) number && nat_lt number end_of_numbers) (is_none (list_fault kind a b s)) ok).0).0

sealed_number : (o : Option RevocationList) (octets : List ℕ) → number_of (option_map (list_sealed octets) o) ≡ number_of o
sealed_number None octets = refl
sealed_number (Some l) octets = refl

-- the last number doesn't fall
pub reaches : (m : ℕ) (s : State) (e : Event) → m ≤ number_of s.last → may_follow s e ≡ true → m ≤ number_of (after s e).last
reaches m s (event.ListReserved number kind a b message) h ok = let up = above_last s number kind a b message ok in omega (arith, h, up)
reaches m s (event.ListSealed number octets) h ok = rw (sealed_number s.last octets) h
reaches m s (event.Issuer certificate) h ok = h
reaches m s (event.Reserved serial kind not_after message) h ok = h
reaches m s (event.Sealed serial octets) h ok = h
reaches m s (event.Revoked serial r) h ok = h
reaches m s (event.MadeFinal serial r) h ok = h
reaches m s (event.Released serial time) h ok = h

pub rises : (m : ℕ) (s : State) (between after_it : List Event) (n : ℕ) (k : ListKind) (c d : ℤ) (y : List ℕ) → m ≤ number_of s.last
    → may_go_on s (between ++ event.ListReserved n k c d y ∷ after_it) ≡ true → m < n
rises m s [] after_it n k c d y h ok =
    let up = above_last s n k c d y (and_parts (may_follow s (event.ListReserved n k c d y)) (may_go_on (after s
    (event.ListReserved n k c d y)) after_it) ok).0 in
    omega (arith, h, up)
rises m s (e ∷ between) after_it n k c d y h ok =
    let both = and_parts (may_follow s e) (may_go_on (after s e) (between ++ event.ListReserved n k c d y ∷ after_it)) ok in
    rises m (after s e) between after_it n k c d y (reaches m s e h both.0) both.1

-- ---- the base's number is not above the last one

abbrev pub BaseBelow : Option Base → ℕ → Type 0
BaseBelow None n = Unit {0}
BaseBelow (Some b) n = b.number ≤ n

base_up : (o : Option Base) (m n : ℕ) → m ≤ n → BaseBelow o m → BaseBelow o n
base_up None m n up h = tt
base_up (Some b) m n up h = omega (arith, up, h)

sealed_base : (o : Option RevocationList) (base : Option Base) → BaseBelow base (number_of o) → BaseBelow (base_with o base) (number_of o)
sealed_base None base h = h
sealed_base (Some l) base h = go l.kind
  where
    go : (kind : ListKind) → BaseBelow (base_after kind l.number l.this_update base) l.number
    go Complete = omega arith
    go Delta = h

pub base_step : (s : State) (e : Event) → BaseBelow s.base (number_of s.last) → may_follow s e ≡ true → BaseBelow (after s e).base (number_of (after s e).last)
base_step s (event.ListReserved number kind a b message) h ok =
    let up = above_last s number kind a b message ok in base_up s.base (number_of s.last) number (omega (arith, up)) h
base_step s (event.ListSealed number octets) h ok = rw (sealed_number s.last octets) (sealed_base s.last s.base h)
base_step s (event.Issuer certificate) h ok = h
base_step s (event.Reserved serial kind not_after message) h ok = h
base_step s (event.Sealed serial octets) h ok = h
base_step s (event.Revoked serial r) h ok = h
base_step s (event.MadeFinal serial r) h ok = h
base_step s (event.Released serial time) h ok = h

pub base_below : (s : State) (es : List Event) → BaseBelow s.base (number_of s.last) → may_go_on s es ≡ true
    → BaseBelow (run s es).base (number_of (run s es).last)
base_below s [] h ok = h
base_below s (e ∷ es) h ok =
    let both = and_parts (may_follow s e) (may_go_on (after s e) es) ok in base_below (after s e) es (base_step s e h both.0) both.1

-- ---- an entry stays on the lists

-- a complete list that was reserved after the change, of a time after the end, isn't sealed among the events
abbrev pub Unsealed : ℕ → ℤ → ListKind → ℕ → ℤ → List Event → Type 0
Unsealed since end Complete number this_update es = nat_lt since number ≡ true → int_lt end this_update ≡ true → list_any (seals_list number) es ≡ false
Unsealed since end Delta number this_update es = Unit {0}

abbrev pub LastUnsealed : ℕ → ℤ → Option RevocationList → List Event → Type 0
LastUnsealed since end None es = Unit {0}
LastUnsealed since end (Some l) es = Unsealed since end l.kind l.number l.this_update es

fewer : (since : ℕ) (end : ℤ) (kind : ListKind) (number : ℕ) (this_update : ℤ) (e : Event) (es : List Event)
    → Unsealed since end kind number this_update (e ∷ es) → Unsealed since end kind number this_update es
fewer since end Complete number this_update e es h = λ a b. (or_parts (seals_list number e) (list_any (seals_list number) es) (h a b)).1
fewer since end Delta number this_update e es h = tt

fewer_last : (since : ℕ) (end : ℤ) (o : Option RevocationList) (e : Event) (es : List Event) → LastUnsealed since end o (e ∷ es) → LastUnsealed since end o es
fewer_last since end None e es h = tt
fewer_last since end (Some l) e es h = fewer since end l.kind l.number l.this_update e es h

sealed_last : (since : ℕ) (end : ℤ) (o : Option RevocationList) (octets : List ℕ) (es : List Event) → LastUnsealed since end o es
    → LastUnsealed since end (option_map (list_sealed octets) o) es
sealed_last since end None octets es h = tt
sealed_last since end (Some l) octets es h = h

abbrev pub HeldBack : ℕ → ℤ → State → List Event → Type 0
HeldBack since end s es = (is_off s.base since end ≡ false) × LastUnsealed since end s.last es × (has_later_list end es ≡ false)

-- what is sealed is the last list
pub is_last : (o : Option RevocationList) (number : ℕ) (octets : List ℕ) → is_none (list_sealing_fault number octets o) ≡ true
    → (l : RevocationList) × (o ≡ Some l) × (l.number ≡ number)
is_last None number octets ok = absurd (true≢false (sym ok))
is_last (Some l) number octets ok = (l, refl, go (l.number == number) refl ok)
  where
    go : (b : Bool) → (l.number == number) ≡ b → is_none (cond b (sealing_fault l.content octets) (Some refusal.OtherList)) ≡ true → l.number ≡ number
    go true is ok = eqb-true l.number number is
    go false is ok = absurd (true≢false (sym ok))

not_both : (a b : Bool) → (a ≡ true → b ≡ true → ⊥) → (a && b) ≡ false
not_both true true h = absurd (h refl refl)
not_both true false h = refl
not_both false b h = refl

sealed_off : (since : ℕ) (end : ℤ) (kind : ListKind) (n number : ℕ) (this_update : ℤ) (base : Option Base) (octets : List ℕ) (es : List Event) → n ≡ number
    → is_off base since end ≡ false → Unsealed since end kind n this_update (event.ListSealed number octets ∷ es)
    → is_off (base_after kind n this_update base) since end ≡ false
sealed_off since end Complete n number this_update base octets es same off h =
    not_both (nat_lt since n) (int_lt end this_update)
    (λ a b. both_ways (number == n) (or_parts (number == n) (list_any (seals_list n) es) (h a b)).0 (eq-eqb number n (sym same)))
sealed_off since end Delta n number this_update base octets es same off h = off

later_kind : (since : ℕ) (end : ℤ) (number : ℕ) (kind : ListKind) (a b : ℤ) (message : List ℕ) (es : List Event)
    → has_later_list end (event.ListReserved number kind a b message ∷ es) ≡ false
    → Unsealed since end kind number a es × (has_later_list end es ≡ false)
later_kind since end number Complete a b message es isnt =
    let two = or_parts (int_lt end a && list_any (seals_list number) es) (has_later_list end es) isnt in
    (λ _ is. go (int_lt end a) (list_any (seals_list number) es) is two.0, two.1)
  where
    go : (x y : Bool) → x ≡ true → (x && y) ≡ false → y ≡ false
    go true y e isnt = isnt
    go false y e isnt = absurd (true≢false (sym e))
later_kind since end number Delta a b message es isnt = (tt, isnt)

pub held_step : (since : ℕ) (end : ℤ) (s : State) (e : Event) (es : List Event) → HeldBack since end s (e ∷ es) → may_follow s e ≡ true
    → HeldBack since end (after s e) es
held_step since end s (event.ListReserved number kind a b message) es h ok =
    let two = later_kind since end number kind a b message es h.2 in (h.0, two.0, two.1)
held_step since end s (event.ListSealed number octets) es h ok =
    let l = is_last s.last number octets ok in
    let un : LastUnsealed since end (Some l.0) (event.ListSealed number octets ∷ es) =
    subst (λ o. LastUnsealed since end o (event.ListSealed number octets ∷ es)) l.1 h.1 in (
      subst (λ o. is_off (base_with o s.base) since end ≡ false) (sym l.1)
          (sealed_off since end l.0.kind l.0.number number l.0.this_update s.base octets es l.2 h.0 un),
      sealed_last since end s.last octets es (fewer_last since end s.last (event.ListSealed number octets) es h.1),
      h.2,
    )
held_step since end s (event.Issuer certificate) es h ok = (h.0, fewer_last since end s.last (event.Issuer certificate) es h.1, h.2)
held_step since end s (event.Reserved serial kind not_after message) es h ok =
    (h.0, fewer_last since end s.last (event.Reserved serial kind not_after message) es h.1, h.2)
held_step since end s (event.Sealed serial octets) es h ok = (h.0, fewer_last since end s.last (event.Sealed serial octets) es h.1, h.2)
held_step since end s (event.Revoked serial r) es h ok = (h.0, fewer_last since end s.last (event.Revoked serial r) es h.1, h.2)
held_step since end s (event.MadeFinal serial r) es h ok = (h.0, fewer_last since end s.last (event.MadeFinal serial r) es h.1, h.2)
held_step since end s (event.Released serial time) es h ok = (h.0, fewer_last since end s.last (event.Released serial time) es h.1, h.2)

pub held_back : (since : ℕ) (end : ℤ) (s : State) (es : List Event) → HeldBack since end s es → may_go_on s es ≡ true
    → is_off (run s es).base since end ≡ false
held_back since end s [] h ok = h.0
held_back since end s (e ∷ es) h ok =
    let both = and_parts (may_follow s e) (may_go_on (after s e) es) ok in
    held_back since end (after s e) es (held_step since end s e es h both.0) both.1

-- where nothing is reserved since, nothing is off
not_above : (n m : ℕ) → m ≤ n → nat_lt n m ≡ false
not_above n m h = le-ltb n m h

base_not_off : (o : Option Base) (n : ℕ) (end : ℤ) → BaseBelow o n → is_off o n end ≡ false
base_not_off None n end h = refl
base_not_off (Some b) n end h = rw (not_above n b.number h) refl

last_not_off : (o : Option RevocationList) (end : ℤ) (es : List Event) → LastUnsealed (number_of o) end o es
last_not_off None end es = tt
last_not_off (Some l) end es = go l.kind
  where
    go : (kind : ListKind) → Unsealed l.number end kind l.number l.this_update es
    go Complete = λ a b. absurd (both_ways (nat_lt l.number l.number) (not_above l.number l.number (omega arith)) a)
    go Delta = tt

pub held_at_first : (s : State) (end : ℤ) (es : List Event) → BaseBelow s.base (number_of s.last) → has_later_list end es ≡ false
    → HeldBack (number_of s.last) end s es
held_at_first s end es below isnt = (base_not_off s.base (number_of s.last) end below, last_not_off s.last end es, isnt)

pub new_since : (o : Option Base) (b : Base) (since : ℕ) → o ≡ Some b → b.number ≤ since → is_new o since ≡ true
new_since o b since is h = rw is (le-leb b.number since h)
