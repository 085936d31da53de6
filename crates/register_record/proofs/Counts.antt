-- How often a serial number is among the certificates and the entries.
use Rattle.std.proofs.Common.{◌≡◌, ◌≤◌, ◌+◌, ℕ, suc, ℤ, Bool, true, false, ◌||◌, cond, length, List, [], ◌∷◌, ◌++◌, Option, Some, None, refl, sym, ap, subst, ◌∙◌, arith, true≢false}
use Rattle.std.specs.List.{filter, filter_map, cons_option, list_any}
use Rattle.std.specs.Str.{bytes_eq}
use Rattle.std.proofs.lemmas.Bool.{and_parts, both_ways}
use Rattle.register_record.specs.Following.{may_follow, may_go_on}
use Rattle.register_record.specs.Laws.{is_of}
use Rattle.register_record.specs.Lists.{entry, in_complete, in_delta, in_list, is_new, is_off}
use Rattle.register_record.specs.Records.{State, after, changed, changed_to, found, has_serial, made_final, number_of, run, sealed_as}
use Rattle.register_record.specs.declared.event.Event.{Event}
use Rattle.register_record.specs.declared.event.Event.TheVariants as event
use Rattle.register_record.specs.declared.event.ListKind.{ListKind}
use Rattle.register_record.specs.declared.event.ListKind.TheVariants.{Complete, Delta}
use Rattle.register_record.specs.declared.list.Entry.{Entry}
use Rattle.register_record.specs.declared.state.Base.{Base}
use Rattle.register_record.specs.declared.state.Certificate.{Certificate}
use Rattle.register_record.specs.declared.state.Change.{Change}
use Rattle.register_record.specs.declared.state.Change.TheVariants.{Revoked, Released}
use Rattle.register_record.proofs.Found.{fresh, reserved_says, same_bytes, self_same}

abbrev pub times : List ℕ → List Certificate → ℕ
times q [] = 0
times q (c ∷ cs) = cond (has_serial q c) (suc (times q cs)) (times q cs)

times_none : (q : List ℕ) (cs : List Certificate) → found q cs ≡ None → times q cs ≡ 0
times_none q [] none = refl
times_none q (c ∷ cs) none = go (has_serial q c) (times_none q cs) none
  where
    go : (b : Bool) → (found q cs ≡ None → times q cs ≡ 0) → cond b (Some c) (found q cs) ≡ None → cond b (suc (times q cs)) (times q cs) ≡ 0
    go true rest none = absurd (cc)
    go false rest none = rest none

times_push : (q : List ℕ) (cs : List Certificate) (c : Certificate) → times q (cs ++ c ∷ []) ≡ cond (has_serial q c) (suc (times q cs)) (times q cs)
times_push q [] c = refl
times_push q (x ∷ cs) c = go (has_serial q x) (has_serial q c) (times_push q cs c)
  where
    go : (a b : Bool) → times q (cs ++ c ∷ []) ≡ cond b (suc (times q cs)) (times q cs)
        → cond a (suc (times q (cs ++ c ∷ []))) (times q (cs ++ c ∷ [])) ≡ cond b (suc (cond a (suc (times q cs)) (times q cs))) (cond a (suc (times q cs)) (times q cs))
    go true true is = ap suc is
    go true false is = ap suc is
    go false true is = is
    go false false is = is

times_changed : (q s : List ℕ) (f : Certificate → Certificate) (cs : List Certificate) → ((c : Certificate) → (f c).serial ≡ c.serial)
    → times q (changed s f cs) ≡ times q cs
times_changed q s f [] keeps = refl
times_changed q s f (c ∷ cs) keeps = go (has_serial s c) (times_changed q s f cs keeps)
  where
    go : (b : Bool) → times q (changed s f cs) ≡ times q cs → times q (cond b (f c ∷ cs) (c ∷ changed s f cs)) ≡ cond (has_serial q c) (suc (times q cs)) (times q cs)
    go true is = ap (λ x. cond (bytes_eq x q) (suc (times q cs)) (times q cs)) (keeps c)
    go false is = ap (λ n. cond (has_serial q c) (suc n) n) is

-- ---- no serial number is there twice

once_step : (q : List ℕ) (s : State) (e : Event) → times q s.certificates ≤ 1 → may_follow s e ≡ true → times q (after s e).certificates ≤ 1
once_step q s (event.Issuer certificate) h ok = h
once_step q s (event.Reserved serial kind not_after message) h ok =
    subst (λ n. n ≤ 1) (sym (times_push q s.certificates (fresh serial kind not_after message))) (go (bytes_eq serial q) refl)
  where
    go : (b : Bool) → bytes_eq serial q ≡ b → cond b (suc (times q s.certificates)) (times q s.certificates) ≤ 1
    go true is =
        let none : times q s.certificates ≡ 0 =
        subst (λ x. times x s.certificates ≡ 0) (same_bytes serial q is) (times_none serial s.certificates (reserved_says s serial ok).1) in
        omega (arith, none)
    go false is = h
once_step q s (event.Sealed serial octets) h ok = subst (λ n. n ≤ 1) (sym (times_changed q serial (sealed_as octets) s.certificates (λ _. refl))) h
once_step q s (event.Revoked serial r) h ok =
    subst (λ n. n ≤ 1) (sym (times_changed q serial (changed_to (Revoked r) (number_of s.last)) s.certificates (λ _. refl))) h
once_step q s (event.MadeFinal serial r) h ok =
    subst (λ n. n ≤ 1) (sym (times_changed q serial (made_final r (number_of s.last)) s.certificates (λ _. refl))) h
once_step q s (event.Released serial time) h ok =
    subst (λ n. n ≤ 1) (sym (times_changed q serial (changed_to (Released time) (number_of s.last)) s.certificates (λ _. refl))) h
once_step q s (event.ListReserved number kind a b message) h ok = h
once_step q s (event.ListSealed number octets) h ok = h

pub once_run : (q : List ℕ) (s : State) (es : List Event) → times q s.certificates ≤ 1 → may_go_on s es ≡ true → times q (run s es).certificates ≤ 1
once_run q s [] h ok = h
once_run q s (e ∷ es) h ok =
    let both = and_parts (may_follow s e) (may_go_on (after s e) es) ok in once_run q (after s e) es (once_step q s e h both.0) both.1

-- ---- entries

complete_serial : (base : Option Base) (q : List ℕ) (end : ℤ) (since : ℕ) (o : Option Change) (e : Entry) → in_complete base q end since o ≡ Some e → e.serial ≡ q
complete_serial base q end since None e is = absurd (cc)
complete_serial base q end since (Some (Released time)) e is = absurd (cc)
complete_serial base q end since (Some (Revoked r)) e is = go (is_off base since end) is
  where
    go : (b : Bool) → cond b None (Some (entry q (Revoked r))) ≡ Some e → e.serial ≡ q
    go true is = absurd (cc)
    go false is = let same : entry q (Revoked r) ≡ e = cc in ap (λ (x : Entry). x.serial) (sym same)

delta_serial : (base : Option Base) (q : List ℕ) (since : ℕ) (o : Option Change) (e : Entry) → in_delta base q since o ≡ Some e → e.serial ≡ q
delta_serial base q since None e is = absurd (cc)
delta_serial base q since (Some change) e is = go (is_new base since) is
  where
    go : (b : Bool) → cond b (Some (entry q change)) None ≡ Some e → e.serial ≡ q
    go true is = let same : entry q change ≡ e = cc in ap (λ (x : Entry). x.serial) (sym same)
    go false is = absurd (cc)

entry_serial : (kind : ListKind) (base : Option Base) (c : Certificate) (e : Entry) → in_list kind base c ≡ Some e → e.serial ≡ c.serial
entry_serial Complete base c e is = complete_serial base c.serial c.not_after c.since c.change e is
entry_serial Delta base c e is = delta_serial base c.serial c.since c.change e is

pub at_most : (kind : ListKind) (base : Option Base) (q : List ℕ) (cs : List Certificate) → length (filter (is_of q) (filter_map (in_list kind base) cs)) ≤ times q cs
at_most kind base q [] = omega arith
at_most kind base q (c ∷ cs) = go (in_list kind base c) refl (at_most kind base q cs)
  where
    more : (b : Bool) → length (filter (is_of q) (filter_map (in_list kind base) cs)) ≤ times q cs
        → length (filter (is_of q) (filter_map (in_list kind base) cs)) ≤ cond b (suc (times q cs)) (times q cs)
    more true h = omega (arith, h)
    more false h = h

    here : (b : Bool) (e : Entry) → is_of q e ≡ b → length (filter (is_of q) (filter_map (in_list kind base) cs)) ≤ times q cs
        → length (filter (is_of q) (e ∷ filter_map (in_list kind base) cs)) ≤ cond b (suc (times q cs)) (times q cs)
    here true e is h = rw is (omega (arith, h))
    here false e is h = rw is h

    go : (o : Option Entry) → in_list kind base c ≡ o → length (filter (is_of q) (filter_map (in_list kind base) cs)) ≤ times q cs
        → length (filter (is_of q) (cons_option o (filter_map (in_list kind base) cs))) ≤ cond (has_serial q c) (suc (times q cs)) (times q cs)
    go None is h = more (has_serial q c) h
    go (Some e) is h = here (has_serial q c) e (ap (λ x. bytes_eq x q) (entry_serial kind base c e is)) h

-- what isn't among the certificates has no entry
unlisted : (kind : ListKind) (base : Option Base) (q : List ℕ) (cs : List Certificate) → times q cs ≡ 0 → list_any (is_of q) (filter_map (in_list kind base) cs) ≡ false
unlisted kind base q [] none = refl
unlisted kind base q (c ∷ cs) none = go (in_list kind base c) refl (has_serial q c) refl (unlisted kind base q cs) none
  where
    go : (o : Option Entry) → in_list kind base c ≡ o → (b : Bool) → has_serial q c ≡ b
        → (times q cs ≡ 0 → list_any (is_of q) (filter_map (in_list kind base) cs) ≡ false)
        → cond b (suc (times q cs)) (times q cs) ≡ 0 → list_any (is_of q) (cons_option o (filter_map (in_list kind base) cs)) ≡ false
    go o is true isq rest none = absurd (omega (arith, none))
    go None is false isq rest none = rest none
    go (Some e) is false isq rest none = rw (ap (λ x. bytes_eq x q) (entry_serial kind base c e is) ∙ isq) (rest none)

-- what was released is on no complete list
pub released_unlisted : (base : Option Base) (q : List ℕ) (cs : List Certificate) (d : Certificate) (time : ℤ) → times q cs ≤ 1 → found q cs ≡ Some d
    → d.change ≡ Some (Released time) → list_any (is_of q) (filter_map (in_list Complete base) cs) ≡ false
released_unlisted base q [] d time once at is = refl
released_unlisted base q (c ∷ cs) d time once at is = go (has_serial q c) refl (in_list Complete base c) refl (released_unlisted base q cs d time) once at
  where
    no_entry : c ≡ d → in_list Complete base c ≡ None
    no_entry same = ap (λ o. in_complete base c.serial c.not_after c.since o) (ap (λ (x : Certificate). x.change) same ∙ is)

    go : (b : Bool) → has_serial q c ≡ b → (o : Option Entry) → in_list Complete base c ≡ o
        → (times q cs ≤ 1 → found q cs ≡ Some d → d.change ≡ Some (Released time) → list_any (is_of q) (filter_map (in_list Complete base) cs) ≡ false)
        → cond b (suc (times q cs)) (times q cs) ≤ 1 → cond b (Some c) (found q cs) ≡ Some d
        → list_any (is_of q) (cons_option o (filter_map (in_list Complete base) cs)) ≡ false
    go true isq None made rest once at = unlisted Complete base q cs (omega (arith, once))
    go true isq (Some e) made rest once at = absurd (let same : c ≡ d = cc in let none = sym made ∙ no_entry same in cc)
    go false isq None made rest once at = rest once at is
    go false isq (Some e) made rest once at = rw (ap (λ x. bytes_eq x q) (entry_serial Complete base c e made) ∙ isq) (rest once at is)
