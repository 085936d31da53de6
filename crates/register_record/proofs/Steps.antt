-- What one event leaves of what is recorded under a serial number.
use Rattle.std.proofs.Common.{◌≡◌, ◌⊎◌, inl, inr, ℕ, ℤ, Bool, true, false, cond, List, [], ◌∷◌, ◌++◌, Option, Some, None, is_none, is_some, refl, sym, ap, subst, ◌∙◌, true≢false}
use Rattle.std.specs.List.{Contains}
use Rattle.std.specs.Option.{option_map, option_or}
use Rattle.std.specs.Str.{bytes_eq}
use Rattle.std.proofs.lemmas.List.Elements.{Contains-append_left, Contains-push}
use Rattle.register_record.specs.Following.{fault_if, final_fault, is_hold, is_on_hold, is_revoked, is_signed, issued_fault, released_fault, revoked_fault, sealing_fault}
use Rattle.register_record.specs.Laws.{ends_hold, reserves, revokes, seals}
use Rattle.register_record.specs.Records.{changed_to, made_final, sealed_as}
use Rattle.register_record.specs.declared.event.Event.{Event}
use Rattle.register_record.specs.declared.event.Event.TheVariants as event
use Rattle.register_record.specs.declared.event.Kind.{Kind}
use Rattle.register_record.specs.declared.refusal.Refusal.{Refusal}
use Rattle.register_record.specs.declared.refusal.Refusal.TheVariants as refusal
use Rattle.register_record.specs.declared.state.Certificate.{Certificate}
use Rattle.register_record.specs.declared.state.Change.TheVariants.{Revoked, Released}
use Rattle.register_record.specs.declared.state.Content.{Content}
use Rattle.register_record.specs.declared.state.Content.TheVariants.{Pending, Sealed}
use Rattle.register_record.proofs.Found.{allowed, fresh, moved, same_bytes}

-- what a change under a serial number doesn't touch
pub cond_keeps : {A : Type 0} (p : Certificate → A) (f : Certificate → Certificate) → ((c : Certificate) → p (f c) ≡ p c)
    → (b : Bool) (c : Certificate) → option_map p (cond b (option_map f (Some c)) (Some c)) ≡ Some (p c)
cond_keeps p f keeps true c = ap Some (keeps c)
cond_keeps p f keeps false c = refl

-- ---- it is taken

some_after : (b : Bool) (x y : Certificate) → is_some (cond b (Some x) (Some y)) ≡ true
some_after true x y = refl
some_after false x y = refl

pub taken_step : (q : List ℕ) (n : ℕ) (c : Certificate) (e : Event) → allowed q (Some c) e ≡ true
    → (is_some (moved q n (Some c) e) ≡ true) × (reserves q e ≡ false)
taken_step q n c (event.Issuer certificate) ok = (refl, refl)
taken_step q n c (event.Reserved serial kind not_after message) ok = (refl, go (bytes_eq serial q) ok)
  where
    go : (b : Bool) → cond b false true ≡ true → b ≡ false
    go true e = absurd (true≢false (sym e))
    go false e = refl
taken_step q n c (event.Sealed serial octets) ok = (some_after (bytes_eq serial q) (sealed_as octets c) c, refl)
taken_step q n c (event.Revoked serial r) ok = (some_after (bytes_eq serial q) (changed_to (Revoked r) n c) c, refl)
taken_step q n c (event.MadeFinal serial r) ok = (some_after (bytes_eq serial q) (made_final r n c) c, refl)
taken_step q n c (event.Released serial time) ok = (some_after (bytes_eq serial q) (changed_to (Released time) n c) c, refl)
taken_step q n c (event.ListReserved number kind a b message) ok = (refl, refl)
taken_step q n c (event.ListSealed number octets) ok = (refl, refl)

-- ---- the end of its validity

pub end_step : (q : List ℕ) (n : ℕ) (c : Certificate) (e : Event) → option_map (λ x. x.not_after) (moved q n (Some c) e) ≡ Some c.not_after
end_step q n c (event.Issuer certificate) = refl
end_step q n c (event.Reserved serial kind not_after message) = refl
end_step q n c (event.Sealed serial octets) = cond_keeps (λ x. x.not_after) (sealed_as octets) (λ _. refl) (bytes_eq serial q) c
end_step q n c (event.Revoked serial r) = cond_keeps (λ x. x.not_after) (changed_to (Revoked r) n) (λ _. refl) (bytes_eq serial q) c
end_step q n c (event.MadeFinal serial r) = cond_keeps (λ x. x.not_after) (made_final r n) (λ _. refl) (bytes_eq serial q) c
end_step q n c (event.Released serial time) = cond_keeps (λ x. x.not_after) (changed_to (Released time) n) (λ _. refl) (bytes_eq serial q) c
end_step q n c (event.ListReserved number kind a b message) = refl
end_step q n c (event.ListSealed number octets) = refl

-- ---- its octets

already : (content : Content) (old new : List ℕ) → content ≡ Sealed old → is_none (sealing_fault content new) ≡ true → ⊥
already (Pending message) old new is ok = absurd (cc)
already (Sealed octets) old new is ok = true≢false (sym ok)

pub sealed_step : (q : List ℕ) (n : ℕ) (c : Certificate) (e : Event) (octets : List ℕ) → c.content ≡ Sealed octets → allowed q (Some c) e ≡ true
    → (option_map (λ x. x.content) (moved q n (Some c) e) ≡ Some (Sealed octets)) × (seals q e ≡ false)
sealed_step q n c (event.Issuer certificate) octets is ok = (ap Some is, refl)
sealed_step q n c (event.Reserved serial kind not_after message) octets is ok = (ap Some is, refl)
sealed_step q n c (event.Sealed serial new) octets is ok = go (bytes_eq serial q) ok
  where
    go : (b : Bool) → cond b (is_none (sealing_fault c.content new)) true ≡ true
        → (option_map (λ x. x.content) (cond b (Some (sealed_as new c)) (Some c)) ≡ Some (Sealed octets)) × (b ≡ false)
    go true e = absurd (already c.content octets new is e)
    go false e = (ap Some is, refl)
sealed_step q n c (event.Revoked serial r) octets is ok =
    (cond_keeps (λ x. x.content) (changed_to (Revoked r) n) (λ _. refl) (bytes_eq serial q) c ∙ ap Some is, refl)
sealed_step q n c (event.MadeFinal serial r) octets is ok =
    (cond_keeps (λ x. x.content) (made_final r n) (λ _. refl) (bytes_eq serial q) c ∙ ap Some is, refl)
sealed_step q n c (event.Released serial time) octets is ok =
    (cond_keeps (λ x. x.content) (changed_to (Released time) n) (λ _. refl) (bytes_eq serial q) c ∙ ap Some is, refl)
sealed_step q n c (event.ListReserved number kind a b message) octets is ok = (ap Some is, refl)
sealed_step q n c (event.ListSealed number new) octets is ok = (ap Some is, refl)

-- ---- its status

-- it stays as it is, where it is sealed, isn't revoked again, and no hold of it ends
not_again : (c : Certificate) → is_revoked c.change ≡ true → is_none (revoked_fault c) ≡ true → ⊥
not_again c is ok = go (issued_fault c.content) (is_revoked c.change) is ok
  where
    go : (o : Option Refusal) (b : Bool) → b ≡ true → is_none (option_or o (cond b (Some refusal.AlreadyRevoked) None)) ≡ true → ⊥
    go None true is ok = true≢false (sym ok)
    go None false is ok = true≢false (sym is)
    go (Some x) b is ok = true≢false (sym ok)

no_hold : (a b : Bool) (x y : Option Refusal) → a ≡ false → is_none (cond a x (Some refusal.NotOnHold)) ≡ true → ⊥
no_hold true b x y is ok = true≢false is
no_hold false b x y is ok = true≢false (sym ok)

pub still_step : (q : List ℕ) (n : ℕ) (c : Certificate) (e : Event) (octets : List ℕ) → c.content ≡ Sealed octets → allowed q (Some c) e ≡ true
    → (revokes q e ≡ false) ⊎ (is_revoked c.change ≡ true) → (ends_hold q e ≡ false) ⊎ (is_on_hold c.change ≡ false)
    → moved q n (Some c) e ≡ Some c
still_step q n c (event.Issuer certificate) octets is ok r h = refl
still_step q n c (event.Reserved serial kind not_after message) octets is ok r h = refl
still_step q n c (event.Sealed serial new) octets is ok r h = go (bytes_eq serial q) ok
  where
    go : (b : Bool) → cond b (is_none (sealing_fault c.content new)) true ≡ true → cond b (Some (sealed_as new c)) (Some c) ≡ Some c
    go true e = absurd (already c.content octets new is e)
    go false e = refl
still_step q n c (event.Revoked serial x) octets is ok r h = go (bytes_eq serial q) ok r
  where
    go : (b : Bool) → cond b (is_none (revoked_fault c)) true ≡ true → (b ≡ false) ⊎ (is_revoked c.change ≡ true)
        → cond b (Some (changed_to (Revoked x) n c)) (Some c) ≡ Some c
    go true e (inl isnt) = absurd (true≢false isnt)
    go true e (inr was) = absurd (not_again c was e)
    go false e r = refl
still_step q n c (event.MadeFinal serial x) octets is ok r h = go (bytes_eq serial q) ok h
  where
    go : (b : Bool) → cond b (is_none (final_fault x c)) true ≡ true → (b ≡ false) ⊎ (is_on_hold c.change ≡ false)
        → cond b (Some (made_final x n c)) (Some c) ≡ Some c
    go true e (inl isnt) = absurd (true≢false isnt)
    go true e (inr isnt) = absurd (no_hold (is_on_hold c.change) true (cond (is_hold x.reason) (Some refusal.AlreadyOnHold) None) None isnt e)
    go false e h = refl
still_step q n c (event.Released serial time) octets is ok r h = go (bytes_eq serial q) ok h
  where
    go : (b : Bool) → cond b (is_none (released_fault c)) true ≡ true → (b ≡ false) ⊎ (is_on_hold c.change ≡ false)
        → cond b (Some (changed_to (Released time) n c)) (Some c) ≡ Some c
    go true e (inl isnt) = absurd (true≢false isnt)
    go true e (inr isnt) = absurd (no_hold (is_on_hold c.change) true None None isnt e)
    go false e h = refl
still_step q n c (event.ListReserved number kind a b message) octets is ok r h = refl
still_step q n c (event.ListSealed number new) octets is ok r h = refl

-- ---- where it comes from

-- it was reserved among the events, for this message while that is pending
abbrev pub comes_from : List Event → List ℕ → Kind → ℤ → Content → Type 0
comes_from past q kind not_after (Pending message) = Contains past (event.Reserved q kind not_after message)
comes_from past q kind not_after (Sealed octets) = Unit {0}

abbrev pub Traced : List Event → List ℕ → Option Certificate → Type 0
Traced past q None = Unit {0}
Traced past q (Some c) = comes_from past q c.kind c.not_after c.content

later : (past : List Event) (e : Event) (q : List ℕ) (kind : Kind) (not_after : ℤ) (content : Content) → comes_from past q kind not_after content
    → comes_from (past ++ e ∷ []) q kind not_after content
later past e q kind not_after (Pending message) h = Contains-append_left past (e ∷ []) (event.Reserved q kind not_after message) h
later past e q kind not_after (Sealed octets) h = tt

traced_on : (past : List Event) (e : Event) (q : List ℕ) (o : Option Certificate) → Traced past q o → Traced (past ++ e ∷ []) q o
traced_on past e q None h = tt
traced_on past e q (Some c) h = later past e q c.kind c.not_after c.content h

traced_cond : (past : List Event) (q : List ℕ) (b : Bool) (f : Certificate → Certificate) (o : Option Certificate)
    → ((c : Certificate) → comes_from past q c.kind c.not_after c.content → comes_from past q (f c).kind (f c).not_after (f c).content)
    → Traced past q o → Traced past q (cond b (option_map f o) o)
traced_cond past q true f None step h = h
traced_cond past q true f (Some c) step h = step c h
traced_cond past q false f o step h = h

pub traced_step : (past : List Event) (q : List ℕ) (n : ℕ) (o : Option Certificate) (e : Event) → Traced past q o → Traced (past ++ e ∷ []) q (moved q n o e)
traced_step past q n o (event.Issuer certificate) h = traced_on past (event.Issuer certificate) q o h
traced_step past q n None (event.Reserved serial kind not_after message) h = go (bytes_eq serial q) refl
  where
    go : (b : Bool) → bytes_eq serial q ≡ b
        → Traced (past ++ event.Reserved serial kind not_after message ∷ []) q (cond b (Some (fresh serial kind not_after message)) None)
    go true is =
        subst (λ x. Contains (past ++ event.Reserved serial kind not_after message ∷ []) (event.Reserved x kind not_after message)) (same_bytes serial q is)
        (Contains-push past (event.Reserved serial kind not_after message))
    go false is = tt
traced_step past q n (Some c) (event.Reserved serial kind not_after message) h = traced_on past (event.Reserved serial kind not_after message) q (Some c) h
traced_step past q n o (event.Sealed serial octets) h =
    traced_cond (past ++ event.Sealed serial octets ∷ []) q (bytes_eq serial q) (sealed_as octets) o
    (λ _ _. tt) (traced_on past (event.Sealed serial octets) q o h)
traced_step past q n o (event.Revoked serial r) h =
    traced_cond (past ++ event.Revoked serial r ∷ []) q (bytes_eq serial q) (changed_to (Revoked r) n) o
    (λ _ x. x) (traced_on past (event.Revoked serial r) q o h)
traced_step past q n o (event.MadeFinal serial r) h =
    traced_cond (past ++ event.MadeFinal serial r ∷ []) q (bytes_eq serial q) (made_final r n) o (λ _ x. x) (traced_on past (event.MadeFinal serial r) q o h)
traced_step past q n o (event.Released serial time) h =
    traced_cond (past ++ event.Released serial time ∷ []) q (bytes_eq serial q) (changed_to (Released time) n) o (λ _ x. x)
    (traced_on past (event.Released serial time) q o h)
traced_step past q n o (event.ListReserved number kind a b message) h = traced_on past (event.ListReserved number kind a b message) q o h
traced_step past q n o (event.ListSealed number octets) h = traced_on past (event.ListSealed number octets) q o h

-- what a sealing that is allowed says of what was pending
pub sealing_says : (past : List Event) (q octets : List ℕ) (o : Option Certificate) → Traced past q o
    → is_none (fault_if (λ c. sealing_fault c.content octets) o) ≡ true
    → (kind : Kind) × (not_after : ℤ) × (message : List ℕ) × Contains past (event.Reserved q kind not_after message) × (is_signed message octets ≡ true)
sealing_says past q octets None h ok = absurd (true≢false (sym ok))
sealing_says past q octets (Some c) h ok = go c.content h ok
  where
    signed : (b : Bool) → is_none (cond b None (Some refusal.OtherMessage)) ≡ true → b ≡ true
    signed true e = refl
    signed false e = absurd (true≢false (sym e))

    go : (content : Content) → comes_from past q c.kind c.not_after content → is_none (sealing_fault content octets) ≡ true
        → (kind : Kind) × (not_after : ℤ) × (message : List ℕ) × Contains past (event.Reserved q kind not_after message) × (is_signed message octets ≡ true)
    go (Pending message) h ok = (c.kind, c.not_after, message, h, signed (is_signed message octets) ok)
    go (Sealed old) h ok = absurd (true≢false (sym ok))
