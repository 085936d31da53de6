-- What is recorded under a serial number, after one more event.
use Rattle.std.proofs.Common.{◌≡◌, ℕ, ℤ, Bool, true, false, not, cond, List, [], ◌∷◌, ◌++◌, Option, Some, None, is_none, is_some, refl, sym, ap, subst, ◌∙◌, true≢false}
use Rattle.std.specs.Option.{option_map, option_or}
use Rattle.std.specs.Str.{bytes_eq}
use Rattle.std.proofs.lemmas.Bool.{both_ways}
use Rattle.std.proofs.lemmas.Slice.Eq.{bytes_eq-Decides}
use Rattle.register_record.specs.Following.{fault_if, final_fault, is_serial, may_follow, released_fault, reserved_fault, revoked_fault, sealing_fault}
use Rattle.register_record.specs.Records.{State, after, changed, changed_to, found, has_serial, made_final, number_of, sealed_as}
use Rattle.register_record.specs.declared.event.Event.{Event}
use Rattle.register_record.specs.declared.event.Event.TheVariants as event
use Rattle.register_record.specs.declared.event.Kind.{Kind}
use Rattle.register_record.specs.declared.refusal.Refusal.TheVariants as refusal
use Rattle.register_record.specs.declared.state.Certificate.{Certificate}
use Rattle.register_record.specs.declared.state.Change.TheVariants.{Revoked, Released}
use Rattle.register_record.specs.declared.state.Content.TheVariants.{Pending}

pub same_bytes : (a b : List ℕ) → bytes_eq a b ≡ true → a ≡ b
same_bytes a b e = (bytes_eq-Decides a b).0 e

pub self_same : (a : List ℕ) → bytes_eq a a ≡ true
self_same a = (bytes_eq-Decides a a).1 refl

pub found_push : (q : List ℕ) (cs : List Certificate) (c : Certificate)
    → found q (cs ++ c ∷ []) ≡ option_or (found q cs) (cond (has_serial q c) (Some c) None)
found_push q [] c = refl
found_push q (x ∷ cs) c = go (has_serial q x) (found_push q cs c)
  where
    go : (b : Bool) → found q (cs ++ c ∷ []) ≡ option_or (found q cs) (cond (has_serial q c) (Some c) None)
        → cond b (Some x) (found q (cs ++ c ∷ [])) ≡ option_or (cond b (Some x) (found q cs)) (cond (has_serial q c) (Some c) None)
    go true rest = refl
    go false rest = rest

pub found_serial : (q : List ℕ) (cs : List Certificate) (c : Certificate) → found q cs ≡ Some c → c.serial ≡ q
found_serial q [] c e = absurd (cc)
found_serial q (x ∷ cs) c e = go (has_serial q x) refl (found_serial q cs c) e
  where
    go : (b : Bool) → has_serial q x ≡ b → (found q cs ≡ Some c → c.serial ≡ q) → cond b (Some x) (found q cs) ≡ Some c → c.serial ≡ q
    go true is rest e = let same : x ≡ c = cc in ap (λ (y : Certificate). y.serial) (sym same) ∙ same_bytes x.serial q is
    go false is rest e = rest e

pub found_changed : (q s : List ℕ) (f : Certificate → Certificate) (cs : List Certificate) → ((c : Certificate) → (f c).serial ≡ c.serial)
    → found q (changed s f cs) ≡ cond (bytes_eq s q) (option_map f (found q cs)) (found q cs)
found_changed q s f [] keeps = same (bytes_eq s q) None
  where
    same : (b : Bool) (o : Option Certificate) → o ≡ cond b o o
    same true o = refl
    same false o = refl
found_changed q s f (c ∷ cs) keeps = go (has_serial s c) refl (found_changed q s f cs keeps)
  where
    same : (b : Bool) → cond b (Some (f c)) (found q cs) ≡ cond b (option_map f (cond b (Some c) (found q cs))) (cond b (Some c) (found q cs))
    same true = refl
    same false = refl

    other : (b t : Bool) → (b ≡ true → t ≡ false)
        → found q (changed s f cs) ≡ cond t (option_map f (found q cs)) (found q cs)
        → cond b (Some c) (found q (changed s f cs)) ≡ cond t (option_map f (cond b (Some c) (found q cs))) (cond b (Some c) (found q cs))
    other true true unlike rest = absurd (true≢false (unlike refl))
    other true false unlike rest = refl
    other false t unlike rest = rest

    apart : (t : Bool) → has_serial s c ≡ false → bytes_eq s q ≡ t → has_serial q c ≡ true → t ≡ false
    apart true is isq isc = absurd (both_ways (bytes_eq c.serial s) is (subst (λ x. bytes_eq c.serial x ≡ true) (sym (same_bytes s q isq)) isc))
    apart false is isq isc = refl

    go : (b : Bool) → has_serial s c ≡ b → found q (changed s f cs) ≡ cond (bytes_eq s q) (option_map f (found q cs)) (found q cs)
        → found q (cond b (f c ∷ cs) (c ∷ changed s f cs)) ≡ cond (bytes_eq s q) (option_map f (found q (c ∷ cs))) (found q (c ∷ cs))
    go true is rest =
        let at : c.serial ≡ s = same_bytes c.serial s is in
        ap (λ x. cond (bytes_eq x q) (Some (f c)) (found q cs)) (keeps c)
        ∙ subst (λ x. cond (bytes_eq c.serial q) (Some (f c)) (found q cs)
        ≡ cond (bytes_eq x q) (option_map f (cond (bytes_eq c.serial q) (Some c) (found q cs))) (cond (bytes_eq c.serial q) (Some c) (found q cs))) at (same
        (bytes_eq c.serial q))
    go false is rest = other (has_serial q c) (bytes_eq s q) (apart (bytes_eq s q) is refl) rest

-- ---- one serial number

abbrev pub fresh : List ℕ → Kind → ℤ → List ℕ → Certificate
fresh serial kind not_after message = record { serial = serial; kind = kind; not_after = not_after; content = Pending message; change = None; since = 0 }

-- what is recorded under q after an event, where n is the last list's number
abbrev pub moved : List ℕ → ℕ → Option Certificate → Event → Option Certificate
moved q n o (event.Issuer certificate) = o
moved q n o (event.Reserved serial kind not_after message) = option_or o (cond (bytes_eq serial q) (Some (fresh serial kind not_after message)) None)
moved q n o (event.Sealed serial octets) = cond (bytes_eq serial q) (option_map (sealed_as octets) o) o
moved q n o (event.Revoked serial r) = cond (bytes_eq serial q) (option_map (changed_to (Revoked r) n) o) o
moved q n o (event.MadeFinal serial r) = cond (bytes_eq serial q) (option_map (made_final r n) o) o
moved q n o (event.Released serial time) = cond (bytes_eq serial q) (option_map (changed_to (Released time) n) o) o
moved q n o (event.ListReserved number kind a b message) = o
moved q n o (event.ListSealed number octets) = o

pub found_after : (q : List ℕ) (s : State) (e : Event) → found q (after s e).certificates ≡ moved q (number_of s.last) (found q s.certificates) e
found_after q s (event.Issuer certificate) = refl
found_after q s (event.Reserved serial kind not_after message) = found_push q s.certificates (fresh serial kind not_after message)
found_after q s (event.Sealed serial octets) = found_changed q serial (sealed_as octets) s.certificates (λ _. refl)
found_after q s (event.Revoked serial r) = found_changed q serial (changed_to (Revoked r) (number_of s.last)) s.certificates (λ _. refl)
found_after q s (event.MadeFinal serial r) = found_changed q serial (made_final r (number_of s.last)) s.certificates (λ _. refl)
found_after q s (event.Released serial time) = found_changed q serial (changed_to (Released time) (number_of s.last)) s.certificates (λ _. refl)
found_after q s (event.ListReserved number kind a b message) = refl
found_after q s (event.ListSealed number octets) = refl

-- what is recorded under q lets the event follow
abbrev pub allowed : List ℕ → Option Certificate → Event → Bool
allowed q o (event.Issuer certificate) = true
allowed q o (event.Reserved serial kind not_after message) = cond (bytes_eq serial q) (is_none o) true
allowed q o (event.Sealed serial octets) = cond (bytes_eq serial q) (is_none (fault_if (λ c. sealing_fault c.content octets) o)) true
allowed q o (event.Revoked serial r) = cond (bytes_eq serial q) (is_none (fault_if revoked_fault o)) true
allowed q o (event.MadeFinal serial r) = cond (bytes_eq serial q) (is_none (fault_if (final_fault r) o)) true
allowed q o (event.Released serial time) = cond (bytes_eq serial q) (is_none (fault_if released_fault o)) true
allowed q o (event.ListReserved number kind a b message) = true
allowed q o (event.ListSealed number octets) = true

-- what may be reserved is a serial number, and free
pub reserved_says : (s : State) (serial : List ℕ) → is_none (reserved_fault serial s) ≡ true → (is_serial serial ≡ true) × (found serial s.certificates ≡ None)
reserved_says s serial ok = go (is_none s.issuer) (is_serial serial) (found serial s.certificates) ok
  where
    go : (a b : Bool) (o : Option Certificate)
        → is_none (cond a (Some refusal.NoIssuer) (cond (not b) (Some refusal.NoSerialNumber) (cond (is_some o) (Some refusal.Taken) None))) ≡ true
        → (b ≡ true) × (o ≡ None)
    go true b o e = absurd (true≢false (sym e))
    go false false o e = absurd (true≢false (sym e))
    go false true None e = (refl, refl)
    go false true (Some c) e = absurd (true≢false (sym e))

-- a test of what is recorded under a serial number is one under q where that is the serial number
at_serial : (test : Option Certificate → Bool) (cs : List Certificate) (serial q : List ℕ) (b : Bool) → bytes_eq serial q ≡ b
    → test (found serial cs) ≡ true → cond b (test (found q cs)) true ≡ true
at_serial test cs serial q true is ok = subst (λ x. test (found x cs) ≡ true) (same_bytes serial q is) ok
at_serial test cs serial q false is ok = refl

pub allowed_is : (q : List ℕ) (s : State) (e : Event) → may_follow s e ≡ true → allowed q (found q s.certificates) e ≡ true
allowed_is q s (event.Issuer certificate) ok = refl
allowed_is q s (event.Reserved serial kind not_after message) ok =
    at_serial is_none s.certificates serial q (bytes_eq serial q) refl (ap is_none (reserved_says s serial ok).1)
allowed_is q s (event.Sealed serial octets) ok =
    at_serial (λ o. is_none (fault_if (λ c. sealing_fault c.content octets) o)) s.certificates serial q (bytes_eq serial q) refl ok
allowed_is q s (event.Revoked serial r) ok = at_serial (λ o. is_none (fault_if revoked_fault o)) s.certificates serial q (bytes_eq serial q) refl ok
allowed_is q s (event.MadeFinal serial r) ok = at_serial (λ o. is_none (fault_if (final_fault r) o)) s.certificates serial q (bytes_eq serial q) refl ok
allowed_is q s (event.Released serial time) ok = at_serial (λ o. is_none (fault_if released_fault o)) s.certificates serial q (bytes_eq serial q) refl ok
allowed_is q s (event.ListReserved number kind a b message) ok = refl
allowed_is q s (event.ListSealed number octets) ok = refl
