-- What comes of a path, and which reasons hold: one is the other.
use Rattle.std.specs.Prelude.{Bool, List, None, Option, Some, false, find, length, refl, suc, true, zero, ℕ, [], ◌==◌, ◌+◌, ◌<◌, ◌∷◌, ◌≡◌, ◌↔◌, ◌⊎◌}
use Rattle.std.proofs.Common.{ap, arith, inl, inr, subst, sym, ◌∙◌, ne_eqb}
use Rattle.asn1_core.specs.Binds.{some_is, ◌>>=◌}
use Rattle.pkix_cert.specs.Views.{CertificateParts}
use Rattle.path_validation.specs.Certificates.{read_certificate}
use Rattle.path_validation.specs.Outcomes.{ComesBefore, IsFirst, IsValid, Outcome, behind, given, given_from, holds, holds_from, holds_here, if_read}
use Rattle.path_validation.specs.Outcomes.{invalid, outcome, outcome_from, reason_number, state_behind, valid}
use Rattle.path_validation.specs.States.{first_state, with_policies_of}
use Rattle.path_revocation.specs.Lists.{Accepts}
use Rattle.path_validation.specs.Steps.{Place, breaks, failing_or, given_by, judged, judged_if_read, passing, step_at, steps}
use Rattle.path_validation.specs.declared.certificate.PathCertificate.{PathCertificate}
use Rattle.path_validation.specs.declared.error.PathReason.{PathReason}
use Rattle.path_validation.specs.declared.error.PathReason.TheVariants as reason
use Rattle.path_validation.specs.declared.inputs.PathInputs.{PathInputs}
use Rattle.path_validation.specs.declared.inputs.ValidPath.{ValidPath}
use Rattle.path_validation.specs.declared.state.State.{State}
use Rattle.path_validation.proofs.Orders.{IsLeast, least, not_zero, total}

-- ---- after so many certificates

-- which reason holds so many further on
abbrev Holding : Type 0
Holding = ℕ → PathReason → Bool

record Here (h : Holding) (passed i : ℕ) (r : PathReason) : Type 0 where
  further : ℕ
  place : i ≡ passed + further + 1
  there : h further r ≡ true
  before : (j : ℕ) (q : PathReason) → ComesBefore j q further r → h j q ≡ false

abbrev Explains : Holding → Option ValidPath → ℕ → Outcome → Type 0
Explains h g passed (valid v) = ((k : ℕ) (r : PathReason) → h k r ≡ false) × (g ≡ Some v)
Explains h g passed (invalid i r) = Here h passed i r

same : (h k : Holding) → ((j : ℕ) (r : PathReason) → k j r ≡ h j r) → (g : Option ValidPath) (passed : ℕ) (o : Outcome) → Explains h g passed o
    → Explains k g passed o
same h k e g passed (valid v) x = (λ j r. e j r ∙ x.0 j r, x.1)
same h k e g passed (invalid i r) x =
    record { further = x.further; place = x.place; there = e x.further r ∙ x.there; before = λ j q b. e j q ∙ x.before j q b }

-- of the next one, and of those after it
abbrev one_on : (PathReason → Bool) → Holding → Holding
one_on now later zero r = now r
one_on now later (suc k) r = later k r

earlier_on : (j k : ℕ) (q r : PathReason) → ComesBefore (suc j) q (suc k) r → ComesBefore j q k r
earlier_on j k q r (inl l) = inl (omega arith)
earlier_on j k q r (inr (e, l)) = inr (omega arith, l)

none_here : (now : PathReason → Bool) (later : Holding) (r : PathReason) → ((q : PathReason) → reason_number q < reason_number r → now q ≡ false)
    → (j : ℕ) (q : PathReason) → ComesBefore j q 0 r → one_on now later j q ≡ false
none_here now later r none j q (inl l) = absurd (omega arith)
none_here now later r none zero q (inr (e, l)) = none q l
none_here now later r none (suc j) q (inr (e, l)) = absurd (omega arith)

fails_here : (now : PathReason → Bool) (later : Holding) (passed : ℕ) (r : PathReason) → now r ≡ true → ((q : PathReason)
    → reason_number q < reason_number r → now q ≡ false) → Here (one_on now later) passed (passed + 1) r
fails_here now later passed r e none = record { further = 0; place = omega arith; there = e; before = none_here now later r none }

none_so_far : (now : PathReason → Bool) (later : Holding) → ((q : PathReason) → now q ≡ false) → ((k : ℕ) (q : PathReason) → later k q ≡ false)
    → (k : ℕ) (q : PathReason) → one_on now later k q ≡ false
none_so_far now later e f zero q = e q
none_so_far now later e f (suc k) q = f k q

none_before_later : (now : PathReason → Bool) (later : Holding) (k : ℕ) (r : PathReason) → ((q : PathReason) → now q ≡ false)
    → ((j : ℕ) (q : PathReason) → ComesBefore j q k r → later j q ≡ false) → (j : ℕ) (q : PathReason) → ComesBefore j q (suc k) r
    → one_on now later j q ≡ false
none_before_later now later k r e f zero q b = e q
none_before_later now later k r e f (suc j) q b = f j q (earlier_on j k q r b)

go_on : (now : PathReason → Bool) (later : Holding) (g : Option ValidPath) (passed : ℕ) (o : Outcome) → ((q : PathReason) → now q ≡ false)
    → Explains later g (passed + 1) o → Explains (one_on now later) g passed o
go_on now later g passed (valid v) e x = (none_so_far now later e x.0, x.1)
go_on now later g passed (invalid i r) e x =
    let at = x.place in
    record {
      further = suc x.further;
      place = omega arith;
      there = x.there;
      before = none_before_later now later x.further r e x.before;
    }

-- ---- a certificate

not_two : (q : PathReason) → reason_number q < 2 → (reason_number q == 2) ≡ false
not_two q l = ne_eqb (reason_number q) 2 (λ e. omega arith)

module _ (accepts : Accepts) (x : PathInputs) (passed : ℕ) (s : State) (p : CertificateParts) (follow : State → Outcome) where
  abbrev here : Bool → PathCertificate → Place
  here b c = record { passed = passed; is_last = b; state = s; parts = p; certificate = c }

  module _ (c : PathCertificate) where
    -- the last one
    last_case : (o : Option PathReason) → IsLeast (breaks accepts x (here true c)) o
        → Explains (one_on (breaks accepts x (here true c)) (λ k r. false)) (Some (given_by x (with_policies_of s true c) c)) passed
        (behind (passed + 1) (failing_or o (passing x (here true c))) follow)
    last_case None none = (none_so_far (breaks accepts x (here true c)) (λ k r. false) none (λ k q. refl), refl)
    last_case (Some r) some = fails_here (breaks accepts x (here true c)) (λ k r. false) passed r some.0 some.1

    -- another
    other_case : (later : Holding) (g : Option ValidPath) → Explains later g (passed + 1) (follow (state_behind s c))
        → (o : Option PathReason) → IsLeast (breaks accepts x (here false c)) o
        → Explains (one_on (breaks accepts x (here false c)) later) g passed (behind (passed + 1) (failing_or o (passing x (here false c))) follow)
    other_case later g then None none = go_on (breaks accepts x (here false c)) later g passed (follow (state_behind s c)) none then
    other_case later g then (Some r) some = fails_here (breaks accepts x (here false c)) later passed r some.0 some.1

  abbrev holding : Bool → Option PathCertificate → (State → Holding) → Holding
  holding b o later = one_on (holds_here accepts x passed b s p o) (λ k r. if_read o (λ c. later (state_behind s c) k r))

  bad : (later : Holding) (g : Option ValidPath) (b : Bool) → Explains (one_on (holds_here accepts x passed b s p None) later) g passed
      (behind (passed + 1) (judged_if_read accepts x passed b s p None) follow)
  bad later g b = fails_here (holds_here accepts x passed b s p None) later passed reason.BadExtension refl not_two

  last_one : (o : Option PathCertificate)
      → Explains (holding true o (λ t k r. false)) (o >>= λ c. Some (given_by x (with_policies_of s true c) c)) passed
      (behind (passed + 1) (judged_if_read accepts x passed true s p o) follow)
  unfolding judged
  last_one None = bad (λ k r. false) None true
  last_one (Some c) = last_case c (find (breaks accepts x (here true c)) steps) (least (breaks accepts x (here true c)) refl refl)

  other_one : (later : State → Holding) (g : State → Option ValidPath) → ((t : State) → Explains (later t) (g t) (passed + 1) (follow t))
      → (o : Option PathCertificate)
      → Explains (holding false o later) (o >>= λ c. g (state_behind s c)) passed (behind (passed + 1) (judged_if_read accepts x passed false s p o) follow)
  unfolding judged
  other_one later g then None = bad (λ k r. false) None false
  other_one later g then (Some c) =
      other_case c (later (state_behind s c)) (g (state_behind s c)) (then (state_behind s c)) (find (breaks accepts x (here false c)) steps)
      (least (breaks accepts x (here false c)) refl refl)

-- ---- all of them

module _ (accepts : Accepts) (x : PathInputs) where
  last_holding : (passed : ℕ) (s : State) (p : CertificateParts) (follow : State → Outcome) (k : ℕ) (r : PathReason)
      → holds_from accepts x passed s (p ∷ []) k r ≡ holding accepts x passed s p follow true (read_certificate p) (λ t k r. false) k r
  last_holding passed s p follow zero r = refl
  last_holding passed s p follow (suc k) r = refl

  other_holding : (passed : ℕ) (s : State) (p q : CertificateParts) (ps : List CertificateParts) (follow : State → Outcome) (k : ℕ) (r : PathReason)
      → holds_from accepts x passed s (p ∷ q ∷ ps) k r
      ≡ holding accepts x passed s p follow false (read_certificate p) (λ t. holds_from accepts x (passed + 1) t (q ∷ ps)) k r
  other_holding passed s p q ps follow zero r =
      let e : (length (q ∷ ps) == 0) ≡ false = ne_eqb (length (q ∷ ps)) 0 (λ f. omega arith) in
      ap (λ (b : Bool). holds_here accepts x passed b s p (read_certificate p) r) e
  other_holding passed s p q ps follow (suc k) r = refl

  explained : (passed : ℕ) (s : State) (p : CertificateParts) (ps : List CertificateParts)
      → Explains (holds_from accepts x passed s (p ∷ ps)) (given_from x s (p ∷ ps)) passed (outcome_from accepts x passed s (p ∷ ps))
  unfolding step_at
  explained passed s p [] =
      let follow : State → Outcome = λ t. outcome_from accepts x (passed + 1) t [] in
      same (holding accepts x passed s p follow true (read_certificate p) (λ t k r. false)) (holds_from accepts x passed s (p ∷ []))
      (last_holding passed s p follow) (given_from x s (p ∷ [])) passed (outcome_from accepts x passed s (p ∷ []))
      (last_one accepts x passed s p follow (read_certificate p))
  explained passed s p (q ∷ ps) =
      let follow : State → Outcome = λ t. outcome_from accepts x (passed + 1) t (q ∷ ps) in
      let later : State → Holding = λ t. holds_from accepts x (passed + 1) t (q ∷ ps) in
      let e : (length (q ∷ ps) == 0) ≡ false = ne_eqb (length (q ∷ ps)) 0 (λ f. omega arith) in
      same (holding accepts x passed s p follow false (read_certificate p) later) (holds_from accepts x passed s (p ∷ q ∷ ps))
      (other_holding passed s p q ps follow) (given_from x s (p ∷ q ∷ ps)) passed (outcome_from accepts x passed s (p ∷ q ∷ ps))
      (subst (λ (b : Bool). Explains (holding accepts x passed s p follow false (read_certificate p) later) (given_from x s (p ∷ q ∷ ps)) passed
      (behind (passed + 1) (judged_if_read accepts x passed b s p (read_certificate p)) follow)) (sym e)
      (other_one accepts x passed s p follow later (λ t. given_from x t (q ∷ ps)) (λ t. explained (passed + 1) t q ps) (read_certificate p)))

  abbrev IsOutcome : List CertificateParts → Outcome → Type 0
  IsOutcome ps (valid v) = IsValid accepts x ps v
  IsOutcome ps (invalid i r) = IsFirst accepts x ps i r

  none_at_all : (p : CertificateParts) (ps : List CertificateParts) → ((k : ℕ) (r : PathReason) → holds_from accepts x 0 (first_state x (length (p ∷ ps))) (p ∷ ps) k r ≡ false)
      → (i : ℕ) (r : PathReason) → holds accepts x (p ∷ ps) i r ≡ false
  none_at_all p ps h zero r = refl
  none_at_all p ps h (suc k) r = h k r

  none_there : (p : CertificateParts) (ps : List CertificateParts) (k : ℕ) (r : PathReason) → ((j : ℕ) (q : PathReason) → ComesBefore j q k r
      → holds_from accepts x 0 (first_state x (length (p ∷ ps))) (p ∷ ps) j q ≡ false)
      → (j : ℕ) (q : PathReason) → ComesBefore j q (suc k) r → holds accepts x (p ∷ ps) j q ≡ false
  none_there p ps k r h zero q b = refl
  none_there p ps k r h (suc j) q b = h j q (earlier_on j k q r b)

  whole : (p : CertificateParts) (ps : List CertificateParts) (o : Outcome)
      → Explains (holds_from accepts x 0 (first_state x (length (p ∷ ps))) (p ∷ ps)) (given x (p ∷ ps)) 0 o → IsOutcome (p ∷ ps) o
  whole p ps (valid v) h = record { no_reason = none_at_all p ps h.0; gives = h.1 }
  whole p ps (invalid i r) h =
      let e : suc h.further ≡ i = (let at = h.place in omega arith) in
      subst (λ (j : ℕ). IsFirst accepts x (p ∷ ps) j r) e
      (record { holds_there = h.there; none_before = none_there p ps h.further r h.before })

  of_none : (j : ℕ) (q : PathReason) → ComesBefore j q 1 reason.Empty → holds accepts x [] j q ≡ false
  of_none zero q b = refl
  of_none (suc k) q (inl l) = absurd (omega arith)
  of_none (suc k) q (inr (e, l)) = absurd (not_zero q l)

  pub outcome_explained : (ps : List CertificateParts) → IsOutcome ps (outcome accepts x ps)
  outcome_explained [] = record { holds_there = refl; none_before = of_none }
  outcome_explained (p ∷ ps) = whole p ps (outcome accepts x (p ∷ ps)) (explained 0 (first_state x (length (p ∷ ps))) p ps)

  module _ (ps : List CertificateParts) where
    apart : (i : ℕ) (r : PathReason) → holds accepts x ps i r ≡ true → holds accepts x ps i r ≡ false → ⊥
    apart i r e f = let g : true ≡ false = sym e ∙ f in absurd cc

    by_order : (i j : ℕ) (r q : PathReason) → IsFirst accepts x ps i r → IsFirst accepts x ps j q
        → ((i ≡ j) × (r ≡ q)) ⊎ (ComesBefore i r j q ⊎ ComesBefore j q i r) → invalid i r ≡ invalid j q
    by_order i j r q h k (inl e) = λ t. invalid (e.0 t) (e.1 t)
    by_order i j r q h k (inr (inl b)) = absurd (apart i r h.holds_there (k.none_before i r b))
    by_order i j r q h k (inr (inr b)) = absurd (apart j q k.holds_there (h.none_before j q b))

    one : (o n : Outcome) → IsOutcome ps o → IsOutcome ps n → o ≡ n
    one (valid v) (valid w) h k = ap valid (some_is v w (sym h.gives ∙ k.gives))
    one (valid v) (invalid i r) h k = absurd (apart i r k.holds_there (h.no_reason i r))
    one (invalid i r) (valid v) h k = absurd (apart i r h.holds_there (k.no_reason i r))
    one (invalid i r) (invalid j q) h k = by_order i j r q h k (total i j r q)

pub valid_is : (accepts : Accepts) (x : PathInputs) (ps : List CertificateParts) (v : ValidPath) → (outcome accepts x ps ≡ valid v) ↔ IsValid accepts x ps v
valid_is accepts x ps v = (
  λ e. subst (IsOutcome accepts x ps) e (outcome_explained accepts x ps),
  λ h. one accepts x ps (outcome accepts x ps) (valid v) (outcome_explained accepts x
      ps) h,
)

pub invalid_is : (accepts : Accepts) (x : PathInputs) (ps : List CertificateParts) (i : ℕ) (r : PathReason) → (outcome accepts x ps ≡ invalid i r)
    ↔ IsFirst accepts x ps i r
invalid_is accepts x ps i r = (
  λ e. subst (IsOutcome accepts x ps) e (outcome_explained accepts x ps),
  λ h. one accepts x ps (outcome accepts x ps) (invalid i r) (outcome_explained
      accepts x ps) h,
)
