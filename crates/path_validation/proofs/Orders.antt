-- The order of the steps, and the first one that fails.
use Rattle.std.specs.Prelude.{Bool, List, None, Option, Some, cond, false, find, refl, true, ℕ, [], ◌==◌, ◌+◌, ◌<◌, ◌∷◌, ◌≡◌, ◌⊎◌}
use Rattle.std.proofs.Common.{ap, arith, inl, inr, sym, ◌∙◌}
use Rattle.std.proofs.lemmas.Bool.{cases_order}
use Rattle.asn1_core.specs.Binds.{some_is}
use Rattle.path_validation.specs.Outcomes.{ComesBefore, reason_number}
use Rattle.path_validation.specs.Steps.{steps}
use Rattle.path_validation.specs.declared.error.PathReason.{PathReason}
use Rattle.path_validation.specs.declared.error.PathReason.TheVariants as reason

-- ---- numbers

abbrev all_reasons : List PathReason
all_reasons = reason.Empty ∷ reason.BadExtension ∷ steps

abbrev reason_at : ℕ → Option PathReason
reason_at n = find (λ r. reason_number r == n) all_reasons

reason_found : (r : PathReason) → reason_at (reason_number r) ≡ Some r
reason_found reason.Empty = refl
reason_found reason.BadExtension = refl
reason_found reason.AlgorithmsDiffer = refl
reason_found reason.BadSignature = refl
reason_found reason.NotYetValid = refl
reason_found reason.Expired = refl
reason_found reason.Revoked = refl
reason_found reason.Undetermined = refl
reason_found reason.NameMismatch = refl
reason_found reason.TooMuchWork = refl
reason_found reason.UnprocessedNameForm = refl
reason_found reason.NotPermitted = refl
reason_found reason.Excluded = refl
reason_found reason.NoPolicy = refl
reason_found reason.MappedAnyPolicy = refl
reason_found reason.NotCa = refl
reason_found reason.PathTooLong = refl
reason_found reason.NoCertSign = refl
reason_found reason.UnprocessedCritical = refl
reason_found reason.NoUserPolicy = refl

one_number : (r s : PathReason) → reason_number r ≡ reason_number s → r ≡ s
one_number r s e = some_is r s (sym (reason_found r) ∙ ap reason_at e ∙ reason_found s)

below_all : (r : PathReason) → reason_number r < 21
below_all reason.Empty = omega arith
below_all reason.BadExtension = omega arith
below_all reason.AlgorithmsDiffer = omega arith
below_all reason.BadSignature = omega arith
below_all reason.NotYetValid = omega arith
below_all reason.Expired = omega arith
below_all reason.Revoked = omega arith
below_all reason.Undetermined = omega arith
below_all reason.NameMismatch = omega arith
below_all reason.TooMuchWork = omega arith
below_all reason.UnprocessedNameForm = omega arith
below_all reason.NotPermitted = omega arith
below_all reason.Excluded = omega arith
below_all reason.NoPolicy = omega arith
below_all reason.MappedAnyPolicy = omega arith
below_all reason.NotCa = omega arith
below_all reason.PathTooLong = omega arith
below_all reason.NoCertSign = omega arith
below_all reason.UnprocessedCritical = omega arith
below_all reason.NoUserPolicy = omega arith

pub not_zero : (r : PathReason) → reason_number r < 1 → ⊥
not_zero reason.Empty l = omega arith
not_zero reason.BadExtension l = omega arith
not_zero reason.AlgorithmsDiffer l = omega arith
not_zero reason.BadSignature l = omega arith
not_zero reason.NotYetValid l = omega arith
not_zero reason.Expired l = omega arith
not_zero reason.Revoked l = omega arith
not_zero reason.Undetermined l = omega arith
not_zero reason.NameMismatch l = omega arith
not_zero reason.TooMuchWork l = omega arith
not_zero reason.UnprocessedNameForm l = omega arith
not_zero reason.NotPermitted l = omega arith
not_zero reason.Excluded l = omega arith
not_zero reason.NoPolicy l = omega arith
not_zero reason.MappedAnyPolicy l = omega arith
not_zero reason.NotCa l = omega arith
not_zero reason.PathTooLong l = omega arith
not_zero reason.NoCertSign l = omega arith
not_zero reason.UnprocessedCritical l = omega arith
not_zero reason.NoUserPolicy l = omega arith

-- ---- the order of places and reasons is total

by_number : (i j : ℕ) (r s : PathReason) → i ≡ j → (reason_number r ≡ reason_number s) ⊎ ((reason_number r < reason_number s) ⊎
    (reason_number s < reason_number r))
    → ((i ≡ j) × (r ≡ s)) ⊎ (ComesBefore i r j s ⊎ ComesBefore j s i r)
by_number i j r s e (inl n) = inl (e, one_number r s n)
by_number i j r s e (inr (inl l)) = inr (inl (inr (e, l)))
by_number i j r s e (inr (inr l)) = inr (inr (inr (sym e, l)))

by_place : (i j : ℕ) (r s : PathReason) → (i ≡ j) ⊎ ((i < j) ⊎ (j < i)) → ((i ≡ j) × (r ≡ s)) ⊎ (ComesBefore i r j s ⊎ ComesBefore j s i r)
by_place i j r s (inl e) = by_number i j r s e (cases_order (reason_number r) (reason_number s))
by_place i j r s (inr (inl l)) = inr (inl (inl l))
by_place i j r s (inr (inr l)) = inr (inr (inl l))

pub total : (i j : ℕ) (r s : PathReason) → ((i ≡ j) × (r ≡ s)) ⊎ (ComesBefore i r j s ⊎ ComesBefore j s i r)
total i j r s = by_place i j r s (cases_order i j)

-- ---- the first step that fails

-- the one with the least number that fails, where there is one
abbrev pub IsLeast : (PathReason → Bool) → Option PathReason → Type 0
IsLeast fails (Some r) = (fails r ≡ true) × ((s : PathReason) → reason_number s < reason_number r → fails s ≡ false)
IsLeast fails None = (s : PathReason) → fails s ≡ false

-- these are numbered from n on, and are all from there
abbrev Covers : ℕ → List PathReason → Type 0
Covers n [] = (s : PathReason) → reason_number s < n
Covers n (r ∷ rs) = (reason_number r ≡ n) × Covers (n + 1) rs

covered : Covers 3 steps
covered = (refl, (refl, (refl, (refl, (refl, (refl, (refl, (refl, (refl, (refl, (refl, (refl, (refl, (refl, (refl, (refl, (refl, (refl, below_all))))))))))))))))))

module _ (fails : PathReason → Bool) where
  one_more : (n : ℕ) (r : PathReason) → reason_number r ≡ n → fails r ≡ false → ((s : PathReason) → reason_number s < n → fails s ≡ false)
      → (s : PathReason) → reason_number s < n + 1 → (reason_number s ≡ n) ⊎ ((reason_number s < n) ⊎ (n < reason_number s)) → fails s ≡ false
  one_more n r e other below s l (inl f) = ap fails (one_number s r (f ∙ sym e)) ∙ other
  one_more n r e other below s l (inr (inl m)) = below s m
  one_more n r e other below s l (inr (inr m)) = absurd (omega arith)

  least_from : (n : ℕ) (rs : List PathReason) → Covers n rs → ((s : PathReason) → reason_number s < n → fails s ≡ false) → IsLeast fails (find fails rs)
  least_from n [] covers below = λ s. below s (covers s)
  least_from n (r ∷ rs) covers below =
      elim (fails r) as (λ b. fails r ≡ b → IsLeast fails (cond b (Some r) (find fails rs))) [
        | true ↦ λ e. (e, λ s l. below s (omega (arith, covers.0)))
        | false ↦ λ e. least_from (n + 1) rs covers.1 (λ s l. one_more n r covers.0 e below s l (cases_order (reason_number s) n))
      ] refl

  -- the first two are no steps
  first_two : fails reason.Empty ≡ false → fails reason.BadExtension ≡ false → (s : PathReason) → reason_number s < 3 → fails s ≡ false
  first_two e f reason.Empty l = e
  first_two e f reason.BadExtension l = f
  first_two e f reason.AlgorithmsDiffer l = absurd (omega arith)
  first_two e f reason.BadSignature l = absurd (omega arith)
  first_two e f reason.NotYetValid l = absurd (omega arith)
  first_two e f reason.Expired l = absurd (omega arith)
  first_two e f reason.Revoked l = absurd (omega arith)
  first_two e f reason.Undetermined l = absurd (omega arith)
  first_two e f reason.NameMismatch l = absurd (omega arith)
  first_two e f reason.TooMuchWork l = absurd (omega arith)
  first_two e f reason.UnprocessedNameForm l = absurd (omega arith)
  first_two e f reason.NotPermitted l = absurd (omega arith)
  first_two e f reason.Excluded l = absurd (omega arith)
  first_two e f reason.NoPolicy l = absurd (omega arith)
  first_two e f reason.MappedAnyPolicy l = absurd (omega arith)
  first_two e f reason.NotCa l = absurd (omega arith)
  first_two e f reason.PathTooLong l = absurd (omega arith)
  first_two e f reason.NoCertSign l = absurd (omega arith)
  first_two e f reason.UnprocessedCritical l = absurd (omega arith)
  first_two e f reason.NoUserPolicy l = absurd (omega arith)

  pub least : fails reason.Empty ≡ false → fails reason.BadExtension ≡ false → IsLeast fails (find fails steps)
  least e f = least_from 3 steps covered (first_two e f)
