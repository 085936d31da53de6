-- The order of the tests, and the first reason at a place.
use Rattle.std.specs.Prelude.{Bool, List, None, Option, Some, cond, false, find, refl, true, ℕ, [], ◌==◌, ◌+◌, ◌<◌, ◌≤◌, ◌∷◌, ◌≡◌, ◌⊎◌}
use Rattle.std.specs.Bool.{Decides}
use Rattle.std.proofs.Common.{ap, arith, inl, inr, subst, sym, ◌∙◌}
use Rattle.std.proofs.lemmas.Bool.{cases_order}
use Rattle.std.proofs.lemmas.Bool.Decides.{not_from_Decides}
use Rattle.asn1_core.specs.Binds.{some_is}
use Rattle.chain_check.specs.Outcomes.{IsTestedBefore, reason_number, round}
use Rattle.chain_check.specs.declared.error.ChainReason.{ChainReason}
use Rattle.chain_check.specs.declared.error.ChainReason.TheVariants.{Empty, NotCertificate, AlgorithmsDiffer, NotYetValid, Expired, BadExtension}
use Rattle.chain_check.specs.declared.error.ChainReason.TheVariants.{UnhandledCritical, NotCa, NoCertSign, PathTooLong, NameMismatch, BadSignature}

-- ---- numbers

abbrev pub all_reasons : List ChainReason
all_reasons =
    Empty ∷ NotCertificate ∷ AlgorithmsDiffer ∷ NotYetValid ∷ Expired ∷ BadExtension ∷ UnhandledCritical ∷ NotCa ∷ NoCertSign ∷ PathTooLong ∷ NameMismatch
    ∷ BadSignature ∷ []

abbrev reason_at : ℕ → Option ChainReason
reason_at n = find (λ r. reason_number r == n) all_reasons

reason_found : (r : ChainReason) → reason_at (reason_number r) ≡ Some r
reason_found Empty = refl
reason_found NotCertificate = refl
reason_found AlgorithmsDiffer = refl
reason_found NotYetValid = refl
reason_found Expired = refl
reason_found BadExtension = refl
reason_found UnhandledCritical = refl
reason_found NotCa = refl
reason_found NoCertSign = refl
reason_found PathTooLong = refl
reason_found NameMismatch = refl
reason_found BadSignature = refl

pub one_number : (r s : ChainReason) → reason_number r ≡ reason_number s → r ≡ s
one_number r s e = some_is r s (sym (reason_found r) ∙ ap reason_at e ∙ reason_found s)

below_all : (r : ChainReason) → reason_number r < 13
below_all Empty = omega arith
below_all NotCertificate = omega arith
below_all AlgorithmsDiffer = omega arith
below_all NotYetValid = omega arith
below_all Expired = omega arith
below_all BadExtension = omega arith
below_all UnhandledCritical = omega arith
below_all NotCa = omega arith
below_all NoCertSign = omega arith
below_all PathTooLong = omega arith
below_all NameMismatch = omega arith
below_all BadSignature = omega arith

none_below : (r : ChainReason) → reason_number r < 1 → ⊥
none_below Empty l = omega arith
none_below NotCertificate l = omega arith
none_below AlgorithmsDiffer l = omega arith
none_below NotYetValid l = omega arith
none_below Expired l = omega arith
none_below BadExtension l = omega arith
none_below UnhandledCritical l = omega arith
none_below NotCa l = omega arith
none_below NoCertSign l = omega arith
none_below PathTooLong l = omega arith
none_below NameMismatch l = omega arith
none_below BadSignature l = omega arith

-- ---- rounds

pub round_at_most : (r : ChainReason) → round r ≤ 3
round_at_most Empty = omega arith
round_at_most NotCertificate = omega arith
round_at_most AlgorithmsDiffer = omega arith
round_at_most NotYetValid = omega arith
round_at_most Expired = omega arith
round_at_most BadExtension = omega arith
round_at_most UnhandledCritical = omega arith
round_at_most NotCa = omega arith
round_at_most NoCertSign = omega arith
round_at_most PathTooLong = omega arith
round_at_most NameMismatch = omega arith
round_at_most BadSignature = omega arith

-- within a place by the numbers, and place by place
abbrev pub ComesBefore : ℕ → ChainReason → ℕ → ChainReason → Type 0
ComesBefore i r j s = (i < j) ⊎ ((i ≡ j) × (reason_number r < reason_number s))

-- what is tested in the last round comes before by its place
pub in_last_round : (i j : ℕ) (r s : ChainReason) → round r ≡ 3 → IsTestedBefore i r j s → ComesBefore i r j s
in_last_round i j r s e (inl l) = let most = round_at_most s in absurd (omega arith)
in_last_round i j r s e (inr h) = h.1

same_place : (i j : ℕ) (r s : ChainReason) → i ≡ j → (reason_number r < reason_number s) ⊎ (reason_number s < reason_number r)
    → ComesBefore i r j s ⊎ ComesBefore j s i r
same_place i j r s e (inl l) = inl (inr (e, l))
same_place i j r s e (inr l) = inr (inr (sym e, l))

-- the order is total
by_number : (i j : ℕ) (r s : ChainReason) → i ≡ j → (reason_number r ≡ reason_number s) ⊎ ((reason_number r < reason_number s) ⊎
    (reason_number s < reason_number r))
    → ((i ≡ j) × (r ≡ s)) ⊎ (ComesBefore i r j s ⊎ ComesBefore j s i r)
by_number i j r s e (inl n) = inl (e, one_number r s n)
by_number i j r s e (inr h) = inr (same_place i j r s e h)

by_place : (i j : ℕ) (r s : ChainReason) → (i ≡ j) ⊎ ((i < j) ⊎ (j < i)) → ((i ≡ j) × (r ≡ s)) ⊎ (ComesBefore i r j s ⊎ ComesBefore j s i r)
by_place i j r s (inl e) = by_number i j r s e (cases_order (reason_number r) (reason_number s))
by_place i j r s (inr (inl l)) = inr (inl (inl l))
by_place i j r s (inr (inr l)) = inr (inr (inl l))

in_round : (i j : ℕ) (r s : ChainReason) → round r ≡ round s → ((i ≡ j) × (r ≡ s)) ⊎ (ComesBefore i r j s ⊎ ComesBefore j s i r)
    → ((i ≡ j) × (r ≡ s)) ⊎ (IsTestedBefore i r j s ⊎ IsTestedBefore j s i r)
in_round i j r s e (inl h) = inl h
in_round i j r s e (inr (inl h)) = inr (inl (inr (e, h)))
in_round i j r s e (inr (inr h)) = inr (inr (inr (sym e, h)))

by_round : (i j : ℕ) (r s : ChainReason) → (round r ≡ round s) ⊎ ((round r < round s) ⊎ (round s < round r))
    → ((i ≡ j) × (r ≡ s)) ⊎ (IsTestedBefore i r j s ⊎ IsTestedBefore j s i r)
by_round i j r s (inl e) = in_round i j r s e (by_place i j r s (cases_order i j))
by_round i j r s (inr (inl l)) = inr (inl (inl l))
by_round i j r s (inr (inr l)) = inr (inr (inl l))

pub total : (i j : ℕ) (r s : ChainReason) → ((i ≡ j) × (r ≡ s)) ⊎ (IsTestedBefore i r j s ⊎ IsTestedBefore j s i r)
total i j r s = by_round i j r s (cases_order (round r) (round s))

-- ---- the first that holds

-- the one with the least number that holds, where there is one
abbrev pub IsLeast : (ChainReason → Type 0) → Option ChainReason → Type 0
IsLeast P (Some r) = P r × ((s : ChainReason) → reason_number s < reason_number r → ¬ (P s))
IsLeast P None = (s : ChainReason) → ¬ (P s)

-- these are numbered from n on, and are all
abbrev Covers : ℕ → List ChainReason → Type 0
Covers n [] = (s : ChainReason) → reason_number s < n
Covers n (r ∷ rs) = (reason_number r ≡ n) × Covers (n + 1) rs

covered : Covers 1 all_reasons
covered = (refl, (refl, (refl, (refl, (refl, (refl, (refl, (refl, (refl, (refl, (refl, (refl, below_all))))))))))))

module _ (P : ChainReason → Type 0) (test : ChainReason → Bool) (decides : (r : ChainReason) → Decides (test r) (P r)) where
  one_more : (n : ℕ) (r : ChainReason) → reason_number r ≡ n → ¬ (P r) → ((s : ChainReason) → reason_number s < n → ¬ (P s))
      → (s : ChainReason) → reason_number s < n + 1 → (reason_number s ≡ n) ⊎ ((reason_number s < n) ⊎ (n < reason_number s)) → ¬ (P s)
  one_more n r e other below s l (inl f) h = other (subst P (one_number s r (f ∙ sym e)) h)
  one_more n r e other below s l (inr (inl m)) h = below s m h
  one_more n r e other below s l (inr (inr m)) h = absurd (omega arith)

  least_from : (n : ℕ) (rs : List ChainReason) → Covers n rs → ((s : ChainReason) → reason_number s < n → ¬ (P s)) → IsLeast P (find test rs)
  least_from n [] covers below = λ s. below s (covers s)
  least_from n (r ∷ rs) covers below =
      elim (test r) as (λ b. test r ≡ b → IsLeast P (cond b (Some r) (find test rs))) [
        | true ↦ λ e. ((decides r).0 e, λ s l. below s (omega (arith, covers.0)))
        | false ↦ λ e. least_from (n + 1) rs covers.1 (λ s l. one_more n r covers.0 (not_from_Decides (test r) (decides r) e) below s l (cases_order
            (reason_number s) n))
      ] refl

  pub least : IsLeast P (find test all_reasons)
  least = least_from 1 all_reasons covered (λ s l h. absurd (none_below s l))
