-- The moment so many days later.
use Rattle.std.proofs.Common.{◌≡◌, ◌∙◌, ap, ℕ, ℤ, pos, ◌+ℤ◌, ◌*ℤ◌, ◌-ℤ◌, true, Option, Some, None, arith, MatchOption, option_map}
use Rattle.asn1_core.specs.Moment.{Moment, instant}
use Rattle.jiff.specs.Types.{DateTime}
use Rattle.jiff.specs.Words.{IsCivilNanos, IsOffsetSeconds, civil_nanos}
use Rattle.rcgen_certificate.specs.WrittenTimes.{is_utc}
use Rattle.shelf_params.specs.Parameters.{later}

pub later_some : (start u e : ℤ) (days : ℕ) → is_utc start ≡ true → u ≡ start → e ≡ u +ℤ pos days *ℤ pos 86_400_000_000_000
    → IsCivilNanos (u +ℤ pos days *ℤ pos 86_400_000_000_000) → later start days ≡ Some e
later_some start u e days utc same sum within = grind arith

pub later_none : (start u : ℤ) (days : ℕ) → is_utc start ≡ true → u ≡ start
    → (IsCivilNanos (u +ℤ pos days *ℤ pos 86_400_000_000_000) → ⊥) → later start days ≡ None
later_none start u days utc same beyond = grind arith

at_zero : (n : ℤ) → n -ℤ pos 0 *ℤ pos 1_000_000_000 ≡ n
at_zero n = grind arith

in_range : IsOffsetSeconds (pos 0)
in_range = grind arith

-- the moment in UTC
pub in_utc : (r : Option Moment) (e : DateTime)
    → MatchOption r (¬ (IsOffsetSeconds (pos 0))) (λ m. (m.local ≡ e) × (m.offset_seconds ≡ pos 0) × IsOffsetSeconds (pos 0))
    → option_map instant r ≡ Some (civil_nanos e)
in_utc None e h = absurd (h in_range)
in_utc (Some m) e h =
    ap (λ (n : ℤ). Some n) (ap (λ (d : DateTime). civil_nanos d -ℤ m.offset_seconds *ℤ pos 1_000_000_000) h.0
    ∙ ap (λ (o : ℤ). civil_nanos e -ℤ o *ℤ pos 1_000_000_000) h.1 ∙ at_zero (civil_nanos e))
