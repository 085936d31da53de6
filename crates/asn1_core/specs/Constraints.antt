-- Values within bounds (X.680, 51.4).
use Rattle.std.specs.Prelude.{Bool, true, ◌&&◌, Option, Some, None}
use Rattle.std.specs.declared.cmp.Ordering.{Ordering}
use Rattle.std.specs.Ordering.{partial_le}
use Rattle.asn1_core.specs.declared.constraint.Bounded.{Bounded}
use Rattle.asn1_core.specs.declared.constraint.Bounded.TheVariants as bounded

-- there is no such end, or it is so
abbrev pub or_unbounded : {A : Type 0} → (A → Bool) → Option A → Bool
or_unbounded is_so None = true
or_unbounded is_so (Some x) = is_so x

module _ {A : Type 0} (eq : A → A → Bool) (cmp : A → A → Option Ordering) where
  abbrev pub is_inside : Bounded A → A → Bool
  is_inside (bounded.Single only) x = eq only x
  is_inside (bounded.Range start end) x = or_unbounded (λ a. partial_le cmp a x) start && or_unbounded (λ b. partial_le cmp x b) end
  is_inside bounded.None x = true
