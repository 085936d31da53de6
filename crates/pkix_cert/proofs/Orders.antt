-- The order of a struct, by one field after another.
use Rattle.std.specs.Prelude.{◌≡◌, Option, Some, None, refl}
use Rattle.std.specs.Ordering.{partial_ordering_then}
use Rattle.std.proofs.Common.{ap, ◌∙◌}
use Rattle.std.specs.declared.cmp.Ordering.{Ordering}
use Rattle.std.specs.declared.cmp.Ordering.TheVariants.{Less, Equal, Greater}

then_then : (a b c : Option Ordering) → partial_ordering_then (partial_ordering_then a b) c ≡ partial_ordering_then a (partial_ordering_then b c)
then_then None b c = refl
then_then (Some Less) b c = refl
then_then (Some Equal) b c = refl
then_then (Some Greater) b c = refl

pub by_three : (first second third a b c : Option Ordering) → first ≡ a → second ≡ partial_ordering_then first b → third ≡ partial_ordering_then second c
    → third ≡ partial_ordering_then a (partial_ordering_then b c)
by_three first second third a b c e f g =
    g ∙ ap (λ (o : Option Ordering). partial_ordering_then o c) (f ∙ ap (λ (o : Option Ordering). partial_ordering_then o b) e)
    ∙ then_then a b c
