use Rattle.std.proofs.Common.{◌∙◌, ap}
use Rattle.ed25519.specs.Extended.{Coordinates, extended_add, extended_next}
use Rattle.ed25519.proofs.completed.Completed.next.Goals as goal

pub returns-then-odd : goal.returns-then-odd
unfolding extended_next
returns-then-odd c = λ P k. (rw c.if-odd.true (c.add.ensures P k ∙ ap (λ (C : Coordinates). extended_add C P) c.double-double.ensures))

pub returns-else-odd : goal.returns-else-odd
unfolding extended_next
returns-else-odd c = λ P k. (rw c.if-odd.false c.double-double.ensures)
