use Rattle.std.proofs.Common.{refl}
use Rattle.ecdsa.proofs.Repeated.{chosen_both, chosen_first, chosen_second}
use Rattle.ecdsa.proofs.multiple.chosen.Goals as goal

pub returns-then-not-by_first-clause-chosen : goal.returns-then-not-by_first-clause-chosen
returns-then-not-by_first-clause-chosen g c = chosen_second _ _ _ _ _ _ _ c.if-not-by_first.true refl

pub returns-then-not-by_second-clause-chosen : goal.returns-then-not-by_second-clause-chosen
returns-then-not-by_second-clause-chosen g c = chosen_first _ _ _ _ _ _ _ c.if-not-by_first.false c.if-not-by_second.true refl

pub returns-clause-chosen : goal.returns-clause-chosen
returns-clause-chosen g c = chosen_both _ _ _ _ _ _ _ c.if-not-by_first.false c.if-not-by_second.false c.requires.sum
