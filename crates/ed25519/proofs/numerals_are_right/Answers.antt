use Rattle.std.proofs.Common.{refl}
use Rattle.ed25519.specs.Field.{p, plus, minus, times, power, next_power, inverse}
use Rattle.ed25519.specs.Curve.{B, L, d, add, next_multiple, multiple, neutral}
use Rattle.ed25519.proofs.numerals_are_right.Goals as goal

pub returns-clause-d : goal.returns-clause-d
unfolding p d
returns-clause-d c = refl

pub returns-clause-y : goal.returns-clause-y
unfolding p B
returns-clause-y c = refl

pub returns-clause-x : goal.returns-clause-x
unfolding B
returns-clause-x c = refl

pub returns-clause-order : goal.returns-clause-order
unfolding p d L B plus minus times power next_power inverse add next_multiple multiple neutral
returns-clause-order c = refl
