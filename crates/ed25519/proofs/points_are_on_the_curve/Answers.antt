use Rattle.std.proofs.Common.{refl}
use Rattle.ed25519.specs.Field.{p}
use Rattle.ed25519.specs.Curve.{B, IsOnCurve, d, neutral}
use Rattle.ed25519.proofs.Laws.{decoded_is_on}
use Rattle.ed25519.proofs.points_are_on_the_curve.Goals as goal

pub returns-clause-decoded : goal.returns-clause-decoded
returns-clause-decoded c = decoded_is_on

pub returns-clause-base : goal.returns-clause-base
unfolding p d B IsOnCurve
returns-clause-base c = refl

pub returns-clause-neutral : goal.returns-clause-neutral
unfolding d neutral IsOnCurve
returns-clause-neutral c = refl
