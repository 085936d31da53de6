use Rattle.ecdsa.proofs.Generators.{base_x_below, base_y_below, base_on_curve}
use Rattle.ecdsa.proofs.generators_are_points.Goals as goal

pub returns-clause-x : goal.returns-clause-x
returns-clause-x c = base_x_below

pub returns-clause-y : goal.returns-clause-y
returns-clause-y c = base_y_below

pub returns-clause-on_curve : goal.returns-clause-on_curve
returns-clause-on_curve c = base_on_curve
