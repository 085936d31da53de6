use Rattle.std.proofs.Common.{ap}
use Rattle.modular.specs.Numbers.{value}
use Rattle.ecdsa.proofs.Keys.{generator_is}
use Rattle.ecdsa.proofs.verification.generator.Goals as goal

pub returns-clause-point : goal.returns-clause-point
returns-clause-point g c =
    let a = c.args.parameters.now in
    generator_is _ _ _ _ _ _ _ _ (ap value c.requires) a.generator_x_below a.generator_y_below a.generator_x_is a.generator_y_is
    c.element_of.ensures.number c.element_of-2.ensures.number
