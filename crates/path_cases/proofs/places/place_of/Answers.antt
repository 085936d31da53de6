use Rattle.std.proofs.Common.{◌-◌, ◌≤◌, arith}
use Rattle.path_cases.proofs.TenSteps.{within_ten}
use Rattle.path_cases.proofs.places.place_of.Goals as goal

pub returns-clause-steps : goal.returns-clause-steps
returns-clause-steps g c few =
    let within : c.find.new.steps - c.args.steps.now ≤ 10 = within_ten _ _ c.find.ensures.cost few in
    let onward = c.find.ensures.counted in
    omega arith
