use Rattle.rcgen_certificate.proofs.Copies.{point_of_copy}
use Rattle.rcgen_certificate.proofs.Points.{points_equal}
use Rattle.rcgen_certificate.proofs.distribution_point.CrlDistributionPoint.try_clone.Goals as goal

pub returns-clause-equal : goal.returns-clause-equal
returns-clause-equal c =
    let copy = c.in_ok-clone.field-0 in points_equal copy c.args.self.now (point_of_copy c.args.self.now copy c.in_ok-clone.ensures.cases)
