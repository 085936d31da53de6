use Rattle.rcgen_certificate.proofs.Constraints.{constraints_equal}
use Rattle.rcgen_certificate.proofs.Copies.{constraints_of_copies}
use Rattle.rcgen_certificate.proofs.name_constraints.NameConstraints.try_clone.Goals as goal

pub returns-clause-equal : goal.returns-clause-equal
returns-clause-equal c =
    let copy = c.in_ok-clone.field-0 in constraints_equal copy c.args.self.now (constraints_of_copies c.args.self.now copy c.in_ok-clone.ensures.cases)
