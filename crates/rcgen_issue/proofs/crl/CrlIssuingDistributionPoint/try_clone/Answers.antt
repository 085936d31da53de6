use Rattle.rcgen_issue.proofs.Equality.{issuing_equal}
use Rattle.rcgen_issue.proofs.Lists.{issuing_of_copy}
use Rattle.rcgen_issue.proofs.crl.CrlIssuingDistributionPoint.try_clone.Goals as goal

pub returns-clause-equal : goal.returns-clause-equal
returns-clause-equal c =
    let copy = c.in_ok-clone.field-0 in issuing_equal copy c.args.self.now (issuing_of_copy c.args.self.now copy c.in_ok-clone.ensures.cases)
