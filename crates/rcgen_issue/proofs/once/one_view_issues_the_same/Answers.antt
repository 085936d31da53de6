use Rattle.rcgen_issue.proofs.ListsOnce.{issues_the_same}
use Rattle.rcgen_issue.proofs.once.one_view_issues_the_same.Goals as goal

pub returns : goal.returns
returns g c = λ key alone. issues_the_same c.written_once.ensures (g.S.SigningKey.fits key) alone
