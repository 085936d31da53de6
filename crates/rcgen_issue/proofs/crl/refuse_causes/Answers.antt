use Rattle.rcgen_issue.specs.CrlView.{crl_view}
use Rattle.rcgen_issue.proofs.Lists.{no_list_cause}
use Rattle.rcgen_issue.proofs.crl.refuse_causes.Goals as goal

pub returns-clause-parts : goal.returns-clause-parts
returns-clause-parts g c = no_list_cause (crl_view c.args.params.now) _ c.in_ok-refuse_first.ensures.ok
