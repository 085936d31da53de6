use Rattle.rcgen_issue.proofs.SelfSigned.{start_is_utc, end_is_utc, no_cause}
use Rattle.rcgen_issue.proofs.certified.defaults_have_no_cause.Goals as goal

pub returns : goal.returns
returns c = λ texts d.
    let params = c.args.params.now in
    no_cause texts params d (c.has_utc_exactly.ensures.1 (params.not_before.local, start_is_utc texts params d))
    (c.has_utc_exactly-2.ensures.1 (params.not_after.local, end_is_utc texts params d))
