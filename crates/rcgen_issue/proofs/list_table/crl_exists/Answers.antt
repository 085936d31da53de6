use Rattle.rcgen_issue.specs.CrlView.{crl_view}
use Rattle.rcgen_issue.proofs.ListTableMet.{met}
use Rattle.rcgen_issue.proofs.Lists.{no_list_cause}
use Rattle.rcgen_issue.proofs.list_table.crl_exists.Goals as goal

pub returns : goal.returns
returns c = λ issuer h.
    let params = crl_view c.args.params.now in
    let none = no_list_cause params issuer h in
    let this = c.has_utc_exactly.ensures.0 none.this_update in
    let next = c.has_utc_exactly-2.ensures.0 none.next_update in
    met params issuer this.0 next.0 this.1 next.1
    (rw c.deref.ensures.value at c.entries_are_civil.ensures) none
