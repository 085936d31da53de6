use Rattle.rcgen_certificate.specs.ParamsView.{params_view}
use Rattle.rcgen_certificate.proofs.Requests.{one_asked}
use Rattle.rcgen_certificate.specs.Requests.{request_rows}
use Rattle.rcgen_certificate.proofs.csr.attributes.Goals as goal

pub returns-clause-value : goal.returns-clause-value
returns-clause-value c =
    one_asked (request_rows (params_view c.args.params.now)) c.args.given.now c.in_ok-set.set c.insert.new.self c.in-Some.asked c.in_ok-extension_request.field-0
    (rw c.in-Some.is at c.in_ok-asked.ensures.rows) c.in_ok-extension_request.ensures.value c.in_ok-set.ensures.each
    (rw c.in_ok-memory_only.ensures.value at c.insert.ensures.formed) (rw c.in_ok-memory_only.ensures.value at c.insert.ensures.ok)
    c.as_slice-ordered.ensures.ordered
