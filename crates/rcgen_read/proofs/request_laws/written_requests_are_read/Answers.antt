use Rattle.rcgen_certificate.specs.ParamsView.{params_view}
use Rattle.rcgen_read.proofs.RequestBack.{read_again}
use Rattle.rcgen_read.proofs.request_laws.written_requests_are_read.Goals as goal

pub returns : goal.returns
returns c =
    read_again (params_view c.args.params.now) c.names_are_read_back.ensures.all c.alternative_names_are_read_back.ensures c.key_usage_bits.ensures
    c.name_is_held.ensures (rw c.deref.ensures.value at c.sans_are_held.ensures) c.length_is_octet.ensures
