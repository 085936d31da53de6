use Rattle.rcgen_certificate.specs.ParamsView.{params_view}
use Rattle.rcgen_read.proofs.IssuersBack.{issuers_back}
use Rattle.rcgen_read.proofs.issuer_laws.issuers_are_restored.Goals as goal

pub returns : goal.returns
returns c =
    issuers_back (params_view c.args.params.now) c.names_are_read_back.ensures.distinct c.key_usage_bits.ensures c.one_view_signs_the_same.ensures
    c.name_is_held.ensures
