use Rattle.rcgen_certificate.specs.Issuers.{issuer_field_of}
use Rattle.rcgen_certificate.specs.ParamsView.{params_view}
use Rattle.rcgen_certificate.proofs.NoCause.{no_cause}
use Rattle.rcgen_certificate.proofs.causes.refuse_causes.Goals as goal

pub returns-clause-parts : goal.returns-clause-parts
returns-clause-parts g c = no_cause (params_view c.args.params.now) (issuer_field_of c.args.issuer.now) c.in_ok-refuse_first.ensures.ok
