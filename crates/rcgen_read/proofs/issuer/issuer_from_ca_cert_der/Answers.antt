use Rattle.std.specs.Prelude.{Result}
use Rattle.std.proofs.Common.{subst}
use Rattle.rcgen_text.specs.Causes.{Cause}
use Rattle.rcgen_read.specs.IssuerReading.{RestoredIssuer, restored, restored_view}
use Rattle.rcgen_read.specs.IssuerParts.{issuer_in}
use Rattle.rcgen_read.specs.Reading.{ReadsAs}
use Rattle.rcgen_read.proofs.IssuerParts.{issuer_is, unseen, viewed}
use Rattle.rcgen_read.proofs.issuer.issuer_from_ca_cert_der.Goals as goal

pub returns-in_default-clause-read : goal.returns-in_default-clause-read
returns-in_default-clause-read g c = unseen restored c.args.der.now c.new.result c.new.ensures.exact c.in_default.is

pub returns-clause-read : goal.returns-clause-read
returns-clause-read g c =
    subst (λ (found : Result RestoredIssuer Cause). ReadsAs (restored_view {S = g.row.S.Denot}) found c.issuer_of_view.result)
    (viewed issuer_in restored issuer_is c.parts_of_each_view.ensures c.args.der.now c.in-Some.certificate c.in-Some.ensures.parts) c.issuer_of_view.ensures.read
