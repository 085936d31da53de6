use Rattle.std.specs.Prelude.{Result}
use Rattle.std.proofs.Common.{subst}
use Rattle.rcgen_text.specs.Causes.{Cause}
use Rattle.rcgen_read.specs.IssuerReading.{CertifiedIssuer, certified, certified_view}
use Rattle.rcgen_read.specs.IssuerParts.{certified_in}
use Rattle.rcgen_read.specs.Reading.{ReadsAs}
use Rattle.rcgen_read.proofs.IssuerParts.{certified_is, unseen, viewed}
use Rattle.rcgen_read.proofs.issuer.issuer_as_certified.Goals as goal

pub returns-in_default-clause-read : goal.returns-in_default-clause-read
returns-in_default-clause-read g c = unseen certified c.args.der.now c.new.result c.new.ensures.exact c.in_default.is

pub returns-clause-read : goal.returns-clause-read
returns-clause-read g c =
    subst (λ (found : Result CertifiedIssuer Cause). ReadsAs (certified_view {S = g.row.S.Denot}) found c.certified_issuer.result)
    (viewed certified_in certified certified_is c.parts_of_each_view.ensures c.args.der.now c.in-Some.certificate c.in-Some.ensures.parts) c.certified_issuer.ensures.read
