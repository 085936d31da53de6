use Rattle.rcgen_certificate.proofs.IssuerNames.{decoded}
use Rattle.rcgen_certificate.proofs.issuer.decoded_name_stands.Goals as goal

pub returns : goal.returns
returns c = decoded
