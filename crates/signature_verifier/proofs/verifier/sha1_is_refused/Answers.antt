use Rattle.signature_verifier.proofs.Laws.{no_sha1}
use Rattle.signature_verifier.proofs.verifier.sha1_is_refused.Goals as goal

pub returns : goal.returns
returns c = no_sha1
