use Rattle.pkix_cert.proofs.ExtensionIds.{is_encoded}
use Rattle.pkix_cert.proofs.extension_id.extension_ids_are_encoded.Goals as goal

pub returns : goal.returns
returns c = is_encoded
