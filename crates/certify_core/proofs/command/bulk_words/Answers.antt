use Rattle.certify_core.proofs.BulkWords.{bulk_is_named, bulk_is_told}
use Rattle.certify_core.proofs.command.bulk_words.Goals as goal

pub returns : goal.returns
returns c = λ words n. (bulk_is_told words n, bulk_is_named words n)
