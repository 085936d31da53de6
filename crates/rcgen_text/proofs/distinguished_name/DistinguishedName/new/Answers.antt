use Rattle.rcgen_text.proofs.DistinctTypes.{none_distinct}
use Rattle.rcgen_text.proofs.distinguished_name.DistinguishedName.new.Goals as goal

pub invariant_of-result : goal.invariant_of-result
invariant_of-result c = rw c.new.ensures.items none_distinct
