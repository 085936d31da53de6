use Rattle.std.proofs.Common.{arith}
use Rattle.std.proofs.lemmas.Grind.{common_steps}
use Rattle.asn1_core.specs.Unsigned.{unsigned_64_contents}
use Rattle.asn1_core.proofs.Numbers.{bytes_written}
use Rattle.asn1_core.proofs.integer.u64_to_contents.Goals as goal

pub returns : goal.returns
unfolding unsigned_64_contents
returns c = grind (arith, common_steps, bytes_written)
