use Rattle.std.specs.Prelude.{nat_lt}
use Rattle.std.proofs.Common.{ℕ, ap, get_or}
use Rattle.rsa.proofs.Masks.{power_of_bits}
use Rattle.rsa.proofs.emsa_pss.begins_with_zeros.Goals as goal

pub returns : goal.returns
returns c = ap (λ (k : ℕ). nat_lt (get_or c.args.octets.now 0 0) k) (power_of_bits c.args.bits c.requires.few)
