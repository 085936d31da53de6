use Rattle.std.proofs.Common.{ℕ, ◌%◌, ◌∙◌, ap, get_or, set}
use Rattle.rsa.proofs.Masks.{power_of_bits, zeros_set}
use Rattle.rsa.proofs.emsa_pss.set_zeros.Goals as goal

pub returns : goal.returns
returns c =
    ap (λ (k : ℕ). set c.args.octets.now 0 (get_or c.args.octets.now 0 0 % k)) (power_of_bits c.args.bits c.requires.few)
    ∙ zeros_set c.args.octets.now c.args.bits c.requires.some
