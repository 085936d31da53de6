use Rattle.std.proofs.Common.{◌≡◌, length, arith}
use Rattle.modular.proofs.Digits.{after_both, below_all}
use Rattle.rsa.proofs.Octets.{below_append}
use Rattle.modular.specs.Numbers.{value, limbs_end}
use Rattle.rsa.proofs.pkcs1.append_both.Goals as goal

pub returns-clause-value : goal.returns-clause-value
returns-clause-value c =
    let l : length c.append_octets.new.limbs ≡ length c.args.limbs.now = omega arith in
    after_both (value c.args.limbs.now) (value c.append_octets.new.limbs) _ (limbs_end (length c.args.limbs.now)) c.args.front.now c.args.back.now
    c.append_octets.ensures (rw l at c.append_octets-2.ensures)

pub returns-clause-octets : goal.returns-clause-octets
returns-clause-octets c =
    below_append c.args.front.now c.args.back.now (below_all c.args.front.now (λ k. (c.type_inv.front k).fits)) (below_all c.args.back.now (λ k. (c.type_inv.back k).fits))
