use Rattle.std.proofs.Common.{refl, arith}
use Rattle.rsa.proofs.Masks.{xor_none, xor_step, xor_rest, xor_all}
use Rattle.rsa.proofs.mgf1.xor_with.Goals as goal

pub loop-i-init : goal.loop-i-init
loop-i-init c = (xor_none c.args.octets.now c.args.others.now, λ k h. refl)

pub loop-i-preserved : goal.loop-i-preserved
loop-i-preserved c = (
  xor_step c.loop-i.octets c.args.octets.now c.args.others.now c.loop-i.i _ (omega arith) c.loop-i.auto.octets c.requires c.loop-i.invariant.0
      (c.loop-i.invariant.1 c.loop-i.i (omega arith)) refl,
  xor_rest c.loop-i.octets c.args.octets.now c.loop-i.i _ c.loop-i.invariant.1,
)

pub returns : goal.returns
returns c =
    xor_all c.loop-i.octets c.args.octets.now c.args.others.now c.loop-i.i (omega arith) (omega arith) c.loop-i.auto.octets c.loop-i.invariant.0
