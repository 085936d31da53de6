use Rattle.std.proofs.Common.{◌<◌, ◌∙◌, ap}
use Rattle.modular.specs.Numbers.{value}
use Rattle.ecdsa.proofs.Accepting.{accepted_is}
use Rattle.ecdsa.proofs.verification.is_accepted.Goals as goal

pub returns : goal.returns
returns g c =
    let e = ap value c.new-scalars.ensures in
    let n = value c.new-scalars.result.modulus.limbs.now in
    let lr : value c.args.r.now < n = rw e c.requires.r_below in
    let ls : value c.args.s.now < n = rw e c.requires.s_below in
    accepted_is _ _ _ _ _ _ _ _ _ _ _ _ _ _ _ _ (e ∙ c.args.parameters.now.base_order_is) lr ls
    c.element_of.ensures.number c.inverse-w.ensures.number c.element_of-r.ensures.number c.element_of-2.ensures.number
    c.multiply.ensures.number c.limbs_of-u1.ensures.number c.multiply-2.ensures.number c.limbs_of-u2.ensures.number
    c.sum_of_multiples-sum.ensures.sum c.is_abscissa.ensures
