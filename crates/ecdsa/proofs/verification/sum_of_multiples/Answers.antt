use Rattle.std.proofs.Common.{◌-◌, sym, ◌∙◌, ap}
use Rattle.modular.specs.Numbers.{value}
use Rattle.ecdsa.proofs.Points.{curve_at, base_at, key_at, combination_is}
use Rattle.ecdsa.proofs.verification.sum_of_multiples.Goals as goal

pub returns-in_default-scaled_sum-clause-sum : goal.returns-in_default-scaled_sum-clause-sum
returns-in_default-scaled_sum-clause-sum g c =
    let a = c.args.parameters.now in
    let hp = ap value c.requires.prime ∙ a.prime_is in
    let hg = c.generator-base.ensures.point in
    let h = c.scaled_sum.ensures.stands _ (curve_at a.curve _ hp) (base_at a.curve _ _ hp hg) (key_at a.curve _ _ hp c.requires.on_curve) in
    sym (rw c.in_default-scaled_sum.is at h) ∙ combination_is a.curve _ _ _ _ _ _ hp a.digits_are hg

pub returns-clause-sum : goal.returns-clause-sum
returns-clause-sum g c =
    let a = c.args.parameters.now in
    let hp = ap value c.requires.prime ∙ a.prime_is in
    let hg = c.generator-base.ensures.point in
    let h = c.scaled_sum.ensures.stands _ (curve_at a.curve _ hp) (base_at a.curve _ _ hp hg) (key_at a.curve _ _ hp c.requires.on_curve) in
    c.in-Some-coordinates_of.ensures.same _ (rw c.in-Some.is at h) ∙ combination_is a.curve _ _ _ _ _ _ hp a.digits_are hg
