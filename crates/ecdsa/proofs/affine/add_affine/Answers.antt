use Rattle.std.proofs.Common.{◌≡◌, true, false, sym, ◌∙◌, ap, rules}
use Rattle.modular.specs.Numbers.{value}
use Rattle.ecdsa.specs.Elements.{number}
use Rattle.ecdsa.proofs.Sums.{sum_chord, sum_tangent, sum_none}
use Rattle.ecdsa.proofs.affine.add_affine.Goals as goal
use Rattle.ecdsa.proofs.affine.add_affine.Goals.{then-not-is_same, else-not-is_same+else-is_zero}

pub returns-then-is_zero-clause-sum : goal.returns-then-is_zero-clause-sum
returns-then-is_zero-clause-sum g c =
    let t : c.is_same.result ≡ true = search rules in
    sum_none _ _ _ _ _ _ (c.is_same.ensures.0 t) (sym c.add.ensures.number ∙ c.is_zero.ensures.0 c.if-is_zero.true)

pub returns-clause-sum : goal.returns-clause-sum
returns-clause-sum g c =
    let p = value c.args.field.now.modulus.limbs.now in
    elim c.if-not-is_same.branch [
      | then-not-is_same w ↦
          let f : c.is_same.result ≡ false = search rules in
          sum_chord _ _ _ _ _ _ _ _ _ (λ e. let t = c.is_same.ensures.1 e in (cc)) (ap (number p) w.slope-is ∙ w.chord-slope.ensures.number)
          c.third_on_line.ensures.x c.third_on_line.ensures.y
      | else-not-is_same+else-is_zero w ↦
          let t : c.is_same.result ≡ true = search rules in
          sum_tangent _ _ _ _ _ _ _ _ _ (c.is_same.ensures.0 t)
          (λ e. let z = w.is_zero.ensures.1 (w.add.ensures.number ∙ e) in let n : w.is_zero.result ≡ false = w.if-is_zero.false in (cc))
          (ap (number p) w.slope-is ∙ w.tangent.ensures.number) c.third_on_line.ensures.x c.third_on_line.ensures.y
    ]
