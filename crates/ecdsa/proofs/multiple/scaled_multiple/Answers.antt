use Rattle.std.proofs.Common.{◌-◌, ◌/◌, ◌^◌, Bool, subst, ap, ◌∙◌, arith}
use Rattle.modular.specs.Numbers.{value}
use Rattle.ecdsa.specs.Group.{Point, next, multiple}
use Rattle.ecdsa.specs.Elements.{affine_of, OptionFor}
use Rattle.ecdsa.proofs.Multiples.{multiple_none, multiple_more, multiple_all}
use Rattle.ecdsa.proofs.multiple.scaled_multiple.Goals as goal

pub loop-place-init : goal.loop-place-init
loop-place-init g c = record { elements = tt; stands = multiple_none _ _ _ _ _ }

pub loop-place-preserved : goal.loop-place-preserved
loop-place-preserved g c =
    let p = value c.args.field.now.modulus.limbs.now in
    let Q = affine_of p c.args.point.now in
    let e = multiple_more p (p - 3) c.args.digits c.loop-place.place (value c.args.factor.now) Q (omega arith) (omega arith) in
    let d = ap (λ (b : Bool). next p (p - 3) b (multiple p (p - 3) (c.args.digits - c.loop-place.place) (value c.args.factor.now / 2 ^
    c.loop-place.place) Q) Q) c.digit.ensures in
    record {
      elements = c.step-sum.ensures.elements;
      stands = let F : Point → Type 0 = λ P. OptionFor {N = g.row.N} p c.step-sum.result P in
          subst F (d ∙ e) (c.step-sum.ensures.stands _ c.loop-place.invariant.stands);
    }

pub digit-requires-clause-limbs : goal.digit-requires-clause-limbs
digit-requires-clause-limbs g c = λ k. (c.type_inv.factor k).fits

pub returns : goal.returns
returns g c =
    let p = value c.args.field.now.modulus.limbs.now in
    let Q = affine_of p c.args.point.now in
    record {
      elements = c.loop-place.invariant.elements;
      stands = let F : Point → Type 0 = λ P. OptionFor {N = g.row.N} p c.loop-place.sum P in
          subst F (multiple_all p (p - 3) c.args.digits c.loop-place.place (value c.args.factor.now) Q (omega arith)) c.loop-place.invariant.stands;
    }
