use Rattle.std.proofs.Common.{◌-◌, sym, ◌∙◌, arith}
use Rattle.modular.specs.Numbers.{value}
use Rattle.ecdsa.specs.Elements.{affine_of}
use Rattle.ecdsa.proofs.Multiples.{multiple_none, multiple_more, multiple_all, next_added, next_twice}
use Rattle.ecdsa.proofs.multiple.affine_multiple.Goals as goal

pub loop-place-init : goal.loop-place-init
loop-place-init g c = record { point = tt; sum = sym (multiple_none _ _ _ _ _) }

pub loop-place-preserved-then-digit : goal.loop-place-preserved-then-digit
loop-place-preserved-then-digit g c =
    let p = value c.args.field.now.modulus.limbs.now in
    let Q = affine_of p c.args.point.now in
    record {
      point = c.add-sum-then-digit.ensures.point;
      sum = next_added _ _ _ _ _ _ _ _ (sym c.digit.ensures
          ∙ c.if-digit.true) c.loop-place.invariant.sum c.add-sum.ensures.sum c.add-sum-then-digit.ensures.sum
          ∙ multiple_more p (p - 3) c.args.digits c.loop-place.place (value c.args.factor.now) Q (omega arith) (omega arith);
    }

pub loop-place-preserved : goal.loop-place-preserved
loop-place-preserved g c =
    let p = value c.args.field.now.modulus.limbs.now in
    let Q = affine_of p c.args.point.now in
    record {
      point = c.add-sum.ensures.point;
      sum = next_twice _ _ _ _ _ _ _ (sym c.digit.ensures ∙ c.if-digit.false) c.loop-place.invariant.sum c.add-sum.ensures.sum
          ∙ multiple_more p (p - 3) c.args.digits c.loop-place.place (value c.args.factor.now) Q (omega arith) (omega arith);
    }

pub digit-requires-clause-limbs : goal.digit-requires-clause-limbs
digit-requires-clause-limbs g c = λ k. (c.type_inv.factor k).fits

pub returns : goal.returns
returns g c =
    let p = value c.args.field.now.modulus.limbs.now in
    let Q = affine_of p c.args.point.now in
    record {
      point = c.loop-place.invariant.point;
      multiple = c.loop-place.invariant.sum ∙ multiple_all p (p - 3) c.args.digits c.loop-place.place (value c.args.factor.now) Q (omega arith);
    }
