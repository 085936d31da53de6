use Rattle.std.proofs.Common.{◌-◌, ◌/◌, ◌%◌, ◌^◌, ◌≤◌, Bool, ◌||◌, eqb, subst, ap, ◌∙◌, arith}
use Rattle.modular.specs.Numbers.{value}
use Rattle.ecdsa.specs.Group.{Point, next, multiple, add, IsChosen}
use Rattle.ecdsa.specs.Elements.{affine_of, OptionFor}
use Rattle.ecdsa.proofs.Multiples.{multiple_all}
use Rattle.ecdsa.proofs.Repeated.{joint_more, joint_none}
use Rattle.ecdsa.proofs.multiple.scaled_sum.Goals as goal

pub loop-place-init : goal.loop-place-init
loop-place-init g c = record { elements = tt; stands = λ b e h k. joint_none _ _ _ _ _ _ _ }

pub loop-place-preserved : goal.loop-place-preserved
loop-place-preserved g c =
    let p = value c.args.field.now.modulus.limbs.now in
    let a = p - 3 in
    let P = affine_of p c.args.first.now in
    let Q = affine_of p c.args.second.now in
    let T = affine_of p c.chosen-other.result in
    let i = c.digit-by_first.ensures in
    let j = c.digit-by_second.ensures in
    let j' = value c.args.first_factor.now in
    let k' = value c.args.second_factor.now in
    let place = c.loop-place.place in
    let t : IsChosen p a (eqb (j' / 2 ^ (place - 1) % 2) 1) (eqb (k' / 2 ^ (place - 1) % 2) 1) P Q T =
    subst (λ (x : Bool). IsChosen p a x (eqb (k' / 2 ^ (place - 1) % 2) 1) P Q T) i
    (subst (λ (x : Bool). IsChosen p a c.digit-by_first.result x P Q T) j c.chosen-other.ensures.chosen) in
    record {
      elements = c.step-sum.ensures.elements;
      stands = λ b e h k.
          let F : Point → Type 0 = λ S. OptionFor {N = g.row.N} p c.step-sum.result S in
          let A = add p a (multiple p a (c.args.digits - place) (j' / 2 ^ place) P) (multiple p a (c.args.digits - place) (k' / 2 ^ place) Q) in
          let d = ap (λ (x : Bool). next p a x A T) c.either-is_added.ensures
          ∙ ap (λ (x : Bool). next p a (x || c.digit-by_second.result) A T) i
          ∙ ap (λ (x : Bool). next p a (eqb (j' / 2 ^ (place - 1) % 2) 1 || x) A T) j in
          subst F (d ∙ joint_more e c.args.digits place j' k' P Q T (omega arith) (omega arith) h k t)
          (c.step-sum.ensures.stands A (c.loop-place.invariant.stands b e h k));
    }

pub digit-by_first-requires-clause-limbs : goal.digit-by_first-requires-clause-limbs
digit-by_first-requires-clause-limbs g c = λ k. (c.type_inv.first_factor k).fits

pub digit-by_second-requires-clause-limbs : goal.digit-by_second-requires-clause-limbs
digit-by_second-requires-clause-limbs g c = λ k. (c.type_inv.second_factor k).fits

pub returns : goal.returns
returns g c =
    let p = value c.args.field.now.modulus.limbs.now in
    let P = affine_of p c.args.first.now in
    let Q = affine_of p c.args.second.now in
    let place = c.loop-place.place in
    let a = p - 3 in
    record {
      elements = c.loop-place.invariant.elements;
      stands = λ b e h k.
          let F : Point → Type 0 = λ S. OptionFor {N = g.row.N} p c.loop-place.sum S in
          let l : place ≤ 0 = omega arith in
          subst F
          (ap (λ (S : Point). add p a S (multiple p a (c.args.digits - place) (value c.args.second_factor.now / 2 ^ place) Q))
          (multiple_all p a c.args.digits place (value c.args.first_factor.now) P l)
          ∙ ap (add p a (multiple p a c.args.digits (value c.args.first_factor.now) P))
          (multiple_all p a c.args.digits place (value c.args.second_factor.now) Q l))
          (c.loop-place.invariant.stands b e h k);
    }
