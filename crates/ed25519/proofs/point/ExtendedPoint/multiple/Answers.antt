use Rattle.std.proofs.Common.{◌∙◌, ap}
use Rattle.modular.specs.Numbers.{value}
use Rattle.ed25519.specs.Extended.{extended_next}
use Rattle.ed25519.specs.Elements.{residue, coordinates, completed_coordinates}
use Rattle.ed25519.proofs.Digits.{multiple_none, multiple_more, multiple_all}
use Rattle.ed25519.proofs.Coordinates.{neutral_is}
use Rattle.ed25519.proofs.point.ExtendedPoint.multiple.Goals as goal

pub loop-i-init : goal.loop-i-init
unfolding completed_coordinates residue
loop-i-init c = multiple_none c.args.digits (value c.args.factor.now) (coordinates c.args.self.now) _ neutral_is

pub loop-i-preserved : goal.loop-i-preserved
loop-i-preserved c =
    multiple_more c.args.digits c.loop-i.i (value c.args.factor.now) (coordinates c.args.self.now) (completed_coordinates c.loop-i.sum) _
    c.loop-i-test.true c.loop-i.auto.i c.loop-i.invariant
    (c.next-sum.ensures _ c.addend-addend.ensures ∙ ap (extended_next (completed_coordinates c.loop-i.sum) (coordinates c.args.self.now)) c.digit_is_one.ensures)

pub returns : goal.returns
returns c =
    c.point.ensures
    ∙ multiple_all c.args.digits c.loop-i.i (value c.args.factor.now) (coordinates c.args.self.now) (completed_coordinates c.loop-i.sum)
    c.loop-i-test.false c.loop-i.invariant
