use Rattle.std.proofs.Common.{◌∙◌, ap, sym}
use Rattle.std.specs.Option.{option_map}
use Rattle.ed25519.specs.Elements.{residue, coordinates}
use Rattle.ed25519.proofs.Coordinates.{one_is}
use Rattle.ed25519.proofs.Verdict.{one_of, order_is, base_is, no_r, no_a, s_too_large, equation_tested}
use Rattle.ed25519.proofs.meets_equation.Goals as goal

pub returns-in_default : goal.returns-in_default
returns-in_default c = no_r _ _ _ _ (ap (option_map coordinates) (sym c.in_default.is) ∙ c.decode_point.ensures)

pub returns-in_default-decode_point : goal.returns-in_default-decode_point
returns-in_default-decode_point c =
    no_a _ _ _ _ (coordinates c.in-Some.r) (ap (option_map coordinates) (sym c.in-Some.is) ∙ c.decode_point.ensures)
    (ap (option_map coordinates) (sym c.in_default-decode_point.is) ∙ c.decode_point-2.ensures)

pub returns-then-not-is_below : goal.returns-then-not-is_below
returns-then-not-is_below c =
    s_too_large _ _ _ _ c.is_below.result _ _ (coordinates c.in-Some.r) (coordinates c.in-Some-decode_point.a)
    (ap (option_map coordinates) (sym c.in-Some.is) ∙ c.decode_point.ensures)
    (ap (option_map coordinates) (sym c.in-Some-decode_point.is) ∙ c.decode_point-2.ensures)
    c.load_little_endian.ensures order_is c.if-not-is_below.true c.is_below.ensures

pub multiple-left-requires-clause-one : goal.multiple-left-requires-clause-one
unfolding residue
multiple-left-requires-clause-one c = one_is

pub multiple-requires-clause-one : goal.multiple-requires-clause-one
unfolding coordinates
multiple-requires-clause-one c =
    one_of _ (coordinates c.in-Some-decode_point.a) (ap (option_map coordinates) (sym c.in-Some-decode_point.is) ∙ c.decode_point-2.ensures)

pub returns : goal.returns
unfolding coordinates residue
returns c =
    equation_tested _ _ _ _ c.is_below.result _ _ _ (coordinates c.in-Some.r) (coordinates c.in-Some-decode_point.a) _ _ _ _
    (ap (option_map coordinates) (sym c.in-Some.is) ∙ c.decode_point.ensures)
    (ap (option_map coordinates) (sym c.in-Some-decode_point.is) ∙ c.decode_point-2.ensures)
    c.load_little_endian.ensures order_is c.if-not-is_below.false c.is_below.ensures
    base_is c.multiple-left.ensures c.multiple.ensures c.add-right.ensures c.is_same.ensures
