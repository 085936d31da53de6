use Rattle.std.proofs.Common.{◌≡◌, true, false, ◌∙◌, ap, rules}
use Rattle.modular.specs.Numbers.{value}
use Rattle.ecdsa.proofs.Keys.{no_x, no_y, no_point, point_is}
use Rattle.ecdsa.proofs.Points.{valid_on}
use Rattle.ecdsa.proofs.key.valid_point.Goals as goal

pub returns-in_default : goal.returns-in_default
returns-in_default g c = no_x _ _ _ _ (ap value c.requires ∙ c.args.parameters.now.prime_is) c.in_default.ensures

pub returns-in_default-coordinate : goal.returns-in_default-coordinate
returns-in_default-coordinate g c = no_y _ _ _ _ (ap value c.requires ∙ c.args.parameters.now.prime_is) c.in_default-coordinate.ensures

pub returns-then-not-is_valid : goal.returns-then-not-is_valid
returns-then-not-is_valid g c =
    let f : c.is_valid.result ≡ false = search rules in
    no_point _ _ _ _ _ _ c.in-Some.ensures.2 c.in-Some-coordinate.ensures.2 c.is_valid.ensures f

pub returns : goal.returns
returns g c =
    let t : c.is_valid.result ≡ true = search rules in
    let k = point_is _ _ _ _ _ _ _ (ap value c.requires ∙ c.args.parameters.now.prime_is) c.in-Some.ensures.1 c.in-Some-coordinate.ensures.1
    c.in-Some.ensures.2 c.in-Some-coordinate.ensures.2 c.is_valid.ensures t in
    ((c.in-Some.ensures.0, c.in-Some-coordinate.ensures.0), k, valid_on _ _ _ _ k)
