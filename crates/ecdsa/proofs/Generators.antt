-- The points G.
use Rattle.std.proofs.Common.{◌≡◌, ◌<◌, true, refl, lit<}
use Rattle.ecdsa.specs.declared.Curve.{Curve}
use Rattle.ecdsa.specs.declared.Curve.TheVariants.{P256, P384, P521}
use Rattle.ecdsa.specs.Curves.{field_prime, coefficient_b, base_x, base_y}
use Rattle.ecdsa.specs.Ecdsa.{is_on_curve}

pub base_x_below : (curve : Curve) → base_x curve < field_prime curve
unfolding field_prime base_x
base_x_below P256 = lit< tt
base_x_below P384 = lit< tt
base_x_below P521 = lit< tt

pub base_y_below : (curve : Curve) → base_y curve < field_prime curve
unfolding field_prime base_y
base_y_below P256 = lit< tt
base_y_below P384 = lit< tt
base_y_below P521 = lit< tt

pub base_on_curve : (curve : Curve) → is_on_curve curve (base_x curve) (base_y curve) ≡ true
unfolding field_prime coefficient_b base_x base_y
base_on_curve P256 = refl
base_on_curve P384 = refl
base_on_curve P521 = refl
