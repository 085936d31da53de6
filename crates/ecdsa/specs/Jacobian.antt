-- Jacobian coordinates: X, Y and Z represent the point with x = X / Z² and y = Y / Z³ modulo p.
use Rattle.std.specs.Prelude.{◌≡◌, ℕ, ◌*◌, ◌%◌, ◌<◌}
use Rattle.ecdsa.specs.Group.{Point, Affine}

pub record Coordinates (p X Y Z : ℕ) (P : Point) : Type 0 where
  pub x : ℕ
  pub y : ℕ
  pub is_affine : P ≡ Affine x y
  pub x_below : x < p
  pub y_below : y < p
  pub x_scaled : X % p ≡ x * (Z * Z) % p
  pub y_scaled : Y % p ≡ y * (Z * Z * Z) % p

-- they do where Z has an inverse modulo p; where it has none nothing is said
abbrev pub StandFor : ℕ → ℕ → ℕ → ℕ → Point → Type 0
StandFor p X Y Z P = (w : ℕ) → Z * w % p ≡ 1 → Coordinates p X Y Z P
