-- What the code computes with: extended homogeneous coordinates (RFC 8032, 5.1.4), which need no
-- fraction for a sum.
use Rattle.std.specs.Prelude.{ℕ, zero, suc, ◌*◌, ◌/◌, ◌%◌, Bool, cond, ◌==◌, ◌&&◌}
use Rattle.ed25519.specs.Field.{p, plus, minus, times}
use Rattle.ed25519.specs.Curve.{Point, d}

-- a point (x, y): x = X/Z, y = Y/Z, x * y = T/Z
pub record Coordinates : Type 0 where
  pub X : ℕ
  pub Y : ℕ
  pub Z : ℕ
  pub T : ℕ

-- a point with Z = 1
unfoldable pub extended : Point → Coordinates
extended P = record { X = P.x; Y = P.y; Z = 1; T = times P.x P.y }

-- the sum of two points (5.1.4)
unfoldable pub extended_add : Coordinates → Coordinates → Coordinates
extended_add P Q =
    let A : ℕ = times (minus P.Y P.X) (minus Q.Y Q.X) in
    let B : ℕ = times (plus P.Y P.X) (plus Q.Y Q.X) in
    let C : ℕ = (P.T * 2 * d * Q.T) % p in
    let D : ℕ = (P.Z * 2 * Q.Z) % p in
    let E : ℕ = minus B A in
    let F : ℕ = minus D C in
    let G : ℕ = plus D C in
    let H : ℕ = plus B A in
    record { X = times E F; Y = times G H; Z = times F G; T = times E H }

-- twice a point (5.1.4)
unfoldable pub extended_double : Coordinates → Coordinates
extended_double P =
    let A : ℕ = times P.X P.X in
    let B : ℕ = times P.Y P.Y in
    let C : ℕ = plus (times P.Z P.Z) (times P.Z P.Z) in
    let H : ℕ = plus A B in
    let E : ℕ = minus H (times (plus P.X P.Y) (plus P.X P.Y)) in
    let G : ℕ = minus A B in
    let F : ℕ = plus C G in
    record { X = times E F; Y = times G H; Z = times F G; T = times E H }

-- as `next_multiple`
unfoldable pub extended_next : Coordinates → Coordinates → Bool → Coordinates
extended_next Q P odd = cond odd (extended_add (extended_double Q) P) (extended_double Q)

-- as `multiple`
unfoldable pub extended_multiple : ℕ → ℕ → Coordinates → Coordinates
extended_multiple zero k P = record { X = 0; Y = 1; Z = 1; T = 0 }
extended_multiple (suc digits) k P = extended_next (extended_multiple digits (k / 2) P) P (k % 2 == 1)

-- as `is_same_point`, with Z1 * Z2 brought to the other side
unfoldable pub is_same_extended : Coordinates → Coordinates → Bool
is_same_extended P Q = (times P.X Q.Z == times Q.X P.Z) && (times P.Y Q.Z == times Q.Y P.Z)
