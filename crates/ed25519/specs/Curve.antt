-- The points of edwards25519 (RFC 8032, 5.1). Section numbers are the RFC's.
use Rattle.std.specs.Prelude.{◌≡◌, ℕ, zero, suc, ◌+◌, ◌-◌, ◌*◌, ◌/◌, ◌%◌, ◌^◌, Bool, cond, ◌==◌, ◌&&◌, nat_lt, List, Option, Some, None}
use Rattle.modular.specs.Numbers.{little_endian}
use Rattle.ed25519.specs.Field.{p, plus, minus, times, power, inverse}

-- d = -121665/121666 (5.1, table 1)
unfoldable pub d : ℕ
d = 37095705934669439343138083508754565189542113879843219016388785533085940283555

-- L, the order of B (5.1, table 1)
unfoldable pub L : ℕ
L = 2 ^ 252 + 27742317777372353535851937790883648493

-- a point by its coordinates, numbers below p
pub record Point : Type 0 where
  pub x : ℕ
  pub y : ℕ

-- the curve: -x^2 + y^2 = 1 + d x^2 y^2, with x^2 brought to the other side
unfoldable pub IsOnCurve : Point → Type 0
IsOnCurve P = (P.y ^ 2) % p ≡ (1 + P.x ^ 2 + d * P.x ^ 2 * P.y ^ 2) % p

-- the neutral point (3)
unfoldable pub neutral : Point
neutral = record { x = 0; y = 1 }

-- B, the base point (5.1, table 1)
unfoldable pub B : Point
B = record {
  x = 15112221349535400772501151409588531511454012693041857206046113283949847762202;
  y = 46316835694926478169428394003475163141307993866256225615783033603165251855960;
}

-- the sum of two points (3), of a point and itself too:
-- ((x1 y2 + x2 y1) / (1 + d x1 x2 y1 y2), (y1 y2 + x1 x2) / (1 - d x1 x2 y1 y2))
unfoldable pub add : Point → Point → Point
add P Q =
    let e : ℕ = (d * P.x * Q.x * P.y * Q.y) % p in
    record {
      x = times (P.x * Q.y + Q.x * P.y) (inverse (plus 1 e));
      y = times (P.y * Q.y + P.x * Q.x) (inverse (minus 1 e));
    }

-- [k]P, where Q is the multiple of P by half the factor, rounded down: Q + Q, and P once more for an odd k
unfoldable pub next_multiple : Point → Point → Bool → Point
next_multiple Q P odd = cond odd (add (add Q Q) P) (add Q Q)

-- [k]P, for a factor of at most so many binary digits. That this is the sum of k times P is a fact
-- of the group, in which addition is associative; it isn't proved here.
unfoldable pub multiple : ℕ → ℕ → Point → Point
multiple zero k P = neutral
multiple (suc digits) k P = next_multiple (multiple digits (k / 2) P) P (k % 2 == 1)

-- whether two points are the same
unfoldable pub is_same_point : Point → Point → Bool
is_same_point P Q = (P.x == Q.x) && (P.y == Q.y)

-- the square root of -1 that 5.1.3, step 3, takes: 2^((p-1)/4)
unfoldable pub root_of_minus_1 : ℕ
root_of_minus_1 = power 253 2 ((p - 1) / 4)

-- the candidate root of u/v (5.1.3, step 2): x = u v^3 (u v^7)^((p-5)/8)
unfoldable pub candidate_root : ℕ → ℕ → ℕ
candidate_root u v = (u * v ^ 3 * power 252 (u * v ^ 7 % p) ((p - 5) / 8)) % p

-- of a candidate root x of u/v, the square root of u/v, where it has one (5.1.3, step 3)
unfoldable pub root_by : ℕ → ℕ → ℕ → Option ℕ
root_by u v x =
    cond ((v * x ^ 2) % p == u) (Some x)
    (cond ((v * x ^ 2) % p == minus 0 u) (Some (times x root_of_minus_1)) None)

-- of a root x, the one with the sign x_0: none for 0 with the sign 1 (5.1.3, step 4)
unfoldable pub with_sign : ℕ → Option ℕ → Option ℕ
with_sign x_0 (Some x) = cond ((x == 0) && (x_0 == 1)) None (cond (x % 2 == x_0) (Some x) (Some (p - x)))
with_sign x_0 None = None

-- the x-coordinate of the point with this y-coordinate and the sign x_0 (5.1.3, steps 2 to 4)
unfoldable pub recover_x : ℕ → ℕ → Option ℕ
recover_x y x_0 =
    let u : ℕ = minus (times y y) 1 in
    let v : ℕ = plus (times d (times y y)) 1 in
    with_sign x_0 (root_by u v (candidate_root u v))

-- the point with an x-coordinate that may be none
unfoldable pub point_with : Option ℕ → ℕ → Option Point
point_with (Some x) y = Some (record { x = x; y = y })
point_with None y = None

-- the point that 32 octets encode (5.1.3): y is the lower 255 bits, and the sign x_0 is bit 255
unfoldable pub decode_point : List ℕ → Option Point
decode_point octets =
    let y : ℕ = little_endian octets % 2 ^ 255 in
    let x_0 : ℕ = little_endian octets / 2 ^ 255 % 2 in
    cond (nat_lt y p) (point_with (recover_x y x_0) y) None
