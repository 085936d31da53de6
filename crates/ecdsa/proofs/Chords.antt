-- The line through two points of y² = x³ + a x + b modulo p, and the third point of the curve on it. Chords and
-- tangents meet the same two equations.
use Rattle.std.proofs.Common.{◌≡◌, ℕ, ◌+◌, ◌*◌, ◌<◌, arith}
use Rattle.ecdsa.proofs.Congruences.{Same, same_refl, same_sym, same_trans, same_from, same_add, same_times, same_cancel, same_divide}

-- an equation of sums, from an equation of what is added on its sides
pub close : {p l r : ℕ} (x y : ℕ) → 0 < p → Same p l r → x + l ≡ y + r → Same p x y
close {p} {l} {r} x y pos h e = same_cancel l pos (same_trans (same_from e) (same_add (same_refl p y) (same_sym h)))

-- a line of slope l goes through two points of the curve, and touches it where they are one
pub record Slope (p a x1 y1 x2 y2 l : ℕ) : Type 0 where
  pub line : Same p (y2 + l * x1) (y1 + l * x2)
  pub curve : Same p (l * (y1 + y2)) (x1 * x1 + x1 * x2 + x2 * x2 + a)

-- what the addition makes of it: the third point on the line, with the other sign of y
pub record Third (p x1 y1 x2 x3 y3 l : ℕ) : Type 0 where
  pub x : Same p (x3 + x1 + x2) (l * l)
  pub y : Same p (y3 + y1 + l * x3) (l * x1)

pub chord_line : (p x1 y1 x2 y2 l d g : ℕ) → 0 < p → Same p (d + x1) x2 → Same p (l * d) g → Same p (g + y1) y2
    → Same p (y2 + l * x1) (y1 + l * x2)
chord_line p x1 y1 x2 y2 l d g pos hd t hg =
    close (y2 + l * x1) (y1 + l * x2) pos (same_add (same_times l (same_sym hd)) (same_add t hg)) (omega arith)

pub chord_curve : (p a b x1 y1 x2 y2 l d : ℕ) → 0 < p → Same p (d + x1) x2 → Same p (y2 + l * x1) (y1 + l * x2)
    → Same p (y1 * y1) (x1 * x1 * x1 + a * x1 + b) → Same p (y2 * y2) (x2 * x2 * x2 + a * x2 + b)
    → Same p (l * (y1 + y2) * d) ((x1 * x1 + x1 * x2 + x2 * x2 + a) * d)
chord_curve p a b x1 y1 x2 y2 l d pos hd h c1 c2 =
    close (l * (y1 + y2) * d) ((x1 * x1 + x1 * x2 + x2 * x2 + a) * d) pos (same_add (same_times (x1 * x1 + x1 * x2 + x1 * l * l + x2 * x2 + a) hd) (same_add (same_times (2 * y1 * l + x2 * l * l) (same_sym hd)) (same_add (same_times (y1 + x2 * l + y2) h) (same_add (same_times (x1 * l + l * d) (same_sym h)) (same_add c1 (same_sym c2)))))) (omega arith)

-- of two points with one x the ys are the same, or their sum is 0
pub equal_y : (p a b x1 y1 y2 : ℕ) → 0 < p → Same p (y1 * y1) (x1 * x1 * x1 + a * x1 + b) → Same p (y2 * y2) (x1 * x1 * x1 + a * x1 + b)
    → Same p (y1 * (y1 + y2)) (y2 * (y1 + y2))
equal_y p a b x1 y1 y2 pos c1 c2 =
    close (y1 * (y1 + y2)) (y2 * (y1 + y2)) pos (same_add (same_sym c1) c2) (omega arith)

-- where one of the points is on the curve, the other is
pub carry : (p a b x1 y1 x2 y2 l : ℕ) → 0 < p → Slope p a x1 y1 x2 y2 l → Same p (y1 * y1) (x1 * x1 * x1 + a * x1 + b)
    → Same p (y2 * y2) (x2 * x2 * x2 + a * x2 + b)
carry p a b x1 y1 x2 y2 l pos s h =
    close (y2 * y2) (x2 * x2 * x2 + a * x2 + b) pos (same_add (same_times (y1 + y2) (same_sym s.line)) (same_add (same_times x1 s.curve) (same_add (same_times x2 (same_sym s.curve)) (same_sym h)))) (omega arith)

-- the line goes through the first point and the third, whose y is o
pub to_third : (p a x1 y1 x2 y2 x3 y3 o l : ℕ) → 0 < p → Slope p a x1 y1 x2 y2 l → Third p x1 y1 x2 x3 y3 l → Same p (o + y3) 0
    → Slope p a x1 y1 x3 o l
to_third p a x1 y1 x2 y2 x3 y3 o l pos s t n = record {
  line =
      close (o + l * x1) (y1 + l * x3) pos (same_add t.y (same_sym n)) (omega arith);
  curve =
      close (l * (y1 + o)) (x1 * x1 + x1 * x3 + x3 * x3 + a) pos (same_add (same_times l s.line) (same_add (same_sym s.curve) (same_add (same_times x3 t.x) (same_add (same_times x2 (same_sym t.x)) (same_add (same_times l t.y) (same_times l (same_sym n))))))) (omega arith);
}

-- there is one slope at most, and one third point
pub one_chord : (p a x1 y1 x2 y2 l m d : ℕ) → 0 < p → Same p (d + x1) x2 → Slope p a x1 y1 x2 y2 l → Slope p a x1 y1 x2 y2 m
    → Same p (l * d) (m * d)
one_chord p a x1 y1 x2 y2 l m d pos hd s t =
    close (l * d) (m * d) pos (same_add (same_times m hd) (same_add (same_times l (same_sym hd)) (same_add s.line (same_sym t.line)))) (omega arith)

pub one_x : (p x1 y1 x2 x4 y4 x3 y3 l m : ℕ) → 0 < p → Third p x1 y1 x2 x4 y4 l → Third p x1 y1 x2 x3 y3 m → Same p l m → Same p x4 x3
one_x p x1 y1 x2 x4 y4 x3 y3 l m pos s t h =
    close x4 x3 pos (same_add (same_sym s.x) (same_add t.x (same_times (l + m) (same_sym h)))) (omega arith)

pub one_y : (p x1 y1 x2 x4 y4 x3 y3 l m : ℕ) → 0 < p → Third p x1 y1 x2 x4 y4 l → Third p x1 y1 x2 x3 y3 m → Same p l m → Same p x4 x3
    → Same p y4 y3
one_y p x1 y1 x2 x4 y4 x3 y3 l m pos s t h hx =
    close y4 y3 pos (same_add (same_sym s.y) (same_add t.y (same_add (same_times x3 h) (same_add (same_times x1 (same_sym h)) (same_times l hx))))) (omega arith)

-- the points in the other order
pub flip : (p a x1 y1 x2 y2 l : ℕ) → 0 < p → Slope p a x1 y1 x2 y2 l → Slope p a x2 y2 x1 y1 l
flip p a x1 y1 x2 y2 l pos s = record {
  line =
      close (y1 + l * x2) (y2 + l * x1) pos s.line (omega arith);
  curve =
      close (l * (y2 + y1)) (x2 * x2 + x2 * x1 + x1 * x1 + a) pos (same_sym s.curve) (omega arith);
}

pub flip_third : (p a x1 y1 x2 y2 x3 y3 l : ℕ) → 0 < p → Slope p a x1 y1 x2 y2 l → Third p x1 y1 x2 x3 y3 l → Third p x2 y2 x1 x3 y3 l
flip_third p a x1 y1 x2 y2 x3 y3 l pos s t = record {
  x =
      close (x3 + x2 + x1) (l * l) pos (same_sym t.x) (omega arith);
  y =
      close (y3 + y2 + l * x3) (l * x2) pos (same_add (same_sym s.line) (same_sym t.y)) (omega arith);
}

-- the points with the other signs of y: -l is k
pub negate : (p a x1 y1 p1 x2 y2 p3 l k : ℕ) → 0 < p → Slope p a x1 y1 x2 y2 l → Same p (p1 + y1) 0 → Same p (p3 + y2) 0 → Same p (k + l) 0
    → Slope p a x1 p1 x2 p3 k
negate p a x1 y1 p1 x2 y2 p3 l k pos s n1 n2 nm = record {
  line =
      close (p3 + k * x1) (p1 + k * x2) pos (same_add s.line (same_add n1 (same_add (same_sym n2) (same_add (same_times x2 nm) (same_times x1 (same_sym nm)))))) (omega arith);
  curve =
      close (k * (p1 + p3)) (x1 * x1 + x1 * x2 + x2 * x2 + a) pos (same_add (same_sym s.curve) (same_add (same_times l n1) (same_add (same_times l n2) (same_times (p1 + p3) (same_sym nm))))) (omega arith);
}

pub negate_third : (p x1 y1 p1 x2 x3 y3 o l k : ℕ) → 0 < p → Third p x1 y1 x2 x3 y3 l → Same p (p1 + y1) 0 → Same p (o + y3) 0 → Same p (k + l) 0
    → Third p x1 p1 x2 x3 o k
negate_third p x1 y1 p1 x2 x3 y3 o l k pos t n1 n3 nm = record {
  x =
      close (x3 + x1 + x2) (k * k) pos (same_add (same_sym t.x) (same_add (same_times k nm) (same_times l (same_sym nm)))) (omega arith);
  y =
      close (o + p1 + k * x3) (k * x1) pos (same_add t.y (same_add (same_sym n1) (same_add (same_sym n3) (same_add (same_times x1 nm) (same_times x3 (same_sym nm)))))) (omega arith);
}

-- what is added to the sum of -P and Q to come back to Q: o is the y of -P
pub back : (p a x1 y1 o x2 y2 x4 y4 l k : ℕ) → 0 < p → Slope p a x1 o x2 y2 l → Third p x1 o x2 x4 y4 l → Same p (o + y1) 0 → Same p (k + l) 0
    → Slope p a x1 y1 x4 y4 k
back p a x1 y1 o x2 y2 x4 y4 l k pos s t n nm = record {
  line =
      close (y4 + k * x1) (y1 + k * x4) pos (same_add (same_sym t.y) (same_add n (same_add (same_times x4 nm) (same_times x1 (same_sym nm))))) (omega arith);
  curve =
      close (k * (y1 + y4)) (x1 * x1 + x1 * x4 + x4 * x4 + a) pos (same_add (same_times l s.line) (same_add (same_sym s.curve) (same_add (same_times x4 t.x) (same_add (same_times x2 (same_sym t.x)) (same_add (same_times l t.y) (same_add (same_times l n) (same_times (y1 + y4) (same_sym nm)))))))) (omega arith);
}

pub back_third : (p a x1 y1 o x2 y2 x4 y4 l k : ℕ) → 0 < p → Slope p a x1 o x2 y2 l → Third p x1 o x2 x4 y4 l → Same p (o + y1) 0
    → Same p (k + l) 0 → Third p x1 y1 x4 x2 y2 k
back_third p a x1 y1 o x2 y2 x4 y4 l k pos s t n nm = record {
  x =
      close (x2 + x1 + x4) (k * k) pos (same_add (same_sym t.x) (same_add (same_times k nm) (same_times l (same_sym nm)))) (omega arith);
  y =
      close (y2 + y1 + k * x2) (k * x1) pos (same_add (same_sym s.line) (same_add (same_sym n) (same_add (same_times x1 nm) (same_times x2 (same_sym nm))))) (omega arith);
}

-- were it -P again, the curve would have a double point
pub double_y : (p a x1 y1 o x2 y2 y4 l : ℕ) → 0 < p → Slope p a x1 o x2 y2 l → Third p x1 o x2 x1 y4 l → Same p (o + y1) 0 → Same p (y1 + y4) 0
    → Same p (2 * y1) 0
double_y p a x1 y1 o x2 y2 y4 l pos s t n n4 =
    close (2 * y1) 0 pos (same_add t.y (same_add (same_sym n) (same_sym n4))) (omega arith)

double_x : (p a x1 y1 o x2 y2 y4 l : ℕ) → 0 < p → Slope p a x1 o x2 y2 l → Third p x1 o x2 x1 y4 l → Same p (o + y1) 0 → Same p (y1 + y4) 0
    → Same p y1 0 → Same p (3 * (x1 * x1) + a) 0
double_x p a x1 y1 o x2 y2 y4 l pos s t n n4 z =
    close (3 * (x1 * x1) + a) 0 pos (same_add (same_times l (same_sym s.line)) (same_add s.curve (same_add (same_times x2 t.x) (same_add (same_times x1 (same_sym t.x)) (same_add (same_times (2 * l) (same_sym n)) (same_times (2 * l) z)))))) (omega arith)

double_root : (p a b x1 y1 : ℕ) → 0 < p → Same p (3 * (x1 * x1) + a) 0 → Same p (y1 * y1) (x1 * x1 * x1 + a * x1 + b) → Same p y1 0
    → Same p (4 * (a * a * a) + 27 * (b * b)) 0
double_root p a b x1 y1 pos h3 c z =
    close (4 * (a * a * a) + 27 * (b * b)) 0 pos (same_add (same_times (9 * x1 * x1 * x1 * x1 + 15 * x1 * x1 * a + 4 * a * a) (same_sym h3)) (same_add (same_times (27 * b) c) (same_add (same_times (27 * x1 * x1 * x1 + 27 * x1 * a) (same_sym c)) (same_add (same_times (27 * x1 * x1 * x1 * y1 + 27 * x1 * y1 * a) z) (same_times (27 * y1 * b) (same_sym z)))))) (omega arith)

pub double_point : (p a b x1 y1 o x2 y2 y4 l : ℕ) → 0 < p → Slope p a x1 o x2 y2 l → Third p x1 o x2 x1 y4 l → Same p (o + y1) 0
    → Same p (y1 + y4) 0 → Same p (y1 * y1) (x1 * x1 * x1 + a * x1 + b) → Same p y1 0 → Same p (4 * (a * a * a) + 27 * (b * b)) 0
double_point p a b x1 y1 o x2 y2 y4 l pos s t n n4 c z = double_root p a b x1 y1 pos (double_x p a x1 y1 o x2 y2 y4 l pos s t n n4 z) c z

pub negated_on : (p o y1 : ℕ) → 0 < p → Same p (o + y1) 0 → Same p (o * o) (y1 * y1)
negated_on p o y1 pos n =
    close (o * o) (y1 * y1) pos (same_add (same_times y1 n) (same_times o (same_sym n))) (omega arith)

-- ---- of three points: the slopes l of the first two, and n of the last two, where they differ. w is the quotient
-- of x1 - x3 and l - n, and d the difference l - n.
pub quotient : (p x1 x3 l n d w g : ℕ) → 0 < p → Same p (d + n) l → Same p (w * d) g → Same p (g + x3) x1 → Same p (w * l + x3) (w * n + x1)
quotient p x1 x3 l n d w g pos hd t hg =
    close (w * l + x3) (w * n + x1) pos (same_add (same_times w hd) (same_add (same_sym t) (same_sym hg))) (omega arith)

-- the slope of the sum of the first two and the third is w - l
next_line : (p a x1 y1 x2 y2 x3 y3 x4 y4 l n w m d : ℕ) → 0 < p → Slope p a x1 y1 x2 y2 l → Third p x1 y1 x2 x4 y4 l → Slope p a x2 y2 x3 y3 n
    → Same p (w * l + x3) (w * n + x1) → Same p (m + l) w → Same p (d + n) l → Same p ((y3 + m * x4) * d) ((y4 + m * x3) * d)
next_line p a x1 y1 x2 y2 x3 y3 x4 y4 l n w m d pos s t u hw hm hd =
    close ((y3 + m * x4) * d) ((y4 + m * x3) * d) pos (same_add (same_times n (same_sym s.line)) (same_add (same_sym s.curve) (same_add (same_times x3 t.x) (same_add (same_times x1 (same_sym t.x)) (same_add (same_times l t.y) (same_add (same_times n (same_sym t.y)) (same_add (same_times l (same_sym u.line)) (same_add u.curve (same_add (same_times x3 hw) (same_add (same_times x4 (same_sym hw)) (same_add (same_times (x3 * l + x4 * n) hm) (same_add (same_times (x3 * n + x4 * l) (same_sym hm)) (same_add (same_times (x3 * m + y4) hd) (same_times (y3 + x4 * m) (same_sym hd))))))))))))))) (omega arith)

next_curve : (p a x1 y1 x2 y2 x3 y3 x4 y4 l n w m d : ℕ) → 0 < p → Slope p a x1 y1 x2 y2 l → Third p x1 y1 x2 x4 y4 l → Slope p a x2 y2 x3 y3 n
    → Same p (w * l + x3) (w * n + x1) → Same p (m + l) w → Same p (d + n) l
    → Same p (m * (y4 + y3) * d) ((x4 * x4 + x4 * x3 + x3 * x3 + a) * d)
next_curve p a x1 y1 x2 y2 x3 y3 x4 y4 l n w m d pos s t u hw hm hd =
    close ((m * (y4 + y3)) * d) ((x4 * x4 + x4 * x3 + x3 * x3 + a) * d) pos (same_add (same_times (x2 + x3 + x4) s.line) (same_add (same_times n s.curve) (same_add (same_times (x1 * n + y1 + x2 * n + x4 * l) t.x) (same_add (same_times (x1 * l + y2 + x3 * n + x4 * n) (same_sym t.x)) (same_add (same_times (x3 + l * l) t.y) (same_add (same_times (x1 + l * n) (same_sym t.y)) (same_add (same_times (x3 + l * l) u.line) (same_add (same_times x1 (same_sym u.line)) (same_add (same_times l (same_sym u.curve)) (same_add (same_times (y3 + y4) (same_sym hw)) (same_add (same_times (y3 * n + y4 * n) hm) (same_add (same_times (y3 * l + y4 * l) (same_sym hm)) (same_add (same_times (x3 * x3 + x3 * x4 + x4 * x4 + a) hd) (same_times (y3 * m + y4 * m) (same_sym hd))))))))))))))) (omega arith)

pub next_slope : (p a x1 y1 x2 y2 x3 y3 x4 y4 l n w m d i : ℕ) → 0 < p → Slope p a x1 y1 x2 y2 l → Third p x1 y1 x2 x4 y4 l → Slope p a x2 y2 x3 y3 n
    → Same p (w * l + x3) (w * n + x1) → Same p (m + l) w → Same p (d + n) l → Same p (d * i) 1 → Slope p a x4 y4 x3 y3 m
next_slope p a x1 y1 x2 y2 x3 y3 x4 y4 l n w m d i pos s t u hw hm hd hi = record {
  line = same_divide d i hi (next_line p a x1 y1 x2 y2 x3 y3 x4 y4 l n w m d pos s t u hw hm hd);
  curve = same_divide d i hi (next_curve p a x1 y1 x2 y2 x3 y3 x4 y4 l n w m d pos s t u hw hm hd);
}

-- and so both sums of the three points are one: q is of the first two and the third, r of the first and the last two
pub one_sum_x : (p a x1 y1 x2 y2 x3 y3 x4 y4 x5 y5 x6 y6 x7 y7 l n w m k : ℕ) → 0 < p → Slope p a x1 y1 x2 y2 l → Slope p a x2 y2 x3 y3 n
    → Third p x1 y1 x2 x4 y4 l → Third p x2 y2 x3 x6 y6 n → Third p x3 y3 x4 x5 y5 m → Third p x1 y1 x6 x7 y7 k
    → Same p (w * l + x3) (w * n + x1) → Same p (m + l) w → Same p (k + n) w → Same p x5 x7
one_sum_x p a x1 y1 x2 y2 x3 y3 x4 y4 x5 y5 x6 y6 x7 y7 l n w m k pos s u t v q r hw hm hk =
    close x5 x7 pos (same_add (same_times 2 hw) (same_add (same_times l hm) (same_add (same_times (n + m + k) (same_sym hm)) (same_add (same_times (l + m + k) hk) (same_add (same_times n (same_sym hk)) (same_add t.x (same_add (same_sym v.x) (same_add (same_sym q.x) r.x)))))))) (omega arith)

pub one_sum_y : (p a x1 y1 x2 y2 x3 y3 x4 y4 x5 y5 x6 y6 x7 y7 l n w m k : ℕ) → 0 < p → Slope p a x1 y1 x2 y2 l → Slope p a x2 y2 x3 y3 n
    → Third p x1 y1 x2 x4 y4 l → Third p x2 y2 x3 x6 y6 n → Third p x3 y3 x4 x5 y5 m → Third p x1 y1 x6 x7 y7 k
    → Same p (w * l + x3) (w * n + x1) → Same p (m + l) w → Same p (k + n) w → Same p x5 x7 → Same p y5 y7
one_sum_y p a x1 y1 x2 y2 x3 y3 x4 y4 x5 y5 x6 y6 x7 y7 l n w m k pos s u t v q r hw hm hk e =
    close y5 y7 pos (same_add (same_times (2 * n) hw) (same_add (same_times (l + 3 * m) (same_sym hw)) (same_add (same_times (x4 + x5 + x7 + l * n + l * k + n * m + m * k) hm) (same_add (same_times (x1 + x2 + x6 + l * m + n * k) (same_sym hm)) (same_add (same_times (2 * l * n + 2 * n * m + n * k) hk) (same_add (same_times (2 * x2 + 2 * x3 + 2 * x4 + x5 + x6 + x7 + 2 * l * m + l * k + m * k) (same_sym hk)) (same_add s.line (same_add u.line (same_add (same_times (n + k) t.x) (same_add (same_times (m + w) (same_sym t.x)) (same_add (same_times (2 * l + 2 * m + k) v.x) (same_add (same_times (2 * w) (same_sym v.x)) (same_add (same_times (n + k) q.x) (same_add (same_times l (same_sym q.x)) (same_add (same_sym q.y) (same_add (same_times n r.x) (same_add (same_times (l + m) (same_sym r.x)) r.y))))))))))))))))) (omega arith)

-- ---- three points on one line: the first is the third, or the third is that of the first two with the other sign of y
pub collinear : (p a x1 y1 x2 y2 x3 y3 x4 y4 l n d : ℕ) → 0 < p → Slope p a x1 y1 x2 y2 l → Third p x1 y1 x2 x4 y4 l → Slope p a x2 y2 x3 y3 n
    → Same p l n → Same p (d + x3) x1 → Same p (x3 * d) (x4 * d)
collinear p a x1 y1 x2 y2 x3 y3 x4 y4 l n d pos s t u h hd =
    close (x3 * d) (x4 * d) pos (same_add (same_times l s.line) (same_add s.curve (same_add (same_times x1 t.x) (same_add (same_times x3 (same_sym t.x)) (same_add (same_times l u.line) (same_add (same_sym u.curve) (same_add (same_times (x2 * l) h) (same_add (same_times (y2 + x3 * l + y3) (same_sym h)) (same_add (same_times x4 hd) (same_times x3 (same_sym hd))))))))))) (omega arith)

pub same_ends : (p a x1 y1 x2 y2 x3 y3 l n : ℕ) → 0 < p → Slope p a x1 y1 x2 y2 l → Slope p a x2 y2 x3 y3 n → Same p l n → Same p x1 x3 → Same p y1 y3
same_ends p a x1 y1 x2 y2 x3 y3 l n pos s u h f =
    close y1 y3 pos (same_add s.line (same_add u.line (same_add (same_times x2 h) (same_add (same_times x1 (same_sym h)) (same_times n (same_sym f)))))) (omega arith)

pub opposite_ends : (p a x1 y1 x2 y2 x3 y3 x4 y4 l n : ℕ) → 0 < p → Slope p a x1 y1 x2 y2 l → Third p x1 y1 x2 x4 y4 l → Slope p a x2 y2 x3 y3 n
    → Same p l n → Same p x3 x4 → Same p (y4 + y3) 0
opposite_ends p a x1 y1 x2 y2 x3 y3 x4 y4 l n pos s t u h f =
    close (y4 + y3) 0 pos (same_add (same_sym s.line) (same_add (same_sym t.y) (same_add (same_sym u.line) (same_add (same_times x3 h) (same_add (same_times x2 (same_sym h)) (same_times l (same_sym f))))))) (omega arith)
