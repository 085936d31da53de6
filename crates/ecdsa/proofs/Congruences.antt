-- Equality modulo p, and how equations of sums and products follow from others.
use Rattle.std.proofs.Common.{◌≡◌, ℕ, ◌+◌, ◌-◌, ◌*◌, ◌/◌, ◌%◌, ◌^◌, ◌<◌, refl, sym, ◌∙◌, ap, arith}
use Rattle.std.proofs.Math.Nat.{add-mod, mod-mod, add-mul-mod_self_left, mod-add-div, pow-suc, pow-zero, mod-eq_of_lt, mod-lt}
use Rattle.std.proofs.lemmas.Nat.{mul-mod}

-- a and b are the same modulo p
pub record Same (p a b : ℕ) : Type 0 where
  pub remainders : a % p ≡ b % p

pub same_refl : (p a : ℕ) → Same p a a
same_refl p a = record { remainders = refl }

pub same_sym : {p a b : ℕ} → Same p a b → Same p b a
same_sym h = record { remainders = sym h.remainders }

pub same_trans : {p a b c : ℕ} → Same p a b → Same p b c → Same p a c
same_trans h k = record { remainders = h.remainders ∙ k.remainders }

pub same_from : {p a b : ℕ} → a ≡ b → Same p a b
same_from {p} {a} {b} e = record { remainders = ap (λ (x : ℕ). x % p) e }

pub same_mod : (p a : ℕ) → Same p (a % p) a
same_mod p a = record { remainders = mod-mod a p }

pub same_add : {p a b c d : ℕ} → Same p a b → Same p c d → Same p (a + c) (b + d)
same_add {p} {a} {b} {c} {d} h k = record {
  remainders = add-mod a c p ∙ ap (λ (x : ℕ). (x + c % p) % p) h.remainders ∙ ap (λ (x : ℕ). (b % p + x) % p) k.remainders ∙ sym (add-mod b d p);
}

pub same_mul : {p a b c d : ℕ} → Same p a b → Same p c d → Same p (a * c) (b * d)
same_mul {p} {a} {b} {c} {d} h k = record {
  remainders = mul-mod a c p ∙ ap (λ (x : ℕ). (x * (c % p)) % p) h.remainders ∙ ap (λ (x : ℕ). (b % p * x) % p) k.remainders ∙ sym (mul-mod b d p);
}

-- a multiple of p more
pub same_more : (p a k : ℕ) → Same p (a + p * k) a
same_more p a k = record { remainders = add-mul-mod_self_left a p k }

-- what is added on both sides falls away
pub same_cancel : {p a b : ℕ} (c : ℕ) → 0 < p → Same p (a + c) (b + c) → Same p a b
same_cancel {p} {a} {b} c pos h =
    let r = p - c % p in
    let l : c % p < p = mod-lt c pos in
    let q : c + r ≡ p * (c / p + 1) = let e = mod-add-div c p in omega arith in
    let left : a + c + r ≡ a + p * (c / p + 1) = omega arith in
    let right : b + c + r ≡ b + p * (c / p + 1) = omega arith in
    same_trans (same_sym (same_trans (same_from left) (same_more p a (c / p + 1))))
    (same_trans (same_add h (same_refl p r)) (same_trans (same_from right) (same_more p b (c / p + 1))))

pub same_times : {p a b : ℕ} (c : ℕ) → Same p a b → Same p (c * a) (c * b)
same_times {p} c h = same_mul (same_refl p c) h

-- an equation of sums, from equations times factors
pub combine : {p a b : ℕ} (x y c : ℕ) → 0 < p → Same p a b → x + c * a ≡ y + c * b → Same p x y
combine {p} {a} {b} x y c pos h e =
    same_cancel (c * a) pos (same_trans (same_from e) (same_add (same_refl p y) (same_sym (same_times c h))))

pub combine2 : {p a b a' b' : ℕ} (x y c c' : ℕ) → 0 < p → Same p a b → Same p a' b'
    → x + c * a + c' * a' ≡ y + c * b + c' * b' → Same p x y
combine2 {p} {a} {b} {a'} {b'} x y c c' pos h h' e =
    same_cancel (c * a + c' * a') pos
    (same_trans (same_from (let f : x + (c * a + c' * a') ≡ y + (c * b + c' * b') = omega arith in f))
    (same_add (same_refl p y) (same_add (same_sym (same_times c h)) (same_sym (same_times c' h')))))

pub combine3 : {p a b a' b' a'' b'' : ℕ} (x y c c' c'' : ℕ) → 0 < p → Same p a b → Same p a' b' → Same p a'' b''
    → x + c * a + c' * a' + c'' * a'' ≡ y + c * b + c' * b' + c'' * b'' → Same p x y
combine3 {p} {a} {b} {a'} {b'} {a''} {b''} x y c c' c'' pos h h' h'' e =
    same_cancel (c * a + c' * a' + c'' * a'') pos
    (same_trans (same_from (let f : x + (c * a + c' * a' + c'' * a'') ≡ y + (c * b + c' * b' + c'' * b'') = omega arith in f))
    (same_add (same_refl p y) (same_add (same_add (same_sym (same_times c h)) (same_sym (same_times c' h'))) (same_sym (same_times c'' h'')))))

-- what falls away where the factor has an inverse
pub same_divide : {p a b : ℕ} (c w : ℕ) → Same p (c * w) 1 → Same p (a * c) (b * c) → Same p a b
same_divide {p} {a} {b} c w u h =
    let s : (x : ℕ) → Same p (x * c * w) x = λ x.
    same_trans (same_from (let e : x * c * w ≡ x * (c * w) = omega arith in e)) (same_trans (same_times x u) (same_from
    (let e : x * 1 ≡ x = omega arith in e))) in
    same_trans (same_sym (s a)) (same_trans (same_mul h (same_refl p w)) (s b))

pub same_below : {p a b : ℕ} → a < p → b < p → Same p a b → a ≡ b
same_below {p} {a} {b} l m h = sym (mod-eq_of_lt l) ∙ h.remainders ∙ mod-eq_of_lt m

pub square : (x : ℕ) → x ^ 2 ≡ x * x
square x = let e = pow-suc x 1 in let f = pow-suc x 0 in let g = pow-zero x in rw (e, f, g) (omega arith)

pub cube : (x : ℕ) → x ^ 3 ≡ x * x * x
cube x = let e = pow-suc x 2 in rw (e, square x) refl
