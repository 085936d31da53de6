-- Of m + 1 numbers below m two are the same.
use Rattle.std.proofs.Common.{◌≡◌, ◌≢◌, ℕ, zero, suc, ◌<◌, cond, eqb, ◌⊎◌, inl, inr, refl, sym, ◌∙◌, ap, arith}
use Rattle.std.proofs.lemmas.Bool.{cases_eq, eq-eqb, ne_eqb}

-- two places below n with the same number
pub record Collide (f : ℕ → ℕ) (n : ℕ) : Type 0 where
  pub first : ℕ
  pub second : ℕ
  pub apart : first < second
  pub within : second < n
  pub same : f first ≡ f second

found_or_not : (f : ℕ → ℕ) (n v : ℕ) → ((i : ℕ) × (i < n) × (f i ≡ v)) ⊎ ((i : ℕ) → i < n → f i ≢ v)
found_or_not f zero v = inr (λ i l e. absurd (omega arith))
found_or_not f (suc n) v =
    elim (found_or_not f n v) [
      | inl r ↦ inl (r.0, omega arith, r.2)
      | inr none ↦
          elim (cases_eq (f n) v) [
            | inl e ↦ inl (n, omega arith, e)
            | inr ne ↦ inr (λ i l e. elim (cases_eq i n) [ inl s ↦ ne (sym (ap f s) ∙ e) | inr d ↦ none i (omega arith) e ])
          ]
    ]

-- the number at a place, and v in place of the highest
lowered : (ℕ → ℕ) → ℕ → ℕ → ℕ → ℕ
lowered f m v i = cond (eqb (f i) m) v (f i)

lowered-top : (f : ℕ → ℕ) (m v i : ℕ) → f i ≡ m → lowered f m v i ≡ v
unfolding lowered
lowered-top f m v i h = rw (eq-eqb (f i) m h) refl

lowered-other : (f : ℕ → ℕ) (m v i : ℕ) → f i ≢ m → lowered f m v i ≡ f i
unfolding lowered
lowered-other f m v i h = rw (ne_eqb (f i) m h) refl

lowered-below : (f : ℕ → ℕ) (m v i : ℕ) → f i < suc m → v < suc m → f i ≢ v → lowered f m v i < m
lowered-below f m v i l k n =
    elim (cases_eq (f i) m) [
      | inl e ↦ let q = lowered-top f m v i e in omega arith
      | inr ne ↦ let q = lowered-other f m v i ne in omega arith
    ]

raised : (f : ℕ → ℕ) (m v i j : ℕ) → f i ≢ v → f j ≢ v → lowered f m v i ≡ lowered f m v j → f i ≡ f j
raised f m v i j ni nj h =
    elim (cases_eq (f i) m) [
      | inl e ↦
          elim (cases_eq (f j) m) [
            | inl d ↦ e ∙ sym d
            | inr d ↦ absurd (nj (sym (lowered-other f m v j d) ∙ sym h ∙ lowered-top f m v i e))
          ]
      | inr e ↦
          elim (cases_eq (f j) m) [
            | inl d ↦ absurd (ni (sym (lowered-other f m v i e) ∙ h ∙ lowered-top f m v j d))
            | inr d ↦ sym (lowered-other f m v i e) ∙ h ∙ lowered-other f m v j d
          ]
    ]

pub collision : (m : ℕ) (f : ℕ → ℕ) → ((i : ℕ) → i < suc m → f i < m) → Collide f (suc m)
collision zero f h = absurd (let l = h 0 (omega arith) in omega (arith, l))
collision (suc m) f h =
    elim (found_or_not f (suc m) (f (suc m))) [
      | inl r ↦ record { first = r.0; second = suc m; apart = r.1; within = omega arith; same = r.2 }
      | inr none ↦
          let v : ℕ = f (suc m) in
          let c = collision m (lowered f m v) (λ i l. lowered-below f m v i (h i (omega arith)) (h (suc m) (omega arith)) (none i l)) in
          let a = c.apart in
          let b = c.within in
          record {
            first = c.first;
            second = c.second;
            apart = a;
            within = omega arith;
            same = raised f m v c.first c.second (none c.first (omega arith)) (none c.second b) c.same;
          }
    ]
