-- A folded text has short lines.
use Rattle.std.proofs.Common.{◌≡◌, ◌++◌, ℕ, ◌==◌, ◌<◌, ◌≤◌, ◌+◌, Bool, true, false, not, List, [], ◌∷◌, nat_lt, nat_le, refl, ap, sym, ◌∙◌, arith}
use Rattle.std.proofs.lemmas.List.{append_assoc}
use Rattle.shelf_explain.specs.Folding.{fits_from, fold_mark, folded_from, goes_on, is_wide, next_column, piece}

mark_fits : (column : ℕ) (text : List ℕ) → fits_from column (fold_mark ++ text) ≡ fits_from 34 text
unfolding fits_from fold_mark goes_on
mark_fits column text = refl

at_34 : (octet : ℕ) (rest : List ℕ) → (octet == 10) ≡ false → goes_on octet ≡ false → fits_from 34 (octet ∷ rest) ≡ fits_from 35 rest
unfolding fits_from
at_34 octet rest f i = rw (f, i) refl

-- a line that ends
wide_step : (column octet : ℕ) (rest : List ℕ) → (octet == 10) ≡ false → goes_on octet ≡ false → fits_from 35 rest ≡ true
    → fits_from column ((fold_mark ++ octet ∷ []) ++ rest) ≡ true
wide_step column octet rest f i h =
    ap (fits_from column) (append_assoc fold_mark (octet ∷ []) rest) ∙ mark_fits column (octet ∷ rest) ∙ at_34 octet rest f i ∙ h

-- an octet, by what it is
step : (column octet : ℕ) (rest : List ℕ) (feed inner wide : Bool)
    → (octet == 10) ≡ feed → goes_on octet ≡ inner → nat_le 98 column ≡ wide → nat_lt column 98 ≡ not wide
    → fits_from (next_column column octet) rest ≡ true → fits_from column (piece column octet ++ rest) ≡ true
unfolding fits_from next_column piece is_wide
step column octet rest true true true f i w n h = simp (f, i, w, n) (rw f at h)
step column octet rest true true false f i w n h = simp (f, i, w, n) (rw f at h)
step column octet rest true false true f i w n h = simp (f, i, w, n) (rw f at h)
step column octet rest true false false f i w n h = simp (f, i, w, n) (rw f at h)
step column octet rest false true true f i w n h = simp (f, i, w, n) (rw (f, i) at h)
step column octet rest false true false f i w n h = simp (f, i, w, n) (rw (f, i) at h)
step column octet rest false false true f i w n h = simp (f, i, w) (wide_step column octet rest f i (rw (f, i, n) at h))
step column octet rest false false false f i w n h = simp (f, i, w, n) (rw (f, i, n) at h)

pub folded_fits : (column : ℕ) (text : List ℕ) → fits_from column (folded_from column text) ≡ true
unfolding fits_from folded_from
folded_fits column [] = refl
folded_fits column (octet ∷ octets) =
    step column octet (folded_from (next_column column octet) octets) (octet == 10) (goes_on octet) (nat_le 98 column) refl refl refl (grind arith)
    (folded_fits (next_column column octet) octets)
