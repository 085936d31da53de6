-- A row with the next rowid goes to the end.
use Rattle.std.proofs.Common.{◌≡◌, ℕ, suc, ◌+◌, ◌<◌, pos, List, [], ◌∷◌, ◌++◌, length, ap, ◌∙◌, arith}
use Rattle.std.proofs.lemmas.Int.{ints}
use Rattle.std.proofs.lemmas.Bool.Decides.{nat_tests}
use Rattle.std.specs.declared.cmp.Ordering.TheVariants.{Less}
use Rattle.sqlite_value.specs.declared.value.Value.TheVariants.{Int}
use Rattle.sqlite_value.specs.Order.{value_cmp}
use Rattle.sqlite_value.proofs.OrderLemmas.{value_cmp-Int}
use Rattle.sqlite_trees.specs.Tree.{put_row}
use Rattle.register_record.specs.declared.event.Event.{Event}
use Rattle.register_rows.specs.Rows.{row_of, rows_from}

int_below : (m n : ℕ) → m < n → value_cmp (Int (pos m)) (Int (pos n)) ≡ Less
int_below m n h = value_cmp-Int (pos m) (pos n) ∙ grind (arith, ints, nat_tests)

pub put_last : (n m : ℕ) (es : List Event) (e : Event) → m ≡ n + length es → put_row (row_of m e) (rows_from n es) ≡ rows_from n (es ++ e ∷ [])
put_last n m [] e h = let same : m ≡ n = omega (arith, h) in rw same
put_last n m (x ∷ es) e h =
    let below : value_cmp (Int (pos (suc n))) (Int (pos (suc m))) ≡ Less = int_below (suc n) (suc m) (omega arith) in
    rw below (ap (λ rows. row_of n x ∷ rows) (put_last (suc n) m es e (omega arith)))

pub rows_push : (n m : ℕ) (es : List Event) (e : Event) → m ≡ n + length es → rows_from n (es ++ e ∷ []) ≡ rows_from n es ++ row_of m e ∷ []
rows_push n m [] e h = let same : m ≡ n = omega (arith, h) in rw same
rows_push n m (x ∷ es) e h = ap (λ rows. row_of n x ∷ rows) (rows_push (suc n) m es e (omega arith))
