-- What a put and a commit leave of a store that keeps events.
use Rattle.std.proofs.Common.{◌≡◌, ◌⊎◌, inl, inr, ℕ, ◌+◌, List, [], ◌∷◌, ◌++◌, length, Bool, true, false, IsTrue, refl, sym, ap, subst, ◌∙◌, arith}
use Rattle.sqlite_trees.specs.Tree.{Trees, put_row}
use Rattle.sqlite_trees.specs.View.{View, SetsTree, Commits}
use Rattle.sqlite_value.specs.Order.{Row}
use Rattle.register_record.specs.declared.event.Event.{Event}
use Rattle.register_rows.specs.Kept.{Holds}
use Rattle.register_rows.specs.Rows.{row_of, rows_of}
use Rattle.register_rows.proofs.Putting.{put_last}

-- a store that isn't broken is open
pub unbroken : (opened broken : Bool) → (opened ≡ false → IsTrue broken) → broken ≡ false → IsTrue opened
unbroken true broken h e = refl
unbroken false broken h e = absurd (let b = h refl in cc)

-- what the table has once the row is put
pub put_in : (old mid : View) (es : List Event) (e : Event) (row : Row) → row ≡ row_of (length es) e → Holds old es → SetsTree old mid 0 (put_row row)
    → mid.trees 0 ≡ rows_of (es ++ e ∷ [])
put_in old mid es e row is held set =
    let last : put_row row (rows_of es) ≡ rows_of (es ++ e ∷ []) = rw is (put_last 0 (length es) es e (omega arith)) in
    ap (λ (v : View). v.trees 0) set.is ∙ ap (put_row row) held.rows ∙ last

-- what the commit leaves
pub committed : (old mid new : View) (es : List Event) (e : Event) (row : Row) → row ≡ row_of (length es) e → Holds old es → SetsTree old mid 0 (put_row row)
    → Commits mid new → Holds new (es ++ e ∷ [])
committed old mid new es e row is held set done = record {
  shape = ap (λ (v : View). v.shape 0) done.is ∙ ap (λ (v : View). v.shape 0) set.is ∙ held.shape;
  rows = ap (λ (v : View). v.trees 0) done.is ∙ put_in old mid es e row is held set;
  settled = ap (λ (v : View). v.trees) done.is ∙ sym (ap (λ (v : View). v.committed) done.is);
  shapes = ap (λ (v : View). v.shape) done.is ∙ sym (ap (λ (v : View). v.committed_shape) done.is);
  reals = ap (λ (v : View). v.reals) done.is ∙ sym (ap (λ (v : View). v.committed_reals) done.is);
}

-- what they leave to a crash
pub outcome : (mid : View) (es : List Event) (R Q : Type 0) (db : Trees) → mid.trees 0 ≡ rows_of es → (Q → R)
    → ((mid.is_broken ≡ false) × (db ≡ mid.trees)) ⊎ Q → R ⊎ (db 0 ≡ rows_of es)
outcome mid es R Q db rows back (inl now) = inr (ap (λ (t : Trees). t 0) now.1 ∙ rows)
outcome mid es R Q db rows back (inr past) = inl (back past)
