-- The rows of a store, read one after the other.
use Rattle.std.specs.Prelude.{◌≢◌}
use Rattle.std.proofs.Common.{◌≡◌, ◌⊎◌, ℕ, ◌+◌, List, [], ◌∷◌, ◌++◌, append_assoc, append-nil, length, Bool, true, false, cond, Some, Option, IsTrue, refl, sym, ap, subst, ◌∙◌, arith}
use Rattle.sqlite_value.specs.Order.{Row}
use Rattle.sqlite_value.specs.declared.keys.Order.{Order}
use Rattle.sqlite_trees.specs.Tree.{Trees, from_key}
use Rattle.sqlite_trees.specs.View.{View, IsClean, IsRolledBack, Advances, with_cursor}
use Rattle.sqlite_trees.specs.declared.store.Shape.TheVariants.{Table}
use Rattle.register_record.specs.Records.{State, nothing}
use Rattle.register_record.specs.declared.event.Event.{Event}
use Rattle.register_rows.specs.Kept.{Holds}
use Rattle.register.specs.Registers.{HasRecord, IsRegister}
use Rattle.register.specs.Opening.{EndsAt, FoundRecord, GoesOn, GoesTo, HasRead, IsReading, IsRecordOf, ReadsRecord, Refuses}
use Rattle.register.specs.declared.error.OpenError.{OpenError}
use Rattle.register.specs.declared.error.OpenError.TheVariants as failure
use Rattle.register_rows.specs.Rows.{row_of, rows_of}
use Rattle.register_rows.proofs.Putting.{rows_push}
use Rattle.register.proofs.Registers.{count_push, record_push, state_push}

-- ---- one row more

more : (first old new : View) (es : List Event) (row : Row) (e : Event) → row ≡ row_of (length es) e → IsReading first old es → Advances old new 0 row true
    → IsReading first new (es ++ e ∷ [])
more first old new es row e is r step =
    let rest : r.rest ≡ row ∷ step.0 = let h = sym r.cursor ∙ step.1 in cc in
    record {
      same = step.2 ∙ ap (λ (v : View). record v { cursors = (with_cursor old 0 step.0).cursors }) r.same
          ∙ ap (λ (k : ℕ → Option (List Row)). record first { cursors = k }) (sym (ap (λ (v : View). v.cursors) step.2));
      shape = r.shape;
      rest = step.0;
      cursor = ap (λ (v : View). v.cursors 0) step.2;
      rows = ap (λ rows. rows ++ step.0) (rows_push 0 (length es) es e (omega arith)) ∙ append_assoc (rows_of es) (row_of (length es) e ∷ []) step.0
          ∙ ap (λ r. rows_of es ++ r ∷ step.0) (sym is) ∙ ap (λ all. rows_of es ++ all) (sym rest) ∙ r.rows;
    }

pub read_on : (first old new : View) (n : ℕ) (s t : State) (row : Row) → ReadsRecord first old n s → GoesOn n row s t → (IsClean new → IsClean old)
    → (IsClean new → Advances old new 0 row true) → ReadsRecord first new (n + 1) t
read_on first old new n s t row r step back got =
    let e = step.0 in
    let is : row ≡ row_of (length r.events) e = subst (λ (m : ℕ). row ≡ row_of m e) (sym r.count_is) step.1.0 in
    record {
      events = r.events ++ e ∷ [];
      count_is = count_push r.events e n r.count_is;
      found = record {
        goes = record_push r.events e s r.found.state r.found.goes step.1.1.0;
        state = state_push r.events e s r.found.state ∙ sym step.1.1.1;
      };
      reading = λ clean. more first old new r.events row e is (r.reading (back clean)) (got clean);
    }

-- ---- the first row

-- with no key a seek finds all rows
whole : (o : Order) (rows : List Row) → from_key o [] rows ≡ rows
whole o [] = refl
whole o ([] ∷ rows) = refl
whole o ((x ∷ a) ∷ rows) = refl

pub begun : (old new : View) (o : Order) (key : Row) (s : State) → s ≡ nothing → key ≡ [] → old.shape 0 ≡ Table
    → (IsClean new → new ≡ with_cursor old 0 (from_key o key (old.trees 0))) → ReadsRecord old new 0 s
begun old new o key s start none table is = record {
  events = [];
  count_is = refl;
  found = record { goes = refl; state = sym start };
  reading = λ clean. record {
    same = is clean ∙ ap (λ (k : ℕ → Option (List Row)). record old { cursors = k }) (sym (ap (λ (v : View). v.cursors) (is clean)));
    shape = table;
    rest = old.trees 0;
    cursor = ap (λ (v : View). v.cursors 0) (is clean) ∙ ap (λ (k : Row). Some (from_key o k (old.trees 0))) none ∙ ap Some (whole o (old.trees 0));
    rows = refl;
  };
}

-- ---- a row that ends the record

goes_to : (first old new : View) (n : ℕ) (s : State) (row : Row) → ReadsRecord first old n s → (IsClean new → IsClean old)
    → (IsClean new → Advances old new 0 row true) → IsClean new → GoesTo (new.trees 0) n s row
goes_to first old new n s row r back got clean =
    let was = r.reading (back clean) in
    let step = got clean in
    let rest : was.rest ≡ row ∷ step.0 = let h = sym was.cursor ∙ step.1 in cc in
    record {
      events = r.events;
      found = r.found;
      count_is = r.count_is;
      rest = step.0;
      rows_are = ap (λ (v : View). v.trees 0) (step.2) ∙ ap (λ (v : View). v.trees 0) was.same ∙ sym was.rows ∙ ap (λ all. rows_of r.events ++ all) rest;
    }

pub stops : (first old new : View) (n : ℕ) (s : State) (row : Row) (e : OpenError) → ReadsRecord first old n s → EndsAt n row s e → (IsClean new → IsClean old)
    → (IsClean new → Advances old new 0 row true) → IsClean new → Refuses (new.trees 0) e
stops first old new n s row (failure.NoEvent m) r ends back got clean = (
  s,
  row,
  subst (λ k. GoesTo (new.trees 0) k s row) (sym ends.0) (goes_to first old new n s row r back got clean),
  λ e kept. subst (λ k. row ≢ row_of k e) (sym ends.0) (ends.1 e kept),
)
stops first old new n s row (failure.NotNext m) r ends back got clean = (
  s,
  row,
  subst (λ k. GoesTo (new.trees 0) k s row) (sym ends.0) (goes_to first old new n s row r back got clean),
  (ends.1.0, (subst (λ k. row ≡ row_of k ends.1.0) (sym ends.0) ends.1.1.0, ends.1.1.1)),
)
stops first old new n s row failure.NoTable r ends back got clean = tt
stops first old new n s row failure.Full r ends back got clean = tt
stops first old new n s row (failure.Store x) r ends back got clean = tt
stops first old new n s row failure.OutOfMemory r ends back got clean = tt

-- ---- the end

pub read_out : (first old new : View) (n : ℕ) (s : State) (row : Row) → ReadsRecord first old n s → (IsClean new → IsClean old)
    → (IsClean new → Advances old new 0 row false) → FoundRecord first new s
read_out first old new n s row r back got = record {
  events = r.events;
  found = r.found;
  read = λ clean.
      let now = got clean in
      let was = r.reading (back clean) in
      let none : was.rest ≡ [] = let h = sym was.cursor ∙ now.0 in cc in
      record {
        same = subst (λ (v : View). v ≡ record first { cursors = v.cursors }) (sym now.1) was.same;
        shape = ap (λ (v : View). v.shape 0) (now.1 ∙ was.same) ∙ was.shape;
        rows = ap (λ (v : View). v.trees 0) (now.1 ∙ was.same) ∙ sym was.rows ∙ ap (λ (rest : List Row). rows_of r.events ++ rest) none ∙ append-nil (rows_of r.events);
      };
}

-- ---- a store that is opened

opened : {X : Type 0} (b : Bool) (x y : X) → IsTrue b → cond b x y ≡ x
opened true x y h = refl
opened false x y h = absurd (cc)

module _ (old mid new : View) (es : List Event) (undone : IsRolledBack old mid) (read : HasRead mid new es) (clean : IsClean mid) (shows : IsTrue new.is_open) where
  still : IsTrue mid.is_open
  still = sym (ap (λ (v : View). v.is_open) read.same) ∙ shows

  same_trees : new.trees ≡ old.committed
  same_trees = ap (λ (v : View). v.trees) read.same ∙ (undone.undone still).0

  holds : Holds new es
  holds =
      let kept = undone.kept clean in
      record {
        shape = read.shape;
        rows = read.rows;
        settled = same_trees ∙ sym (kept.committed still) ∙ sym (ap (λ (v : View). v.committed) read.same);
        shapes = ap (λ (v : View). v.shape) read.same ∙ kept.shape ∙ opened mid.is_open old.committed_shape old.shape still ∙ sym kept.committed_shape
            ∙ sym (ap (λ (v : View). v.committed_shape) read.same);
        reals = ap (λ (v : View). v.reals) read.same ∙ kept.reals ∙ opened mid.is_open old.committed_reals old.reals still ∙ sym kept.committed_reals
            ∙ sym (ap (λ (v : View). v.committed_reals) read.same);
      }

pub is_register : (old mid new : View) (s : State) → IsRolledBack old mid → FoundRecord mid new s → (IsClean new → IsClean mid) → IsRegister new s
is_register old mid new s undone f back = record {
  events = f.events;
  keeps = λ clean shows. holds old mid new f.events undone (f.read clean) (back clean) shows;
  goes = f.found.goes;
  state = f.found.state;
}

pub is_found : (old mid new : View) (s : State) → IsRolledBack old mid → FoundRecord mid new s → (IsClean new → IsClean mid) → IsClean new
    → IsTrue new.is_open → HasRecord (old.committed 0) s
is_found old mid new s undone f back clean shows = record {
  events = f.events;
  rows_are = sym (ap (λ (t : Trees). t 0) (same_trees old mid new f.events undone (f.read clean) (back clean) shows)) ∙ (f.read clean).rows;
  goes = f.found.goes;
  state = f.found.state;
}
