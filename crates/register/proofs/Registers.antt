-- What one event more leaves of a register.
use Rattle.std.specs.Prelude.{IfErr, OnErr}
use Rattle.std.proofs.Common.{Result, Ok, Err, IsErrAnd, ◌≡◌, ◌⊎◌, inl, inr, ℕ, suc, ◌+◌, List, [], ◌∷◌, ◌++◌, length, length-append, Bool, true, false, IsTrue, refl, sym, ap, subst, ◌∙◌, arith}
use Rattle.std.proofs.lemmas.Bool.{and_parts}
use Rattle.sqlite_trees.specs.Tree.{Trees}
use Rattle.sqlite_trees.specs.View.{View, IsClean}
use Rattle.sqlite_value.specs.Order.{Row}
use Rattle.register_record.specs.Following.{may_follow, may_go_on}
use Rattle.register_record.specs.Laws.{is_record}
use Rattle.register_record.specs.Records.{State, after, nothing, record_of, run}
use Rattle.register_record.specs.declared.event.Event.{Event}
use Rattle.register_record.proofs.Runs.{run_behind}
use Rattle.register_record.proofs.LawsHold.{counts_events}
use Rattle.register_rows.specs.Kept.{Holds, Keeps}
use Rattle.register.specs.Registers.{HasRecord, IsRegister}
use Rattle.register_rows.specs.Rows.{row_of, rows_of}

-- ---- one event more of a record

goes_push : (s : State) (es : List Event) (e : Event) → may_go_on s es ≡ true → may_follow (run s es) e ≡ true → may_go_on s (es ++ e ∷ []) ≡ true
goes_push s [] e goes may = rw may refl
goes_push s (x ∷ es) e goes may =
    let both = and_parts (may_follow s x) (may_go_on (after s x) es) goes in
    rw (both.0, goes_push (after s x) es e both.1 may) refl

pub record_push : (es : List Event) (e : Event) (s : State) → record_of es ≡ s → is_record es ≡ true → may_follow s e ≡ true → is_record (es ++ e ∷ []) ≡ true
record_push es e s is goes may = goes_push nothing es e goes (subst (λ (t : State). may_follow t e ≡ true) (sym is) may)

pub state_push : (es : List Event) (e : Event) (s : State) → record_of es ≡ s → record_of (es ++ e ∷ []) ≡ after s e
state_push es e s is = run_behind nothing es (e ∷ []) ∙ ap (λ (t : State). after t e) is

pub count_push : (es : List Event) (e : Event) (n : ℕ) → length es ≡ n → length (es ++ e ∷ []) ≡ n + 1
count_push es e n is = length-append es (e ∷ []) ∙ omega (arith, is)

-- ---- a register

-- so many events it has
pub counted : (es : List Event) (s : State) → record_of es ≡ s → length es ≡ s.count
counted es s is = sym (counts_events es) ∙ ap (λ (t : State). t.count) is

-- the row of the next event is that after the events
pub next_row : (v : View) (s : State) (r : IsRegister v s) (row : Row) (e : Event) → row ≡ row_of s.count e → row ≡ row_of (length r.events) e
next_row v s r row e is = subst (λ (n : ℕ). row ≡ row_of n e) (sym (counted r.events s r.state)) is

pub added : (old new : View) (s t : State) (e : Event) (r : IsRegister old s) → may_follow s e ≡ true → t ≡ after s e
    → Keeps new (r.events ++ e ∷ []) → IsRegister new t
added old new s t e r may is keeps = record {
  events = r.events ++ e ∷ [];
  keeps = keeps;
  goes = record_push r.events e s r.state r.goes may;
  state = state_push r.events e s r.state ∙ sym is;
}

pub still : (old new : View) (s t : State) (r : IsRegister old s) → t ≡ s → Keeps new r.events → IsRegister new t
still old new s t r is keeps = record { events = r.events; keeps = keeps; goes = r.goes; state = r.state ∙ sym is }

-- the rows of its events
pub shown : (old new : View) (s : State) (r : IsRegister old s) → Keeps new r.events → IsClean new → IsTrue new.is_open → HasRecord (new.trees 0) s
shown old new s r keeps clean opened = record { events = r.events; rows_are = (keeps clean opened).rows; goes = r.goes; state = r.state }

-- what the last commit left
pub settled_record : (v : View) (s : State) (r : IsRegister v s) → IsClean v → IsTrue v.is_open → (db : Trees) → db ≡ v.committed → HasRecord (db 0) s
settled_record v s r clean opened db is =
    let held = r.keeps clean opened in
    record {
      events = r.events;
      rows_are = ap (λ (t : Trees). t 0) is ∙ sym (ap (λ (t : Trees). t 0) held.settled) ∙ held.rows;
      goes = r.goes;
      state = r.state;
    }

-- what a crash leaves is the record before or the record after
pub outcomes : (v : View) (s : State) (e : Event) (r : IsRegister v s) → IsClean v → IsTrue v.is_open → may_follow s e ≡ true → (db : Trees)
    → (Past : Type 0) → (Past → db ≡ v.committed) → Past ⊎ (db 0 ≡ rows_of (r.events ++ e ∷ [])) → HasRecord (db 0) s ⊎ HasRecord (db 0) (after s e)
outcomes v s e r clean opened may db Past settled (inl past) = inl (settled_record v s r clean opened db (settled past))
outcomes v s e r clean opened may db Past settled (inr rows) = inr (record {
  events = r.events ++ e ∷ [];
  rows_are = rows;
  goes = record_push r.events e s r.state r.goes may;
  state = state_push r.events e s r.state;
})

-- a register of no events has nothing on record
pub empty : (v : View) (s : State) → IsRegister v s → s.count ≡ 0 → s ≡ nothing
empty v s r none = go r.events r.state (counted r.events s r.state ∙ none)
  where
    go : (es : List Event) → record_of es ≡ s → length es ≡ 0 → s ≡ nothing
    go [] is h = sym is
    go (e ∷ es) is h = absurd (omega (arith, h))

-- ---- errors that are passed on

pub on_error : {T E P : Type 0} (r : Result T E) → P → OnErr r P
on_error (Ok x) p = tt
on_error (Err e) p = p

pub passed : {T E : Type 0} (r : Result T E) (d : E) (P : E → Type 0) → IsErrAnd r (λ e. e ≡ d) → P d → IfErr r P
passed (Ok v) d P p x = absurd p
passed (Err e) d P p x = subst P (sym p) x
