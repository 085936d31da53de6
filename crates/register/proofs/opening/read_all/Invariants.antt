use Rattle.std.specs.Prelude.{IsSome}
use Rattle.sqlite_trees.specs.View.{IsQuiet}
use Rattle.register.specs.Opening.{ReadsRecord}
use Rattle.register.proofs.opening.read_all.Given as goal

abbrev pub invariant-rows : goal.invariant-rows
invariant-rows g l =
    let view = g.S.Store.view in
    record {
      live : IsSome ((view l.store).cursors 0);
      quiet : IsQuiet view g.S.Store.faults g.S.Store.recovers g.S.Store.is_shielded l.fn.store l.store;
      reads : ReadsRecord (view l.fn.store) (view l.store) l.before l.record;
    }
