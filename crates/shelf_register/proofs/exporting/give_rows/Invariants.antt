use Rattle.std.specs.Prelude.{IsSome}
use Rattle.shelf_register.proofs.exporting.give_rows.Given as goal

abbrev pub invariant-rows : goal.invariant-rows
invariant-rows g l = record { live : IsSome ((g.S.Store.view l.store).cursors 0) }
