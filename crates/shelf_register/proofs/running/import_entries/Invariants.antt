use Rattle.register.specs.Registers.{IsOpenRegister}
use Rattle.shelf_register.proofs.running.import_entries.Given as goal

abbrev pub invariant-entries : goal.invariant-entries
invariant-entries g l = record { is_open : IsOpenRegister l.register.is_closed (g.S.Store.view l.register.store) l.register.record }
