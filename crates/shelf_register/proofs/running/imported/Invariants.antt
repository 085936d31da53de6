use Rattle.register.specs.Registers.{IsOpenRegister}
use Rattle.shelf_register.proofs.running.imported.Given as goal

abbrev pub invariant-files : goal.invariant-files
invariant-files g l = record { is_open : IsOpenRegister l.register.is_closed (g.S.Store.view l.register.store) l.register.record }
