use Rattle.register.specs.Registers.{IsOpenRegister}
use Rattle.shelf_register.proofs.running.import_blocks.Given as goal

abbrev pub invariant-blocks-2 : goal.invariant-blocks-2
invariant-blocks-2 g l = record { is_open : IsOpenRegister l.register.is_closed (g.S.Store.view l.register.store) l.register.record }
