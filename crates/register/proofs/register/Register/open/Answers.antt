use Rattle.std.proofs.Common.{arith}
use Rattle.sqlite_trees.specs.View.{IsClean}
use Rattle.register.proofs.Reopened.{is_found, is_register}
use Rattle.register.proofs.register.Register.open.Goals as goal

pub returns-in-Ok-clause-register : goal.returns-in-Ok-clause-register
returns-in-Ok-clause-register g c _ =
    let mid = g.S.Store.view c.rollback.new.self in
    let new = g.S.Store.view c.read_all.new.store in
    is_register (g.S.Store.view c.args.store) mid new _ c.rollback.ensures.undone c.in-Ok.ensures.found (λ clean. omega (arith, clean, c.read_all.ensures.quiet.clean))

pub returns-in-Ok-clause-found : goal.returns-in-Ok-clause-found
returns-in-Ok-clause-found g c clean shows =
    let mid = g.S.Store.view c.rollback.new.self in
    let new = g.S.Store.view c.read_all.new.store in
    is_found (g.S.Store.view c.args.store) mid new _ c.rollback.ensures.undone c.in-Ok.ensures.found (λ clean. omega (arith, clean, c.read_all.ensures.quiet.clean)) clean shows
