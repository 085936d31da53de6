use Rattle.std.proofs.Common.{◌≡◌, ◌⊎◌, inl, false, refl, arith}
use Rattle.sqlite_trees.specs.View.{IsClean}
use Rattle.register.proofs.Registers.{added, next_row, on_error, outcomes, settled_record, shown, still}
use Rattle.register.proofs.register.Register.append.Goals as goal

pub write_row-requires-clause-keyed : goal.write_row-requires-clause-keyed
write_row-requires-clause-keyed g c = rw c.in_ok-row.ensures.row refl

pub write_row-requires-clause-table : goal.write_row-requires-clause-table
write_row-requires-clause-table g c clean opened = ((c.requires c.in_ok-row.ensures.open.0).keeps clean opened).shape

pub returns-in_err-row-clause-kept : goal.returns-in_err-row-clause-kept
returns-in_err-row-clause-kept g c closed =
    let old = g.S.Store.view c.args.self.now.store in
    let r = c.requires closed in
    still old old c.args.self.now.record _ r c.in_err-row.ensures.err r.keeps

pub returns-in_err-row-clause-err : goal.returns-in_err-row-clause-err
returns-in_err-row-clause-err g c =
    let old = g.S.Store.view c.args.self.now.store in
    on_error c.from_residual.result (λ closed clean opened. let r = c.requires closed in shown old old c.args.self.now.record r r.keeps clean opened)

pub returns-in_err-row-clause-crash : goal.returns-in_err-row-clause-crash
returns-in_err-row-clause-crash g c closed clean opened db left =
    inl (settled_record (g.S.Store.view c.args.self.now.store) c.args.self.now.record (c.requires closed) clean opened db
    (g.met.S.Store.settled c.args.self.now.store db opened left))

pub returns-in-Err-clause-err : goal.returns-in-Err-clause-err
returns-in-Err-clause-err g c closed clean opened =
    let r = c.requires closed in
    shown (g.S.Store.view c.args.self.now.store) (g.S.Store.view c.write_row.new.store) c.args.self.now.record r
    (c.in-Err.ensures.err r.events r.keeps) clean opened

pub returns-in-Err-clause-crash : goal.returns-in-Err-clause-crash
returns-in-Err-clause-crash g c closed clean opened db left =
    let old = g.S.Store.view c.args.self.now.store in
    let r = c.requires closed in
    let early : IsClean old = omega (arith, c.write_row.ensures.clean) in
    outcomes old c.args.self.now.record c.args.event r early opened c.in_ok-row.ensures.ok.0 db
    (g.S.Store.recovers c.args.self.now.store db) (λ past. g.met.S.Store.settled c.args.self.now.store db opened past)
    (c.write_row.ensures.crash clean r.events c.args.event
    (next_row old c.args.self.now.record r _ c.args.event c.in_ok-row.ensures.row) r.keeps db left)

pub returns-clause-kept : goal.returns-clause-kept
returns-clause-kept g c _ =
    let old = g.S.Store.view c.args.self.now.store in
    let r = c.requires c.in_ok-row.ensures.open.0 in
    added old (g.S.Store.view c.write_row.new.store) c.args.self.now.record c.add_event.new.known c.args.event r
    c.in_ok-row.ensures.ok.0 c.in_ok-row.ensures.ok.1
    (c.in_default.ensures.ok r.events c.args.event
    (next_row old c.args.self.now.record r _ c.args.event c.in_ok-row.ensures.row) r.keeps)

pub returns-clause-crash : goal.returns-clause-crash
returns-clause-crash g c closed clean opened db left =
    let old = g.S.Store.view c.args.self.now.store in
    let r = c.requires closed in
    let early : IsClean old = omega (arith, c.write_row.ensures.clean) in
    outcomes old c.args.self.now.record c.args.event r early opened c.in_ok-row.ensures.ok.0 db
    (g.S.Store.recovers c.args.self.now.store db) (λ past. g.met.S.Store.settled c.args.self.now.store db opened past)
    (c.write_row.ensures.crash clean r.events c.args.event
    (next_row old c.args.self.now.record r _ c.args.event c.in_ok-row.ensures.row) r.keeps db left)
