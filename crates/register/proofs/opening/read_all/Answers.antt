use Rattle.std.proofs.Common.{◌≡◌, ◌∙◌, true, false, sym, arith, rules}
use Rattle.sqlite_trees.specs.View.{IsClean, Advances}
use Rattle.sqlite_rules.proofs.ViewLemmas.{still_quiet}
use Rattle.register.proofs.Registers.{passed}
use Rattle.register.proofs.Reopened.{begun, read_on, read_out, stops}
use Rattle.register.proofs.opening.read_all.Goals as goal

pub rows-init : goal.rows-init
rows-init g c = record {
  live = c.in_ok-seek.ensures.live;
  quiet = c.seek.ensures.quiet;
  reads = begun (g.S.Store.view c.args.store.now) (g.S.Store.view c.seek.new.self) _ c.new-row.result c.new-record.result c.new-record.ensures c.new-row.ensures
      (sym c.shape.ensures ∙ c.in-Table.is) c.in_ok-seek.ensures.ok;
}

pub rows-preserved : goal.rows-preserved
rows-preserved g c =
    let old = g.S.Store.view c.rows.store in
    let new = g.S.Store.view c.next.new.self in
    let inv = c.rows.invariant in
    let back : IsClean new → IsClean old = λ clean. omega (arith, clean, c.next.ensures.quiet.clean) in
    let yes : c.in_ok-next.field-0 ≡ true = search rules in
    record {
      live = c.in_ok-next.ensures.stay 0 inv.live;
      quiet = still_quiet inv.quiet c.next.ensures.quiet;
      reads = read_on (g.S.Store.view c.args.store.now) old new c.rows.before c.rows.record c.push_row.new.known c.next.new.row inv.reads c.in_ok-push_row.ensures.ok back
          (λ clean. rw yes at (c.in_ok-next.ensures.ok clean));
    }

pub returns-then-not-branch-clause-found : goal.returns-then-not-branch-clause-found
returns-then-not-branch-clause-found g c =
    let old = g.S.Store.view c.rows.store in
    let new = g.S.Store.view c.next.new.self in
    let inv = c.rows.invariant in
    let no : c.in_ok-next.field-0 ≡ false = search rules in
    read_out (g.S.Store.view c.args.store.now) old new c.rows.before c.rows.record c.next.new.row inv.reads
    (λ clean. omega (arith, clean, c.next.ensures.quiet.clean)) (λ clean. rw no at (c.in_ok-next.ensures.ok clean))

pub returns-in_err-push_row-clause-why : goal.returns-in_err-push_row-clause-why
returns-in_err-push_row-clause-why g c =
    let old = g.S.Store.view c.rows.store in
    let new = g.S.Store.view c.next.new.self in
    let inv = c.rows.invariant in
    let yes : c.in_ok-next.field-0 ≡ true = search rules in
    passed c.from_residual-in_err-push_row.result c.in_err-push_row.field-0.0 _ c.from_residual-in_err-push_row.ensures.1
    (stops (g.S.Store.view c.args.store.now) old new c.rows.before c.rows.record c.next.new.row c.in_err-push_row.field-0.0 inv.reads
    c.in_err-push_row.ensures.why (λ clean. omega (arith, clean, c.next.ensures.quiet.clean)) (λ clean. rw yes at (c.in_ok-next.ensures.ok clean)))
