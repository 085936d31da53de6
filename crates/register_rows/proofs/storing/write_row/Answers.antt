use Rattle.std.proofs.Common.{sym, ◌∙◌, arith}
use Rattle.sqlite_trees.specs.View.{IsClean}
use Rattle.register_rows.proofs.Keeping.{unbroken, put_in, committed, outcome}
use Rattle.register_rows.proofs.storing.write_row.Goals as goal

pub put-requires-clause-table : goal.put-requires-clause-table
put-requires-clause-table g c clean =
    c.requires.table clean (unbroken _ _ (g.met.S.Store.broken_if_shut c.args.store.now) (sym (c.is_broken.ensures clean) ∙ c.if-is_broken.false))

pub returns-in_err-commit-clause-crash : goal.returns-in_err-commit-clause-crash
returns-in_err-commit-clause-crash g c clean es e is keeps db left =
    let old = g.S.Store.view c.args.store.now in
    let mid = g.S.Store.view c.put.new.self in
    let late : IsClean mid = omega (arith, c.commit.ensures.clean) in
    let early : IsClean old = omega (arith, c.put.ensures.quiet.clean) in
    let opened = unbroken _ _ (g.met.S.Store.broken_if_shut c.args.store.now) (sym (c.is_broken.ensures early) ∙ c.if-is_broken.false) in
    outcome mid _ _ _ db (put_in old mid es e _ is (keeps early opened) (c.in_default.ensures.ok late)) (c.put.ensures.quiet.outcomes db) (c.commit.ensures.crash db left)

pub returns-clause-crash : goal.returns-clause-crash
returns-clause-crash g c clean es e is keeps db left =
    let old = g.S.Store.view c.args.store.now in
    let mid = g.S.Store.view c.put.new.self in
    let late : IsClean mid = omega (arith, c.commit.ensures.clean) in
    let early : IsClean old = omega (arith, c.put.ensures.quiet.clean) in
    let opened = unbroken _ _ (g.met.S.Store.broken_if_shut c.args.store.now) (sym (c.is_broken.ensures early) ∙ c.if-is_broken.false) in
    outcome mid _ _ _ db (put_in old mid es e _ is (keeps early opened) (c.in_default.ensures.ok late)) (c.put.ensures.quiet.outcomes db) (c.commit.ensures.crash db left)

pub returns-clause-ok : goal.returns-clause-ok
returns-clause-ok g c es e is keeps clean shows =
    let old = g.S.Store.view c.args.store.now in
    let mid = g.S.Store.view c.put.new.self in
    let late : IsClean mid = omega (arith, c.commit.ensures.clean) in
    let early : IsClean old = omega (arith, c.put.ensures.quiet.clean) in
    let opened = unbroken _ _ (g.met.S.Store.broken_if_shut c.args.store.now) (sym (c.is_broken.ensures early) ∙ c.if-is_broken.false) in
    committed old mid (g.S.Store.view c.commit.new.self) es e _ is (keeps early opened) (c.in_default.ensures.ok late) (c.in_ok-commit.ensures.ok clean)
