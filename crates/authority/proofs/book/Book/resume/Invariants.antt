use Rattle.std.specs.Prelude.{◌≡◌, map}
use Rattle.rcgen_issue.specs.CrlView.{revoked_view}
use Rattle.authority.proofs.book.Book.resume.Given as goal

-- the entries so far, one after another
abbrev pub invariant-loop-entry : goal.invariant-loop-entry
invariant-loop-entry l =
    l.book ≡ record { issued = l.fn.register.issued; lists = l.fn.register.lists; entries = map revoked_view l.yielded }
