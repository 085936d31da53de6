use Rattle.std.proofs.Common.{arith}
use Rattle.authority.proofs.book.Book.is_book.Goals as goal

pub returns : goal.returns
returns c = rw (← c.self.view_is) (record { counted = omega arith; entries = c.self.invariant.1; no_cause = c.self.invariant.2 })
