use Rattle.authority.proofs.Told.{memory_told}
use Rattle.authority.proofs.book.Book.add_entry.Goals as goal

pub returns-in_err-serial_number-clause-memory : goal.returns-in_err-serial_number-clause-memory
returns-in_err-serial_number-clause-memory c = memory_told c.in_err-serial_number.field-0.0 c.from_residual.result c.in_err-serial_number.ensures.memory c.from_residual.ensures.1
