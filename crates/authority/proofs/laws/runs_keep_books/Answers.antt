use Rattle.authority.specs.Book.{fixed}
use Rattle.authority.proofs.Runs.{nothing_is_book, run_keeps}
use Rattle.authority.proofs.laws.runs_keep_books.Goals as goal

pub returns-clause-empty : goal.returns-clause-empty
returns-clause-empty g c = nothing_is_book

pub returns-clause-run : goal.returns-clause-run
returns-clause-run g c = λ key issuer limits short old new commands replies book run.
    run_keeps (fixed issuer (g.S.SigningKey.fits key) (g.S.SigningKey.may_refuse key) limits) old new commands replies short book run
