use Rattle.register_driver.proofs.performing.append.Goals as goal

pub returns-in_err-append-clause-crash : goal.returns-in_err-append-clause-crash
returns-in_err-append-clause-crash g c = rw c.in-Some.is c.append.ensures.crash

pub returns-clause-crash : goal.returns-clause-crash
returns-clause-crash g c = rw c.in-Some.is c.append.ensures.crash
