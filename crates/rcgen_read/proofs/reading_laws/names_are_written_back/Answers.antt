use Rattle.rcgen_read.proofs.NamesReadBack.{entries_written, names_written}
use Rattle.rcgen_read.proofs.reading_laws.names_are_written_back.Goals as goal

pub returns-clause-name : goal.returns-clause-name
returns-clause-name c = λ n es h distinct. names_written n es h distinct

pub returns-clause-attributes : goal.returns-clause-attributes
returns-clause-attributes c = λ n es h. entries_written n es h
