use Rattle.shelf_core.proofs.ReadAlone.{read_alone}
use Rattle.shelf_core.proofs.answer.block_text.Goals as goal

pub returns-clause-read_back : goal.returns-clause-read_back
returns-clause-read_back c = read_alone _ _ c.written_is_read.ensures c.requires c.are_octets.ensures
