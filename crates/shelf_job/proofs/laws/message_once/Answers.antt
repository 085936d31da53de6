use Rattle.shelf_job.proofs.Once.{one_message}
use Rattle.shelf_job.proofs.laws.message_once.Goals as goal

pub returns : goal.returns
returns c = let m = c.one_message.ensures in one_message c.one_message_as.ensures c.one_list_message.ensures c.request_info_once.ensures m.attribute
