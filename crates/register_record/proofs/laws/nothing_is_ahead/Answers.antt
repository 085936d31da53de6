use Rattle.register_record.proofs.LawsHold as law
use Rattle.register_record.proofs.laws.nothing_is_ahead.Goals as goal

pub returns : goal.returns
returns c = record { nothing_ahead = law.nothing_ahead }
