use Rattle.register_record.proofs.LawsHold as law
use Rattle.register_record.proofs.laws.lists_have_the_revoked.Goals as goal

pub returns-clause-numbers_rise : goal.returns-clause-numbers_rise
returns-clause-numbers_rise c = law.numbers_rise

pub returns-clause-stays_listed : goal.returns-clause-stays_listed
returns-clause-stays_listed c = law.stays_listed

pub returns-clause-lists_the_revoked : goal.returns-clause-lists_the_revoked
returns-clause-lists_the_revoked c = law.lists_the_revoked

pub returns-clause-revoked_in_delta : goal.returns-clause-revoked_in_delta
returns-clause-revoked_in_delta c = law.revoked_in_delta

pub returns-clause-released_in_delta : goal.returns-clause-released_in_delta
returns-clause-released_in_delta c = law.released_in_delta

pub returns-clause-final_stays_listed : goal.returns-clause-final_stays_listed
returns-clause-final_stays_listed c = law.final_stays_listed

pub returns-clause-lists_once : goal.returns-clause-lists_once
returns-clause-lists_once c = law.lists_once

pub returns-clause-seals_reserved_lists : goal.returns-clause-seals_reserved_lists
returns-clause-seals_reserved_lists c = law.seals_reserved_lists

pub returns-clause-listed_once : goal.returns-clause-listed_once
returns-clause-listed_once c = law.listed_once

pub returns-clause-released_is_off : goal.returns-clause-released_is_off
returns-clause-released_is_off c = law.released_is_off
