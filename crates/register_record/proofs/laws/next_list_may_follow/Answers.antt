use Rattle.register_record.proofs.LawsHold as law
use Rattle.register_record.proofs.laws.next_list_may_follow.Goals as goal

pub returns-clause-counts_events : goal.returns-clause-counts_events
returns-clause-counts_events c = law.counts_events

pub returns-clause-next_may_follow : goal.returns-clause-next_may_follow
returns-clause-next_may_follow c = law.next_may_follow

pub returns-clause-listed_now : goal.returns-clause-listed_now
returns-clause-listed_now c = law.listed_now

pub returns-clause-taken_may_follow : goal.returns-clause-taken_may_follow
returns-clause-taken_may_follow c = law.taken_may_follow
