use Rattle.register_record.proofs.LawsHold as law
use Rattle.register_record.proofs.laws.serial_numbers_are_used_once.Goals as goal

pub returns-clause-reserves_once : goal.returns-clause-reserves_once
returns-clause-reserves_once c = law.reserves_once

pub returns-clause-seals_once : goal.returns-clause-seals_once
returns-clause-seals_once c = law.seals_once

pub returns-clause-issues_what_was_reserved : goal.returns-clause-issues_what_was_reserved
returns-clause-issues_what_was_reserved c = law.issues_what_was_reserved

pub returns-clause-keeps_octets : goal.returns-clause-keeps_octets
returns-clause-keeps_octets c = law.keeps_octets

pub returns-clause-are_serials : goal.returns-clause-are_serials
returns-clause-are_serials c = law.are_serials
