use Rattle.ecdsa.proofs.Inverses.{inverse_of_unit, inverse_is, inverse_is_none}
use Rattle.ecdsa.proofs.inverses_are_unique.Goals as goal

pub returns-clause-inverse : goal.returns-clause-inverse
returns-clause-inverse c = inverse_of_unit

pub returns-clause-only : goal.returns-clause-only
returns-clause-only c = inverse_is

pub returns-clause-none : goal.returns-clause-none
returns-clause-none c = inverse_is_none
