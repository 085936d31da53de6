use Rattle.name_parts.specs.Types.{kind_of, known_types}
use Rattle.name_parts.proofs.types.kind_of.Goals as goal

pub returns : goal.returns
unfolding kind_of known_types
returns c = c.kind_in.ensures
