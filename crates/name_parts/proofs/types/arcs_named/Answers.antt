use Rattle.name_parts.specs.Types.{arcs_named, known_types}
use Rattle.name_parts.proofs.types.arcs_named.Goals as goal

pub returns : goal.returns
unfolding arcs_named known_types
returns c = c.arcs_in.ensures
