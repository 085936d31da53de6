-- Names that a table has.
use Rattle.std.proofs.lemmas.Option.{slice_get-map}

pub ruleset naming = (slice_get-map)
