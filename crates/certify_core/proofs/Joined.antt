-- Texts that are pushed one after another.
use Rattle.std.proofs.lemmas.List.{take_more, take_all, flat_map_more}

pub ruleset pushing = (take_more, take_all, flat_map_more)
