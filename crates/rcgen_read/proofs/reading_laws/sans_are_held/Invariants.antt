use Rattle.std.specs.Prelude.{◌≡◌, true, take, map}
use Rattle.std.specs.List.{list_all}
use Rattle.rcgen_text.specs.AlternativeNames.{alternative_name}
use Rattle.rcgen_read.specs.NamesReadBack.{is_held_name}
use Rattle.rcgen_read.proofs.reading_laws.sans_are_held.Given as goal

abbrev pub invariant-loop-name : goal.invariant-loop-name
invariant-loop-name l = list_all is_held_name (map alternative_name (take l.name-index l.names)) ≡ true
