use Rattle.std.specs.Prelude.{◌≡◌, [], drop, map}
use Rattle.rcgen_text.specs.AlternativeNames.{alternative_name}
use Rattle.rcgen_read.specs.AlternativeNameReading.{read_general_name}
use Rattle.rcgen_read.specs.Reading.{read_each}
use Rattle.rcgen_read.proofs.alternative_name.each_name.Given as goal

-- what is left, read on from here, is what the whole gives
abbrev pub invariant-loop-name : goal.invariant-loop-name
invariant-loop-name l = read_each read_general_name (map alternative_name l.read.items) (drop l.name-index l.names) ≡ read_each read_general_name [] l.names
