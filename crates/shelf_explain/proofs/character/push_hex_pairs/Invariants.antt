use Rattle.std.proofs.Common.{◌≡◌, ◌++◌, take}
use Rattle.std.specs.List.{flat_map}
use Rattle.shelf_explain.specs.Characters.{hex_pair}
use Rattle.shelf_explain.proofs.character.push_hex_pairs.Given as goal

abbrev pub invariant-loop-octet : goal.invariant-loop-octet
invariant-loop-octet l = l.lines.items ≡ l.initial.lines.items ++ flat_map hex_pair (take l.octet-index l.octets)
