use Rattle.std.proofs.Common.{◌≡◌, ◌++◌, take}
use Rattle.std.specs.List.{flat_map}
use Rattle.asn1_core.specs.Base128.{base128}
use Rattle.asn1_core.proofs.object_identifier.push_subidentifiers.Given as goal

abbrev pub invariant-loop-arc : goal.invariant-loop-arc
invariant-loop-arc l = l.contents.items ≡ l.initial.contents.items ++ flat_map base128 (take l.arc-index l.arcs)
