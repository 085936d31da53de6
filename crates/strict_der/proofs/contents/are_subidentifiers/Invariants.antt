use Rattle.std.proofs.Common.{◌≡◌, true, drop}
use Rattle.strict_der.specs.Contents.{are_subidentifiers}
use Rattle.strict_der.proofs.contents.are_subidentifiers.Given as goal

abbrev pub invariant-loop-octet : goal.invariant-loop-octet
invariant-loop-octet l = are_subidentifiers l.begins (drop l.octet-index l.octets) ≡ are_subidentifiers true l.octets
