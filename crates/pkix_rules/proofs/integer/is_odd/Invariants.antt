use Rattle.std.proofs.Common.{◌≡◌, drop}
use Rattle.pkix_rules.specs.Integers.{ends_odd, is_odd}
use Rattle.pkix_rules.proofs.integer.is_odd.Given as goal

-- what is left, read on from here, is the whole
abbrev pub invariant-loop-octet : goal.invariant-loop-octet
invariant-loop-octet l = ends_odd l.odd (drop l.octet-index l.octet-items) ≡ is_odd l.number
