use Rattle.std.proofs.Common.{◌≡◌, drop, true}
use Rattle.host_name.specs.Hosts.{ends_in_number}
use Rattle.name_rules.proofs.host.ends_in_number.Given as goal

-- what is left, read on from here, is the whole
abbrev pub invariant-loop-octet : goal.invariant-loop-octet
invariant-loop-octet l = ends_in_number l.digits (drop l.octet-index l.text) ≡ ends_in_number true l.text
