use Rattle.std.proofs.Common.{◌≡◌, drop}
use Rattle.path_names.specs.NameMatching.{are_decided}
use Rattle.path_names.proofs.name.are_decided.Given as goal

-- so far they have matched
abbrev pub invariant-loop-rdn : goal.invariant-loop-rdn
invariant-loop-rdn l = are_decided (drop l.rdn-index l.rdns) l.rest ≡ are_decided l.rdns l.base
