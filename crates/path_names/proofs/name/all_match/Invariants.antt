use Rattle.std.proofs.Common.{◌≡◌, drop}
use Rattle.std.specs.Cmp.Lexicographic.{pointwise}
use Rattle.path_names.specs.NameMatching.{rdns_match}
use Rattle.path_names.proofs.name.all_match.Given as goal

-- so far they have matched
abbrev pub invariant-loop-rdn : goal.invariant-loop-rdn
invariant-loop-rdn l = pointwise rdns_match (drop l.rdn-index l.rdns) l.rest ≡ pointwise rdns_match l.rdns l.others
