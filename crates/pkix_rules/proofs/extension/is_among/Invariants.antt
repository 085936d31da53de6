use Rattle.std.proofs.Common.{◌≡◌, drop}
use Rattle.pkix_rules.specs.Extensions.{ids_in, is_among}
use Rattle.pkix_rules.proofs.extension.is_among.Given as goal

abbrev pub invariant-loop-other : goal.invariant-loop-other
invariant-loop-other l = is_among l.id (ids_in (drop l.other-index l.ids)) ≡ is_among l.id (ids_in l.ids)
