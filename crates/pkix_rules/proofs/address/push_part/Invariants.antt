use Rattle.std.proofs.Common.{◌≡◌, ◌++◌, take}
use Rattle.std.specs.List.{filter_map}
use Rattle.pkix_rules.specs.Addresses.{address_in}
use Rattle.pkix_rules.proofs.address.push_part.Given as goal

abbrev pub invariant-loop-attribute : goal.invariant-loop-attribute
invariant-loop-attribute l = (l.names.items ≡ l.fn.names.items ++ filter_map address_in (take l.attribute-index l.attribute-items)) × (l.attribute-items ≡ l.part.0)
