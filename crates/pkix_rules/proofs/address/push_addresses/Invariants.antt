use Rattle.std.proofs.Common.{◌≡◌, ◌++◌, take}
use Rattle.std.specs.List.{filter_map, flat_map}
use Rattle.pkix_name.specs.Names.{name_parts}
use Rattle.pkix_rules.specs.Addresses.{address_in}
use Rattle.pkix_rules.proofs.address.push_addresses.Given as goal

abbrev pub invariant-loop-part : goal.invariant-loop-part
invariant-loop-part l = (l.names.items ≡ l.fn.names.items ++ flat_map (λ rdn. filter_map address_in rdn.0) (take l.part-index l.part-items)) × (l.part-items ≡ name_parts l.subject)
