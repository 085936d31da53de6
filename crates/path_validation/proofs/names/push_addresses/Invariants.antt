use Rattle.std.proofs.Common.{◌≡◌, ◌++◌, take}
use Rattle.std.specs.List.{filter_map, flat_map}
use Rattle.path_names.specs.NameMatching.{rdns_of}
use Rattle.path_validation.specs.Names.{address_in}
use Rattle.path_validation.proofs.names.push_addresses.Given as goal

abbrev pub invariant-loop-part : goal.invariant-loop-part
invariant-loop-part l = (l.names.items ≡ l.fn.names.items ++ flat_map (λ rdn. filter_map address_in rdn.0) (take l.part-index l.part-items)) × (l.part-items ≡ rdns_of l.subject)
