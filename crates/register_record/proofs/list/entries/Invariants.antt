use Rattle.std.proofs.Common.{◌≡◌, take}
use Rattle.std.specs.List.{filter_map}
use Rattle.register_record.specs.Lists.{in_list}
use Rattle.register_record.proofs.list.entries.Given as goal

abbrev pub invariant-loop-certificate : goal.invariant-loop-certificate
invariant-loop-certificate l = l.entries.items ≡ filter_map (in_list l.kind l.base) (take l.certificate-index l.certificates)
