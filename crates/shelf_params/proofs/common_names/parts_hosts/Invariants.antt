use Rattle.std.proofs.Common.{◌≡◌, drop, map}
use Rattle.rcgen_text.specs.AlternativeNames.{alternative_name}
use Rattle.shelf_params.specs.CommonNames.{parts_hosts}
use Rattle.shelf_params.proofs.common_names.parts_hosts.Given as goal

-- what the rest comes to is what the whole does
abbrev pub invariant-loop-part : goal.invariant-loop-part
invariant-loop-part l =
    parts_hosts (drop l.part-index l.parts) (map alternative_name l.all.items) ≡ parts_hosts l.parts (map alternative_name l.fn.hosts.items)
