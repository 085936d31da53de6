use Rattle.std.proofs.Common.{◌≡◌, drop, map}
use Rattle.rcgen_text.specs.AlternativeNames.{alternative_name}
use Rattle.shelf_params.specs.CommonNames.{part_hosts}
use Rattle.shelf_params.proofs.common_names.part_hosts.Given as goal

-- what the rest comes to is what the whole does
abbrev pub invariant-loop-attribute : goal.invariant-loop-attribute
invariant-loop-attribute l =
    part_hosts (drop l.attribute-index l.attributes) (map alternative_name l.all.items) ≡ part_hosts l.attributes (map alternative_name l.fn.hosts.items)
