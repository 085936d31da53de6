use Rattle.std.proofs.Common.{◌≡◌, map}
use Rattle.std.specs.Vec.Iter.{into_iter_items}
use Rattle.rcgen_text.specs.AlternativeNames.{alternative_name}
use Rattle.shelf_params.specs.CommonNames.{with_hosts}
use Rattle.shelf_params.proofs.common_names.with_hosts.Given as goal

-- what the rest comes to is what the whole does
abbrev pub invariant-loop-host : goal.invariant-loop-host
invariant-loop-host l =
    with_hosts (map alternative_name l.all.items) (map alternative_name (into_iter_items l.host-iterator))
    ≡ with_hosts (map alternative_name l.fn.names.items) (map alternative_name l.fn.hosts.items)
