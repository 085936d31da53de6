use Rattle.std.proofs.Common.{◌≡◌, drop}
use Rattle.toml.specs.View.{items_view}
use Rattle.toml_format.specs.ValueReading.{read_items}
use Rattle.toml_format.specs.Lists.{with_more}
use Rattle.toml_format.proofs.list.read_items.Given as goal

-- what is read on from here is the whole
abbrev pub invariant-loop-value : goal.invariant-loop-value
invariant-loop-value g l =
    with_more l.list (read_items g.T.FromValue.format.read (items_view (drop l.value-index l.values)))
    ≡ read_items g.T.FromValue.format.read (items_view l.values)
