use Rattle.std.proofs.Common.{◌≡◌, ◌^◌, ◌-◌, min, take}
use Rattle.std.specs.List.{sum_by}
use Rattle.path_names.specs.Sizes.{attribute_size}
use Rattle.path_names.proofs.size.attributes_size.Given as goal

abbrev pub invariant-loop-attribute : goal.invariant-loop-attribute
invariant-loop-attribute l = l.size ≡ min (sum_by attribute_size (take l.attribute-index l.attributes)) (2 ^ 64 - 1)
