use Rattle.std.proofs.Common.{◌≡◌, map}
use Rattle.path_policies.specs.Levels.{mapped_node}
use Rattle.path_policies.proofs.mapping.mapped.Given as goal

abbrev pub invariant-loop-node : goal.invariant-loop-node
invariant-loop-node l = l.nodes.items ≡ map (mapped_node l.mappings) l.yielded
