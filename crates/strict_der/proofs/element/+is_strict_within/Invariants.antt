use Rattle.std.proofs.Common.{◌≡◌, ◌-◌, length}
use Rattle.std.specs.List.{list_all}
use Rattle.der_tree.specs.Windows.{shown}
use Rattle.strict_der.specs.Strict.{is_strict_within, within}
use Rattle.strict_der.proofs.element.+is_strict_within.Given as goal

abbrev pub decreases-is_strict_within : goal.decreases-is_strict_within
decreases-is_strict_within l = l.levels

abbrev pub invariant-loop-element : goal.invariant-loop-element
invariant-loop-element l = list_all (is_strict_within (l.levels - 1)) l.left ≡ list_all (is_strict_within (l.levels - 1)) (within (shown l.window))

abbrev pub decreases-loop-element : goal.decreases-loop-element
decreases-loop-element l = length l.left
