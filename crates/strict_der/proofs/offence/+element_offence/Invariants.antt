use Rattle.std.proofs.Common.{◌≡◌, ◌+◌, ◌-◌, length}
use Rattle.der_tree.specs.Element.{element_octets}
use Rattle.der_tree.specs.Windows.{shown}
use Rattle.strict_der.specs.Offences.{element_offence}
use Rattle.strict_der.proofs.Offences.{inner, offence_in}
use Rattle.strict_der.proofs.offence.+element_offence.Given as goal

abbrev pub decreases-element_offence : goal.decreases-element_offence
decreases-element_offence l = l.levels

-- what is left, from here on, is the whole
abbrev pub invariant-loop-left : goal.invariant-loop-left
invariant-loop-left l =
    (offence_in (element_offence (l.levels - 1)) l.place l.left ≡ inner l.levels l.at (shown l.window))
    × (l.place + length l.left ≡ l.at + length (element_octets (shown l.window)))

abbrev pub decreases-loop-left : goal.decreases-loop-left
decreases-loop-left l = length l.left
