use Rattle.std.proofs.Common.{◌≡◌, true, length}
use Rattle.name_parts.specs.Octets.{is_sound, octets_from}
use Rattle.name_parts.specs.declared.octet.Place.TheVariants.{Outside}
use Rattle.name_parts.proofs.Reading.{behind}
use Rattle.name_parts.proofs.octet.octets_of.Given as goal

-- what is read on from here is the whole
abbrev pub invariant-loop-rest : goal.invariant-loop-rest
invariant-loop-rest l = (behind l.octets.items (octets_from l.place l.rest) ≡ octets_from Outside l.text) × (is_sound l.place ≡ true)

abbrev pub decreases-loop-rest : goal.decreases-loop-rest
decreases-loop-rest l = length l.rest
