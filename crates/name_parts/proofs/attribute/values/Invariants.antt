use Rattle.std.proofs.Common.{◌≡◌, ◌++◌, drop, map}
use Rattle.name_parts.specs.declared.octet.Octet.{Octet}
use Rattle.name_parts.proofs.attribute.values.Given as goal

-- what was taken, and what is to come
abbrev pub invariant-loop-octet : goal.invariant-loop-octet
invariant-loop-octet l =
    l.values.items ++ map (λ (o : Octet). o.value) (drop l.octet-index l.octets) ≡ map (λ (o : Octet). o.value) l.octets
