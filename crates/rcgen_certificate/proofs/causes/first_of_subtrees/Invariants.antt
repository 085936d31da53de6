use Rattle.std.specs.Prelude.{◌≡◌, length, map, flat_map}
use Rattle.rcgen_certificate.specs.AsciiTexts.{first_not_ascii}
use Rattle.rcgen_certificate.specs.NameConstraints.{base_of, base_texts}
use Rattle.rcgen_certificate.proofs.causes.first_of_subtrees.Given as goal

-- what is left has the same first text
abbrev pub invariant-loop-rest : goal.invariant-loop-rest
invariant-loop-rest l = (first_not_ascii (flat_map base_texts (map base_of l.rest)) ≡ first_not_ascii (flat_map base_texts (map base_of l.subtrees)))

abbrev pub decreases-loop-rest : goal.decreases-loop-rest
decreases-loop-rest l = length l.rest
