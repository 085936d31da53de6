use Rattle.std.proofs.Common.{◌≡◌, take}
use Rattle.std.specs.List.{concat}
use Rattle.certify_profile.proofs.hex_input.joined.Given as goal

abbrev pub invariant-loop-input : goal.invariant-loop-input
invariant-loop-input l = l.bytes.items ≡ concat (take l.input-index l.inputs)
