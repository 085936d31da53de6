use Rattle.std.proofs.Common.{◌≡◌, drop, map, string_bytes}
use Rattle.shelf_register.specs.Commands.{has_register_option}
use Rattle.shelf_register.proofs.word.has_register_option.Given as goal

abbrev pub invariant-loop-word : goal.invariant-loop-word
invariant-loop-word l = has_register_option (map string_bytes (drop l.word-index l.words)) ≡ has_register_option (map string_bytes l.words)
