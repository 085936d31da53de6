use Rattle.std.proofs.Common.{◌≡◌, drop, map, string_bytes}
use Rattle.shelf_command.specs.CommandLines.{line_of, no_line}
use Rattle.shelf_command.proofs.command_line.line_of.Given as goal

-- what is left, from here on, is the whole
abbrev pub invariant-loop-word : goal.invariant-loop-word
invariant-loop-word l = line_of l.line (map string_bytes (drop l.word-index l.words)) ≡ line_of no_line (map string_bytes l.words)
