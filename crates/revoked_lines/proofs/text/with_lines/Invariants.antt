use Rattle.std.proofs.Common.{◌+◌, length}
use Rattle.std.specs.Str.Lines.{lines}
use Rattle.revoked_lines.specs.Lines.{with_lines}
use Rattle.revoked_lines.proofs.Lines.{ReadsOn}
use Rattle.revoked_lines.proofs.text.with_lines.Given as goal

abbrev pub invariant-loop-line : goal.invariant-loop-line
invariant-loop-line l = ReadsOn l.is_delta l.line-iterator l.number (length l.text + 1) l.found.items (with_lines l.is_delta 0 l.fn.found.items (lines l.text))
