use Rattle.std.proofs.Common.{◌≡◌, take}
use Rattle.lint_files.specs.Issuers.{candidates_in}
use Rattle.lint_files.proofs.issuers.candidates_in.Given as goal

abbrev pub invariant-loop-block : goal.invariant-loop-block
invariant-loop-block l = l.found.items ≡ candidates_in (take l.block-index l.blocks)
