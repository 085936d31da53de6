use Rattle.std.proofs.Common.{◌≡◌, take}
use Rattle.lint_files.specs.Firsts.{first_at}
use Rattle.lint_files.specs.declared.index_key.IndexKey.{IndexKey}
use Rattle.lint_files.proofs.FirstUnder.{first_under}
use Rattle.lint_files.proofs.issuers.indexed.Given as goal

-- the map has the first certificate under each key so far
abbrev pub invariant-loop-candidate : goal.invariant-loop-candidate
invariant-loop-candidate l = (q : IndexKey) → first_at l.firsts q ≡ first_under q (take l.candidate-index l.candidates)
