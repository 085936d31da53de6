use Rattle.std.proofs.Common.{◌≡◌, ◌++◌, drop}
use Rattle.lint_files.specs.Findings.{findings_in, located_from}
use Rattle.lint_files.specs.Held.{issuer_by}
use Rattle.lint_files.proofs.finding.findings_in.Given as goal

-- what was found, and what is found from here on
abbrev pub invariant-loop-block : goal.invariant-loop-block
invariant-loop-block l =
    (l.found.items ++ located_from (issuer_by l.issuers) l.number (drop l.block-index l.blocks) ≡ findings_in l.blocks) × (l.number ≡ l.block-index)
