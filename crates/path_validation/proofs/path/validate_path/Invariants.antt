use Rattle.std.proofs.Common.{◌≡◌, drop}
use Rattle.path_validation.specs.Outcomes.{outcome, outcome_from}
use Rattle.path_validation.proofs.path.validate_path.Given as goal

-- from here on the path comes to what it comes to as a whole
abbrev pub invariant-loop-view : goal.invariant-loop-view
invariant-loop-view g l = record {
  follows : outcome_from (g.V.Verifier.accepts l.verifier) l.inputs l.passed l.state (drop l.view-index l.path) ≡ outcome (g.V.Verifier.accepts l.verifier) l.inputs l.path;
  place : l.passed ≡ l.view-index;
}
