-- What is answered to a request.
use Rattle.std.specs.Prelude.{ℕ, List}
use Rattle.command_run.specs.declared.status.Ending.{Ending}
use Rattle.shelf_core.specs.Outcome.{Comes, IsAnswer}
use Rattle.shelf_command.specs.RequestViews.{RequestView}

abbrev pub answers : RequestView → List (List ℕ) → Ending → List ℕ → List ℕ → Type 0
answers r inputs = IsAnswer (Comes r.action r.is_strict r.is_der r.has_revoked inputs)
