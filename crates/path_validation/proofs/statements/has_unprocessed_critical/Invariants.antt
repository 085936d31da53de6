use Rattle.std.proofs.Common.{◌≡◌}
use Rattle.std.specs.List.{list_any}
use Rattle.path_validation.specs.Extensions.{is_unprocessed_critical}
use Rattle.path_validation.proofs.statements.has_unprocessed_critical.Given as goal

abbrev pub invariant-loop-extension : goal.invariant-loop-extension
invariant-loop-extension l = list_any is_unprocessed_critical l.extension-iterator ≡ list_any is_unprocessed_critical l.view.extensions
