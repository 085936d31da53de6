use Rattle.std.proofs.Common.{◌≡◌}
use Rattle.std.specs.List.{list_all}
use Rattle.path_validation.specs.Extensions.{can_be_processed}
use Rattle.path_validation.proofs.statements.are_processable.Given as goal

abbrev pub invariant-loop-extension : goal.invariant-loop-extension
invariant-loop-extension l = list_all can_be_processed l.extension-iterator ≡ list_all can_be_processed l.view.extensions
