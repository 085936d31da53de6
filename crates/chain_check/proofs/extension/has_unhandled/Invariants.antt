use Rattle.std.proofs.Common.{◌≡◌}
use Rattle.std.specs.List.{list_any}
use Rattle.chain_check.specs.ViewChecks.{unhandled}
use Rattle.chain_check.proofs.extension.has_unhandled.Given as goal

abbrev pub invariant-loop-extension : goal.invariant-loop-extension
invariant-loop-extension l = list_any unhandled l.extension-iterator ≡ list_any unhandled l.view.extensions
