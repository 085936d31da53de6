use Rattle.std.proofs.Common.{◌≡◌}
use Rattle.std.specs.List.{list_any}
use Rattle.issuer_check.specs.Judged.{is_unknown_critical}
use Rattle.issuer_check.proofs.judged.has_unknown_critical.Given as goal

-- none of those before is one
abbrev pub invariant-loop-extension : goal.invariant-loop-extension
invariant-loop-extension l = list_any is_unknown_critical l.extension-iterator ≡ list_any is_unknown_critical l.view.extensions
