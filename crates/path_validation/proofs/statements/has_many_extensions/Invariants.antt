use Rattle.std.proofs.Common.{◌≡◌, length, nat_lt}
use Rattle.path_validation.specs.Limits.{most_extensions}
use Rattle.path_validation.proofs.statements.has_many_extensions.Given as goal

-- more are left than may be exactly where there are more than may be
abbrev pub invariant-loop-extension : goal.invariant-loop-extension
invariant-loop-extension l = nat_lt l.left (length l._extension-iterator) ≡ nat_lt most_extensions (length l.view.extensions)
