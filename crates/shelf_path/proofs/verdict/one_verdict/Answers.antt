use Rattle.std.proofs.Common.{subst, sym, ◌∙◌}
use Rattle.shelf_path.specs.Asked.{Asked}
use Rattle.shelf_path.specs.Verdicts.{IsVerdict}
use Rattle.shelf_path.proofs.Judging.{one, same_asked}
use Rattle.shelf_path.proofs.verdict.one_verdict.Goals as goal

pub returns : goal.returns
returns c found v w (a, is, x) (b, same, y) = one a v w x (subst (λ (t : Asked). IsVerdict t w) (same_asked b a (sym same ∙ is)) y)
