-- One thing comes of a path at an instant.
use Rattle.std.proofs.Common.{◌≡◌, sym, ◌∙◌, subst}
use Rattle.jiff.proofs.Family.{same_datetime}
use Rattle.jiff.specs.Types.{DateTime}
use Rattle.chain_check.specs.Outcomes.{IsOutcome}
use Rattle.chain_check.proofs.Coming.{one_outcome_is}
use Rattle.certify_core.specs.Check.{Checked, IsChecked, asked_at}
use Rattle.certify_profile.specs.declared.check.CheckProfile.{CheckProfile}

pub one_checked : (p : CheckProfile) (x y : Checked) → IsChecked p x → IsChecked p y → x.outcome ≡ y.outcome
one_checked p x y a b =
    let at = same_datetime x.at y.at (a.time ∙ sym b.time) in
    one_outcome_is (asked_at p y.at) x.outcome y.outcome (subst (λ (t : DateTime). IsOutcome (asked_at p t) x.outcome) at a.comes) b.comes
