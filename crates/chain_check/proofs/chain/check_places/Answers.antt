use Rattle.std.proofs.Common.{None, ap, drop, take, ◌+◌, ◌-◌, length, ℕ}
use Rattle.chain_check.specs.ViewChecks.{walk}
use Rattle.chain_check.proofs.Walks.{next_fits, none_of, walk_more}
use Rattle.chain_check.proofs.chain.check_places.Goals as goal

pub loop-issuer-preserved : goal.loop-issuer-preserved
loop-issuer-preserved g c =
    let l = c.loop-issuer in
    let accepts = g.V.Verifier.accepts c.args.verifier.now in
    let at = c.args.at in
    let views = c.args.views.now in
    let issuers = take (length views - 1) (drop 1 views) in
    let reason = c.in_ok-reason.field-0 in
    let next = c.others_after-others.result in (
      walk_more accepts at l.place l.others next reason l.view.now c.issuer-item.result issuers l.issuer-index
          (walk accepts at 0 None views) c.loop-issuer-test.true
          c.issuer-item.is l.invariant.0 c.in_ok-reason.ensures (none_of reason c.in_default-2.not-Some) c.others_after-others.ensures,
      ap (λ (n : ℕ). n + 1) l.invariant.1,
      next_fits l.others next l.view.now l.place c.others_after-others.ensures l.invariant.2,
    )
