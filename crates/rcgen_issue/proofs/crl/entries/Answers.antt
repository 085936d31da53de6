use Rattle.std.proofs.Common.{sym, ◌∙◌}
use Rattle.der_tree.proofs.HasTreeLaws.{all_have_more}
use Rattle.pkix_cert.specs.Revocations.{revoked_certificate}
use Rattle.rcgen_issue.specs.CrlView.{revoked_view}
use Rattle.rcgen_issue.specs.Entries.{IsEntry}
use Rattle.rcgen_issue.specs.Lists.{has_entry_times}
use Rattle.rcgen_issue.proofs.Lists.{entries_seen}
use Rattle.rcgen_issue.proofs.Loops.{zip_more}
use Rattle.rcgen_certificate.proofs.NameTrees.{item_passes}
use Rattle.rcgen_issue.proofs.crl.entries.Goals as goal

pub entry-requires : goal.entry-requires
entry-requires c =
    item_passes (λ e. has_entry_times (revoked_view e)) c.args.revoked.now c.loop-params.params-index c.params-item.result
    c.loop-params-test.true c.params-item.is (sym (entries_seen c.args.revoked.now) ∙ c.requires)

pub loop-params-preserved : goal.loop-params-preserved
loop-params-preserved c = record {
  values = zip_more revoked_view IsEntry c.args.revoked.now c.loop-params.params-index c.params-item.result c.loop-params.list c.push.new.self
      c.in_ok-entry.field-0 c.loop-params-test.true c.params-item.is c.loop-params.invariant.values c.in_ok-entry.ensures.value
      c.in_ok-push.ensures.ok;
  formed = all_have_more revoked_certificate c.loop-params.list c.push.new.self c.in_ok-entry.field-0 c.loop-params.invariant.formed
      c.in_ok-entry.ensures.formed c.in_ok-push.ensures.ok;
}
