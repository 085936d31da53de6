use Rattle.std.proofs.Common.{sym, ◌∙◌}
use Rattle.rcgen_certificate.proofs.NameTrees.{item_passes}
use Rattle.rcgen_issue.specs.CrlView.{revoked_view}
use Rattle.rcgen_issue.specs.Lists.{has_entry_times}
use Rattle.rcgen_issue.proofs.Lists.{entries_seen}
use Rattle.rcgen_tbs.proofs.Frames.{no_entries, one_entry}
use Rattle.rcgen_tbs.proofs.list.entry_trees.Goals as goal

pub entry-requires : goal.entry-requires
entry-requires c =
    item_passes (λ e. has_entry_times (revoked_view e)) c.args.revoked.now c.loop-params.params-index c.params-item.result
    c.loop-params-test.true c.params-item.is (sym (entries_seen c.args.revoked.now) ∙ c.requires)

pub loop-params-init : goal.loop-params-init
loop-params-init c = no_entries _ c.new-trees.ensures

pub loop-params-preserved : goal.loop-params-preserved
loop-params-preserved c =
    one_entry c.args.revoked.now c.loop-params.params-index c.params-item.result c.loop-params.trees c.push.new.self c.in_ok-entry.entry
    c.from_vec-bytes.result c.loop-params-test.true c.params-item.is c.loop-params.invariant c.in_ok-entry.ensures.value
    (rw c.from_vec-bytes.ensures c.in_ok-octets.ensures.form) c.in_ok-push.ensures.ok
