use Rattle.std.proofs.Common.{◌-◌, List, [], ◌∷◌, map, ap, refl, ◌∙◌}
use Rattle.std.specs.Prelude.{not}
use Rattle.std.proofs.lemmas.List.{map-append}
use Rattle.rcgen_issue.specs.CrlView.{RevokedView, revoked_view}
use Rattle.certify_core.proofs.BulkEntries.{one_more, so_far}
use Rattle.certify_core.proofs.bulk.entries.Goals as goal

pub loop-left-preserved : goal.loop-left-preserved
loop-left-preserved c =
    let l = c.loop-left in
    let entry = c.in_ok-entry.field-0 in
    let next = c.next_serial-serial.result in
    let views = ap (map revoked_view) c.in_ok-push.ensures.items ∙ map-append revoked_view l.entries.items (entry ∷ []) in
    ap (λ (entries : List RevokedView). so_far entries next (not l.has_reason) (l.left - 1)) views
    ∙ one_more (map revoked_view l.entries.items) (revoked_view entry) l.serial next l.has_reason l.left (l.left - 1) c.loop-left-test.true
    c.next_serial-serial.ensures c.in_ok-entry.ensures.entry refl
    ∙ l.invariant
