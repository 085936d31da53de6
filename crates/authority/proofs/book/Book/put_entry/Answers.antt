use Rattle.std.specs.Prelude.{◌-◌, []}
use Rattle.std.specs.Int.{w64, from_be_bytes}
use Rattle.std.proofs.Common.{◌≡◌, ◌∙◌, ap, sym, subst, false, true, nat_lt, ◌==◌, ◌||◌}
use Rattle.std.proofs.lemmas.List.{length-set}
use Rattle.std.proofs.lemmas.Nat.{from_be_bytes-to_be_bytes_8}
use Rattle.rcgen_issue.specs.CrlView.{revoked_view}
use Rattle.authority.specs.Marks.{is_revoked}
use Rattle.authority.proofs.Entries.{entry_behind, entry_taken}
use Rattle.authority.proofs.Marks.{known, marked, named_more, views_more}
use Rattle.authority.proofs.book.Book.put_entry.Goals as goal

pub invariant_of-self-2 : goal.invariant_of-self-2
invariant_of-self-2 c =
    let serial = c.args.serial in
    let entry = revoked_view c.args.entry in
    let issued = subst (λ s. (serial == 0 || nat_lt s.issued serial) ≡ false) (sym c.self.view_is) c.requires.known in
    let at = known serial _ issued in
    let new = subst (λ s. is_revoked serial s.entries ≡ false) (sym c.self.view_is) c.requires.unrevoked in
    let octets = c.requires.octets in
    let short = c.ranges.serial.fits in
    rw (c.in_ok-push.ensures.items, views_more, length-set c.self.inside.marks.items (serial - 1) true) (
      marked _ entry _ _ c.self.invariant.0 at.1 (ap (from_be_bytes w64) octets ∙ from_be_bytes-to_be_bytes_8 serial short ∙ sym at.0),
      named_more _ entry serial c.self.invariant.1 octets short new,
      entry_behind _ [] _ entry c.self.invariant.2 (entry_taken _ _ entry serial octets short issued new c.requires.times),
    )
