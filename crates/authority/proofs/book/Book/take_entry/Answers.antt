use Rattle.std.specs.Prelude.{◌≡◌, false, nat_lt, ◌==◌, ◌||◌}
use Rattle.std.proofs.Common.{sym, subst, ◌∙◌}
use Rattle.rcgen_issue.specs.CrlView.{revoked_view}
use Rattle.authority.specs.Marks.{is_numbered, is_revoked, serial_of}
use Rattle.authority.proofs.Entries.{entry_untimely, read_serial}
use Rattle.authority.proofs.book.Book.take_entry.Goals as goal

pub returns-then-not-has_times-clause-why : goal.returns-then-not-has_times-clause-why
returns-then-not-has_times-clause-why c =
    let state = c.args.self.now in
    let entry = revoked_view c.args.entry in
    let read = read_serial (is_numbered entry) (serial_of entry) c.in-Some.serial (sym c.in-Some.ensures) in
    entry_untimely state.issued state.entries entry read.0
    (subst (λ s. (s == 0 || nat_lt state.issued s) ≡ false) (sym read.1) (sym c.is_unknown.ensures ∙ c.if-is_unknown.false))
    (subst (λ s. is_revoked s state.entries ≡ false) (sym read.1) (sym c.is_revoked.ensures ∙ c.if-is_revoked.false))
    (sym c.has_times.ensures ∙ c.if-not-has_times.true)
