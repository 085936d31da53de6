use Rattle.std.specs.Prelude.{map}
use Rattle.std.proofs.Common.{ap}
use Rattle.rcgen_issue.specs.CrlView.{revoked_view}
use Rattle.authority.specs.Book.{State}
use Rattle.authority.proofs.Entries.{refused_behind, taken_from}
use Rattle.authority.proofs.book.Book.resume.Goals as goal

pub returns-in_err-take_entry-clause-why : goal.returns-in_err-take_entry-clause-why
returns-in_err-take_entry-clause-why c =
    let front = taken_from c.args.register.revoked.items c.loop-entry.yielded c.into_iter-entry-iterator.result c.loop-entry.entry-iterator
    c.next.new.self c.in-Some.entry c.into_iter-entry-iterator.ensures.into_iter_gives.0 c.loop-entry.yielded_by c.in-Some.ensures.steps in
    refused_behind c.from_residual-in_err-take_entry.result c.in_err-take_entry.field-0.0 c.loop-entry.book c.args.register.issued
    (map revoked_view c.loop-entry.yielded) _ _ (revoked_view c.in-Some.entry) c.from_residual-in_err-take_entry.ensures.1 front
    (ap (λ (s : State). s.issued) c.loop-entry.invariant) (ap (λ (s : State). s.entries) c.loop-entry.invariant)
    c.in_err-take_entry.ensures.before c.in_err-take_entry.ensures.why
