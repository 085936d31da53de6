use Rattle.std.proofs.Common.{◌∙◌}
use Rattle.std.specs.Prelude.{map}
use Rattle.rcgen_issue.specs.CrlView.{revoked_view}
use Rattle.authority.proofs.Entries.{none_behind, one_issued}
use Rattle.authority.proofs.book.Book.add_certificate.Goals as goal

pub invariant_of-self-2 : goal.invariant_of-self-2
invariant_of-self-2 c =
    rw c.in_ok-push.ensures.items (
      λ n. none_behind c.self.inside.marks.items n ∙ c.self.invariant.0 n,
      c.self.invariant.1,
      one_issued c.self.inside.marks.items (map revoked_view c.self.inside.entries.items) c.self.invariant.2,
    )
