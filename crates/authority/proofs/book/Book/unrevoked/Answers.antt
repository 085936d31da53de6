use Rattle.std.proofs.Common.{refl}
use Rattle.authority.proofs.Entries.{unmarked}
use Rattle.authority.proofs.Marks.{none_named}
use Rattle.authority.proofs.book.Book.unrevoked.Goals as goal

pub invariant_of-result : goal.invariant_of-result
invariant_of-result c =
    rw (c.in_ok-vec.ensures.items_if_clones_equal (λ y e. e), c.new.ensures.items) (λ n. unmarked c.args.issued n, none_named, refl)
