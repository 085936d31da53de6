use Rattle.std.proofs.Common.{[], ◌≡◌, ◌+◌, drop, take}
use Rattle.shelf_path.specs.Revocations.{first_bad_from}
use Rattle.shelf_path.proofs.revocation.first_bad_from.Given as goal

-- the first of what is left is the first of the whole
abbrev pub invariant-loop-view : goal.invariant-loop-view
invariant-loop-view l = record {
  follows : first_bad_from l.inputs l.lists l.issuers (l.count + 1) (take l.view-index l.path) l.known (drop l.view-index l.path)
      ≡ first_bad_from l.inputs l.lists l.issuers 1 [] l.fn.first l.path;
  place : l.count ≡ l.view-index;
}
