use Rattle.std.proofs.Common.{◌≡◌, drop, fold}
use Rattle.shelf_path.specs.ListIssuers.{with_issuer}
use Rattle.shelf_path.proofs.list_issuer.with_each.Given as goal

-- from here on the certificates come to what they come to as a whole
abbrev pub invariant-loop-view : goal.invariant-loop-view
invariant-loop-view l =
    fold (with_issuer l.inputs l.lists l.above) l.state (drop l.view-index l.issuers) ≡ fold (with_issuer l.inputs l.lists l.above) l.fn.known l.issuers
