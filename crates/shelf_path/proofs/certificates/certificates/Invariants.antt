use Rattle.std.proofs.Common.{◌≡◌, drop}
use Rattle.shelf_path.specs.Certificates.{certificates_behind}
use Rattle.shelf_path.proofs.Lists.{behind}
use Rattle.shelf_path.proofs.certificates.certificates.Given as goal

-- what is read so far, and of what is left, is the whole
abbrev pub invariant-loop-block : goal.invariant-loop-block
invariant-loop-block l =
    (behind l.views.items (certificates_behind l.number (drop l.block-index l.blocks)) ≡ certificates_behind 0 l.blocks)
    × (l.number ≡ l.block-index)
