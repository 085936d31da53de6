use Rattle.std.proofs.Common.{◌≡◌, drop}
use Rattle.shelf_path.specs.ListIssuers.{again}
use Rattle.shelf_path.proofs.Paths.{in_front}
use Rattle.shelf_path.proofs.list_issuer.again.Given as goal

-- those that are there again, and what is left, are the whole
abbrev pub invariant-loop-certificate : goal.invariant-loop-certificate
invariant-loop-certificate l = in_front l.views.items (again (drop l.certificate-index l.certificates)) ≡ again l.certificates
