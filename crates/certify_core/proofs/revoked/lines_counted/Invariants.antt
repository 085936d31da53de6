use Rattle.std.proofs.Common.{◌≡◌, take}
use Rattle.certify_core.specs.LookingUp.{revocation_lines}
use Rattle.certify_core.proofs.revoked.lines_counted.Given as goal

abbrev pub invariant-loop-serial : goal.invariant-loop-serial
invariant-loop-serial g l = l.lines.items ≡ revocation_lines l.list.tbs_cert_list.revoked_certificates (take l.serial-index l.serials)
