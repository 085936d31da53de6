use Rattle.std.specs.Prelude.{◌≡◌, true, map, take}
use Rattle.std.specs.List.{AllZip, list_all}
use Rattle.pkix_cert.specs.Revocations.{revoked_certificate}
use Rattle.rcgen_issue.specs.CrlView.{revoked_view}
use Rattle.rcgen_issue.specs.Entries.{IsEntry}
use Rattle.rcgen_issue.proofs.crl.entries.Given as goal

abbrev pub invariant-loop-params : goal.invariant-loop-params
invariant-loop-params l = record {
  values : AllZip IsEntry (map revoked_view (take l.params-index l.revoked)) l.list;
  formed : list_all revoked_certificate.has_tree l.list ≡ true;
}
