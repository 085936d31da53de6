use Rattle.std.specs.Prelude.{◌≡◌, map}
use Rattle.std.specs.Option.{option_map}
use Rattle.std.proofs.Common.{rules}
use Rattle.asn1_core.specs.Moment.{instant}
use Rattle.rcgen_sign.specs.KeyIds.{method_of}
use Rattle.rcgen_issue.specs.CrlView.{point_of, revoked_view}
use Rattle.rcgen_issue.proofs.Lists.{copies, entries_of_copies}
use Rattle.rcgen_issue.proofs.crl.CertificateRevocationListParams.copied.Goals as goal

pub returns : goal.returns
returns c =
    let params = c.args.self.now in
    let copy = c.in_ok-clone.field-0 in
    let this : copy.this_update ≡ params.this_update = search (copies, rules) in
    let next : copy.next_update ≡ params.next_update = search (copies, rules) in
    let number : copy.crl_number ≡ params.crl_number = search (copies, rules) in
    let point : option_map point_of copy.issuing_distribution_point ≡ option_map point_of params.issuing_distribution_point =
    search (copies, rules) in
    let entries : copy.revoked_certs.items ≡ params.revoked_certs.items = entries_of_copies _ _ c.in_ok-clone.ensures.cases.1.1.1.1.0.0 in
    let method : option_map method_of copy.key_identifier_method ≡ option_map method_of params.key_identifier_method =
    search (copies, rules) in
    record {
      view = λ i. record {
        this_update = instant (this i);
        next_update = instant (next i);
        crl_number = number i;
        issuing_distribution_point = point i;
        revoked_certs = map revoked_view (entries i);
        key_identifier_method = method i;
      };
      this_update = this;
      next_update = next;
      revoked_certs = entries;
    }
