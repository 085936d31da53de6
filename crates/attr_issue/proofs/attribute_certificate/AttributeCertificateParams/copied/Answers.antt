use Rattle.std.specs.Prelude.{◌≡◌, map}
use Rattle.std.proofs.Common.{rules}
use Rattle.asn1_core.specs.Moment.{instant}
use Rattle.rcgen_certificate.specs.Requests.{given_of}
use Rattle.attr_issue.proofs.Copies.{copies}
use Rattle.attr_issue.proofs.attribute_certificate.AttributeCertificateParams.copied.Goals as goal

pub returns : goal.returns
returns c =
    let params = c.args.self.now in
    let copy = c.in_ok-clone.field-0 in
    let holder : copy.holder_issuer ≡ params.holder_issuer = search (copies, rules) in
    let held : copy.holder_serial ≡ params.holder_serial = search (copies, rules) in
    let serial : copy.serial_number ≡ params.serial_number = search (copies, rules) in
    let from : copy.not_before ≡ params.not_before = search (copies, rules) in
    let to : copy.not_after ≡ params.not_after = search (copies, rules) in
    let attributes : map given_of copy.attributes.items ≡ map given_of params.attributes.items = search (copies, rules) in
    let asked : copy.use_authority_key_identifier_extension ≡ params.use_authority_key_identifier_extension = search (copies, rules) in
    record {
      view = λ i. record {
        holder_issuer = holder i;
        holder_serial = held i;
        serial_number = serial i;
        not_before = instant (from i);
        not_after = instant (to i);
        attributes = attributes i;
        use_authority_key_identifier_extension = asked i;
      };
      not_before = from;
      not_after = to;
    }
