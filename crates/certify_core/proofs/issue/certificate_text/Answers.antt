use Rattle.std.proofs.Common.{◌∙◌, ap}
use Rattle.der_tree.proofs.FormLaws.{same_value}
use Rattle.pkix_cert.specs.Certificates.{certificate}
use Rattle.certify_core.specs.Lines.{hex_line}
use Rattle.certify_core.specs.Listing.{listing}
use Rattle.certify_core.proofs.issue.certificate_text.Goals as goal

pub returns-clause-text : goal.returns-clause-text
returns-clause-text g c =
    let der = c.in_ok-certificate.certificate in
    let issued = c.in_ok-certificate.ensures.issued in
    let line = c.in_ok-text.ensures ∙ ap hex_line c.der.ensures in
    let listed = rw (c.in-Some.is, c.der-2.ensures) at c.in_ok-lines.ensures in
    let lines = listed.2 ∙ ap listing (same_value certificate listed.0 issued.0 der listed.1 issued.1.form) in
    (issued.0, der, issued.1, cc (line, lines, c.deref.ensures.value, c.in_ok-extend_from_slice.ensures.items))

pub unreachable-requires : goal.unreachable-requires
unreachable-requires g c =
    let issued = c.in_ok-certificate.ensures.issued in
    let none = rw (c.in_default.is, c.der-2.ensures) at c.in_ok-lines.ensures in
    none issued.0 issued.1.form
