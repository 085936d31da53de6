use Rattle.std.proofs.Common.{◌∙◌, ap}
use Rattle.pkix_cert.specs.Views.{certificate_parts}
use Rattle.shelf_path.specs.ListIssuers.{again}
use Rattle.shelf_path.proofs.Paths.{one_more}
use Rattle.shelf_path.proofs.list_issuer.again.Goals as goal

pub loop-certificate-preserved : goal.loop-certificate-preserved
loop-certificate-preserved c =
    one_more c.loop-certificate.views.items c.push.new.self.items c.args.certificates.now c.loop-certificate.certificate-index c.certificate-item.result
    c.in-Some.view (again c.args.certificates.now) c.loop-certificate-test.true c.certificate-item.is (c.in-Some.ensures.parts ∙ ap certificate_parts c.whole.ensures)
    c.in_ok-push.ensures.items
    c.loop-certificate.invariant
