use Rattle.std.specs.Prelude.{◌≡◌, ◌↔◌, ℕ, true, List, ◌++◌, Option, is_some}
use Rattle.std.proofs.Common.{subst, sym}
use Rattle.der_tree.specs.Form.{IsDerOf}
use Rattle.pkix_cert.specs.Certificates.{certificate}
use Rattle.pkix_cert.specs.Views.{CertificateParts}
use Rattle.pkix_cert.specs.declared.certificate.Certificate.{Certificate}
use Rattle.pkix_cert.proofs.Viewing.{certificate_there}
use Rattle.pkix_cert.proofs.view.CertificateView.new.Goals as goal

pub returns-clause-exact : goal.returns-clause-exact
returns-clause-exact c =
    subst (λ (o : Option CertificateParts). (is_some o ≡ true) ↔ ((x : Certificate) × (b rest : List ℕ) × IsDerOf certificate x b × (c.args.input.now ≡ b ++ rest)))
    (sym c.at.ensures) (certificate_there c.args.input.now)
