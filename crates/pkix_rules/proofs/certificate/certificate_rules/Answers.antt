use Rattle.std.proofs.Common.{sym, ◌∙◌}
use Rattle.pkix_rules.proofs.OfOctets.{of_certificate}
use Rattle.pkix_rules.proofs.certificate.certificate_rules.Goals as goal

pub returns : goal.returns
returns c =
    of_certificate c.args.message.now _ c.in-Some.tbs c.in_ok-own.own c.in_ok-issuer.issuer _ c.in_ok-found.found.items
    (sym c.in_ok-tbs.ensures ∙ c.in-Some.is) c.in_ok-own.ensures c.in_ok-issuer.ensures c.is_strict.ensures c.in_ok-found.ensures
