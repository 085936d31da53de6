use Rattle.std.proofs.Common.{Bool, ℕ, List, ◌++◌, ap, option_map, subst, ◌∙◌}
use Rattle.shelf_register.specs.Finding.{IsShownIf}
use Rattle.shelf_register.proofs.Shown.{shown_more}
use Rattle.shelf_register.proofs.finding.found_text.Goals as goal

pub loop-certificate-preserved : goal.loop-certificate-preserved
loop-certificate-preserved c =
    let more = c.in_ok-extend_from_slice.ensures.items ∙ ap (λ (x : List ℕ). c.loop-certificate.text.items ++ x) c.as_slice.ensures.value in
    let part = subst (λ (b : Bool). IsShownIf b c.args.form c.certificate-item.result c.in_ok-part.part.items) c.is_asked.ensures c.in_ok-part.ensures in
    shown_more c.args.form c.args.query.now (option_map (λ text. text.now) c.args.name) c.args.certificates.now c.loop-certificate.certificate-index
    c.certificate-item.result c.loop-certificate.text.items c.extend_from_slice.new.self.items c.in_ok-part.part.items c.loop-certificate-test.true
    c.certificate-item.is c.loop-certificate.invariant part more
