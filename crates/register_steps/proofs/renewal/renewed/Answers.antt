use Rattle.std.proofs.Common.{FitsSigned, sym, to_z-of_z, w64, ◌∙◌}
use Rattle.der_tree.proofs.FormLaws.{value_there}
use Rattle.pkix_cert.specs.Certificates.{certificate as certificate_codec}
use Rattle.register_steps.proofs.Trees.{renewed_has_tree}
use Rattle.register_steps.proofs.renewal.renewed.Goals as goal

pub encoded-requires : goal.encoded-requires
encoded-requires c =
    let read = sym c.in_ok-old.ensures ∙ c.in-Some.is in
    rw c.with_validity-value.ensures
    (renewed_has_tree c.args.certificate.now c.in-Some.old c.args.serial c.in-Some-validity_of.validity read c.shortest.ensures c.in-Some-validity_of.ensures.formed)

pub returns-clause-ok : goal.returns-clause-ok
returns-clause-ok c =
    let f : FitsSigned w64 c.args.not_before = c.ranges.not_before in
    let g : FitsSigned w64 c.args.not_after = c.ranges.not_after in
    let first = simp to_z-of_z at c.in-Some-validity_of.ensures.first in
    let last = simp to_z-of_z at c.in-Some-validity_of.ensures.last in
    let read = sym c.in_ok-old.ensures ∙ c.in-Some.is in
    record {
      old = c.in-Some.old;
      old_form = value_there certificate_codec c.args.certificate.now c.in-Some.old read;
      validity = c.in-Some-validity_of.validity;
      first = first;
      last = last;
      form = rw c.with_validity-value.ensures at c.in_ok-message.ensures;
    }

pub returns-clause-times : goal.returns-clause-times
returns-clause-times c =
    let f : FitsSigned w64 c.args.not_before = c.ranges.not_before in
    let g : FitsSigned w64 c.args.not_after = c.ranges.not_after in
    let both = simp to_z-of_z at c.in-Some-validity_of.ensures.some in
    sym both
