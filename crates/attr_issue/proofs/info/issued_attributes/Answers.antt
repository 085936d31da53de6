use Rattle.std.specs.Prelude.{Bool, not}
use Rattle.std.proofs.Common.{sym, subst, ◌∙◌}
use Rattle.rcgen_text.specs.Causes.{attribute_values, origin_of, when, Explains}
use Rattle.rcgen_certificate.specs.Issuers.{issuer_field_of}
use Rattle.rcgen_certificate.proofs.Issuing.{passed}
use Rattle.attr_issue.specs.AttributeCertificateView.{attribute_certificate_view}
use Rattle.attr_issue.proofs.AttributeCauses.{none_left, sets_seen, some_left, types_seen, written_seen}
use Rattle.attr_issue.proofs.info.issued_attributes.Goals as goal

pub attributes-requires : goal.attributes-requires
attributes-requires g c =
    rw c.deref.ensures.value (sym (types_seen c.args.params.now.attributes.items) ∙ c.in_ok-refuse_early.ensures.parts.attribute_types)

pub returns-in_err-attributes-clause-why : goal.returns-in_err-attributes-clause-why
returns-in_err-attributes-clause-why g c =
    let error = c.in_err-attributes.field-0.0 in
    passed c.from_residual-in_err-attributes.result error _ c.from_residual-in_err-attributes.ensures.1
    (some_left (attribute_certificate_view c.args.params.now) (issuer_field_of c.args.issuer.now) (origin_of error)
    c.in_ok-refuse_early.ensures.parts
    (subst (λ (b : Bool). Explains (when (not b) attribute_values) ⊥ (origin_of error)) (sym (sets_seen c.args.params.now.attributes.items))
    (rw c.deref.ensures.value at c.in_err-attributes.ensures.why)))

pub returns-clause-values : goal.returns-clause-values
returns-clause-values g c =
    (rw c.deref.ensures.value at c.in_ok-attributes.ensures.values) ∙ sym (written_seen c.args.params.now.attributes.items)

pub returns-clause-ok : goal.returns-clause-ok
returns-clause-ok g c =
    none_left (attribute_certificate_view c.args.params.now) (issuer_field_of c.args.issuer.now) c.in_ok-refuse_early.ensures.parts
    (sets_seen c.args.params.now.attributes.items ∙ (rw c.deref.ensures.value at c.in_ok-attributes.ensures.ok))
