use Rattle.std.proofs.Common.{sym, ◌∙◌, arith}
use Rattle.std.proofs.lemmas.List.Folds.{list_all-map}
use Rattle.rcgen_certificate.specs.ExtendedKeyUsages.{arcs_of, has_purpose_oid, purpose_oid, purpose_of}
use Rattle.rcgen_certificate.proofs.NameTrees.{item_passes}
use Rattle.rcgen_certificate.proofs.Rows.{map_more}
use Rattle.rcgen_certificate.proofs.Views.{seen_all}
use Rattle.rcgen_certificate.proofs.extended_key_usage.ext_key_usage.Goals as goal

pub purpose_id-requires : goal.purpose_id-requires
purpose_id-requires c =
    item_passes (λ p. has_purpose_oid (purpose_of p)) c.args.purposes.now c.loop-purpose.purpose-index c.purpose-item.result
    c.loop-purpose-test.true c.purpose-item.is (sym (list_all-map has_purpose_oid purpose_of c.args.purposes.now) ∙ c.requires)

pub loop-purpose-preserved : goal.loop-purpose-preserved
loop-purpose-preserved c =
    map_more arcs_of c.args.purposes.now c.loop-purpose.purpose-index c.purpose-item.result c.loop-purpose.ids c.push.new.self
    c.in_ok-purpose_id.field-0 c.loop-purpose-test.true c.purpose-item.is c.loop-purpose.invariant c.in_ok-purpose_id.ensures.value
    c.in_ok-push.ensures.ok

pub returns-clause-value : goal.returns-clause-value
returns-clause-value c =
    seen_all purpose_of purpose_oid c.args.purposes.now c.loop-purpose.purpose-index c.loop-purpose.ids c.is_empty.result
    (omega (arith, c.loop-purpose-test.false)) c.is_empty.ensures c.if-is_empty.false c.loop-purpose.invariant
