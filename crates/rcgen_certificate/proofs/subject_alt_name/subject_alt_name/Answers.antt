use Rattle.std.proofs.Common.{sym, ◌∙◌, arith}
use Rattle.std.proofs.lemmas.List.Folds.{list_all-map}
use Rattle.rcgen_certificate.specs.SubjectAltNames.{general_name_value, has_type_id}
use Rattle.der_tree.proofs.HasTreeLaws.{all_have_more}
use Rattle.pkix_name.specs.GeneralNames.{general_name}
use Rattle.rcgen_text.specs.AlternativeNames.{alternative_name}
use Rattle.rcgen_certificate.proofs.NameTrees.{item_passes}
use Rattle.rcgen_certificate.proofs.Rows.{map_more}
use Rattle.rcgen_certificate.proofs.Views.{seen_all}
use Rattle.rcgen_certificate.proofs.subject_alt_name.subject_alt_name.Goals as goal

pub general_name-requires : goal.general_name-requires
general_name-requires c =
    item_passes (λ n. has_type_id (alternative_name n)) c.args.names.now c.loop-name.name-index c.name-item.result c.loop-name-test.true
    c.name-item.is (sym (list_all-map has_type_id alternative_name c.args.names.now) ∙ c.requires)

pub loop-name-preserved : goal.loop-name-preserved
loop-name-preserved c = record {
  values = map_more (λ n. general_name_value (alternative_name n)) c.args.names.now c.loop-name.name-index c.name-item.result c.loop-name.list c.push.new.self
      c.in_ok-general_name.field-0 c.loop-name-test.true c.name-item.is c.loop-name.invariant.values c.in_ok-general_name.ensures.value
      c.in_ok-push.ensures.ok;
  formed = all_have_more general_name c.loop-name.list c.push.new.self c.in_ok-general_name.field-0 c.loop-name.invariant.formed
      c.in_ok-general_name.ensures.formed c.in_ok-push.ensures.ok;
}

pub returns-clause-value : goal.returns-clause-value
returns-clause-value c =
    seen_all alternative_name general_name_value c.args.names.now c.loop-name.name-index c.loop-name.list c.is_empty.result
    (omega (arith, c.loop-name-test.false)) c.is_empty.ensures c.if-is_empty.false c.loop-name.invariant.values
