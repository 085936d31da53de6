use Rattle.std.proofs.Common.{sym, ap, ◌∙◌}
use Rattle.std.proofs.lemmas.List.Folds.{list_all-map}
use Rattle.asn1_core.specs.Arcs.{is_oid}
use Rattle.der_tree.proofs.HasTreeLaws.{all_have_more}
use Rattle.pkix_name.specs.Names.{relative_distinguished_name}
use Rattle.rcgen_text.specs.DnTypes.{kind_of, type_arcs}
use Rattle.rcgen_text.specs.Names.{entry_of}
use Rattle.rcgen_certificate.specs.NameValues.{has_types}
use Rattle.rcgen_certificate.proofs.NameTrees.{item_passes, values_more}
use Rattle.rcgen_certificate.proofs.name_value.name_value.Goals as goal

pub relative_name-requires : goal.relative_name-requires
relative_name-requires c =
    item_passes (λ e. is_oid (type_arcs (kind_of e.0))) c.entries-entry-items.result.now c.loop-entry.entry-index c.entry-item.result
    c.loop-entry-test.true c.entry-item.is
    (sym (list_all-map (λ e. is_oid (type_arcs e.dn_type)) entry_of c.entries-entry-items.result.now)
    ∙ ap has_types c.entries-entry-items.ensures.entries ∙ c.requires)

pub loop-entry-preserved : goal.loop-entry-preserved
loop-entry-preserved c = record {
  values = values_more c.entries-entry-items.result.now c.loop-entry.entry-index c.entry-item.result c.loop-entry.parts c.push.new.self
      c.in_ok-relative_name.field-0 c.loop-entry-test.true c.entry-item.is c.loop-entry.invariant.values c.in_ok-relative_name.ensures.value
      c.in_ok-push.ensures.ok;
  formed = all_have_more relative_distinguished_name c.loop-entry.parts c.push.new.self c.in_ok-relative_name.field-0
      c.loop-entry.invariant.formed c.in_ok-relative_name.ensures.formed c.in_ok-push.ensures.ok;
}
