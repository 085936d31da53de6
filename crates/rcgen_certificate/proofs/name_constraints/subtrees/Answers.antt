use Rattle.std.specs.List.{list_all}
use Rattle.std.proofs.Common.{arith}
use Rattle.der_tree.proofs.HasTreeLaws.{all_have_more}
use Rattle.pkix_cert.specs.Constraints.{general_subtree}
use Rattle.rcgen_certificate.specs.AsciiTexts.{is_ascii}
use Rattle.rcgen_certificate.specs.NameConstraints.{base_of, base_texts, has_base_types, subtree_value}
use Rattle.rcgen_certificate.proofs.Constraints.{texts_of_each, types_of_each}
use Rattle.rcgen_certificate.proofs.NameTrees.{item_passes}
use Rattle.rcgen_certificate.proofs.Rows.{map_more}
use Rattle.rcgen_certificate.proofs.Views.{seen_all}
use Rattle.rcgen_certificate.proofs.name_constraints.subtrees.Goals as goal

pub subtree_value-requires-clause-texts : goal.subtree_value-requires-clause-texts
subtree_value-requires-clause-texts c =
    item_passes (λ s. list_all is_ascii (base_texts (base_of s))) c.args.list.now c.loop-subtree.subtree-index c.subtree-item.result
    c.loop-subtree-test.true c.subtree-item.is (texts_of_each c.args.list.now c.requires.texts)

pub subtree_value-requires-clause-types : goal.subtree_value-requires-clause-types
subtree_value-requires-clause-types c =
    item_passes (λ s. has_base_types (base_of s)) c.args.list.now c.loop-subtree.subtree-index c.subtree-item.result
    c.loop-subtree-test.true c.subtree-item.is (types_of_each c.args.list.now c.requires.types)

pub loop-subtree-preserved : goal.loop-subtree-preserved
loop-subtree-preserved c = record {
  values = map_more (λ s. subtree_value (base_of s)) c.args.list.now c.loop-subtree.subtree-index c.subtree-item.result c.loop-subtree.values c.push.new.self
      c.in_ok-subtree_value.field-0 c.loop-subtree-test.true c.subtree-item.is c.loop-subtree.invariant.values c.in_ok-subtree_value.ensures.value
      c.in_ok-push.ensures.ok;
  formed = all_have_more general_subtree c.loop-subtree.values c.push.new.self c.in_ok-subtree_value.field-0 c.loop-subtree.invariant.formed
      c.in_ok-subtree_value.ensures.formed c.in_ok-push.ensures.ok;
}

pub returns-clause-value : goal.returns-clause-value
returns-clause-value c =
    seen_all base_of subtree_value c.args.list.now c.loop-subtree.subtree-index c.loop-subtree.values c.is_empty.result (omega (arith, c.loop-subtree-test.false))
    c.is_empty.ensures c.if-is_empty.false c.loop-subtree.invariant.values
