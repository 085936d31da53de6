use Rattle.std.proofs.Common.{List, Option, ap, append_assoc, sym, take, ◌++◌, ◌∙◌}
use Rattle.std.specs.List.{filter_map}
use Rattle.std.specs.Option.{option_to_list}
use Rattle.pkix_name.specs.declared.general_name.GeneralName.{GeneralName}
use Rattle.pkix_rules.specs.Addresses.{address_in}
use Rattle.pkix_rules.proofs.AddressLists.{address_more}
use Rattle.pkix_rules.proofs.address.push_part.Goals as goal

pub loop-attribute-preserved : goal.loop-attribute-preserved
loop-attribute-preserved c =
    let l = c.loop-attribute in
    let items = c.as_slice-attribute-items.result.now in
    let a = c.attribute-item.result in
    let before = c.args.names.now.items in
    let so_far = filter_map address_in (take l.attribute-index items) in
    let name = c.in_ok-name.name in (
      c.in_ok-push_optional.ensures ∙ ap (λ (ns : List GeneralName). ns ++ option_to_list name) l.invariant.0
          ∙ append_assoc before so_far (option_to_list name)
          ∙ ap (λ (ns : List GeneralName). before ++ ns) (ap (λ (o : Option GeneralName). so_far ++ option_to_list o) c.in_ok-name.ensures
          ∙ sym (address_more items l.attribute-index a c.loop-attribute-test.true c.attribute-item.is)),
      l.invariant.1,
    )
