use Rattle.std.proofs.Common.{◌++◌, arith, ap, length}
use Rattle.std.proofs.lemmas.List.{length-append}
use Rattle.der_tree.specs.Element.{identifier_octets, length_octets}
use Rattle.der_tree.proofs.Measuring.{element_parts, element_put}
use Rattle.der_tree.proofs.encode.put_element.Goals as goal

pub put_header-requires : goal.put_header-requires
put_header-requires g c = omega (arith, c.requires, element_parts c.args.tag c.args.constructed c.args.content.now)

pub put_all-requires : goal.put_all-requires
put_all-requires g c =
    omega (
      arith,
      c.requires,
      c.put_header.ensures.room,
      element_parts c.args.tag c.args.constructed c.args.content.now,
      ap length c.put_header.ensures.items,
      length-append c.args.out.now.items (identifier_octets c.args.tag c.args.constructed ++ length_octets (length c.args.content.now)),
    )

pub returns-clause-items : goal.returns-clause-items
returns-clause-items g c = element_put c.args.tag c.args.constructed c.args.content.now c.args.out.now.items c.put_header.new.out.items c.put_all.new.self.items c.put_header.ensures.items c.put_all.ensures.items

pub returns-clause-steps : goal.returns-clause-steps
returns-clause-steps g c = omega (arith, c.put_header.ensures.steps, c.put_all.ensures.steps, element_parts c.args.tag c.args.constructed c.args.content.now)
