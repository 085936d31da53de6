use Rattle.der_tree.specs.Tree.{leaf}
use Rattle.rcgen_certificate.proofs.NameTrees.{written_is_one}
use Rattle.rcgen_certificate.proofs.name_value.primitive_element.Goals as goal

pub returns-clause-element : goal.returns-clause-element
returns-clause-element c =
    rw c.new.ensures (written_is_one (leaf c.args.tag c.from_vec-bytes.result) c.in_ok-tree_octets.field-0.items
    c.in_ok-tree_octets.ensures.octets c.in_ok-tree_octets.ensures.element)
