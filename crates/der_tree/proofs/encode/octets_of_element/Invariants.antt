use Rattle.der_tree.proofs.encode.octets_of_element.Given as goal

abbrev pub ghosts-element_from : goal.ghosts-element_from
ghosts-element_from a = record { name = a.blank.name; parts = a.blank.parts }
