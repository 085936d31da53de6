use Rattle.der_tree.proofs.encode.tree_octets.Given as goal

abbrev pub ghosts-tree_from : goal.ghosts-tree_from
ghosts-tree_from a = record { name = a.blank.name; parts = a.blank.parts }
