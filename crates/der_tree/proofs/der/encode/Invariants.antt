use Rattle.der_tree.proofs.der.encode.Given as goal

abbrev pub ghosts-encode_from : goal.ghosts-encode_from
ghosts-encode_from g a = record { name = a.blank.name; parts = a.blank.parts }
