use Rattle.issue_vectors.proofs.buffers.buffers.Given as goal

abbrev pub ghosts-are_put : goal.ghosts-are_put
ghosts-are_put g a = record { name = a.blank.name; parts = a.blank.parts }
