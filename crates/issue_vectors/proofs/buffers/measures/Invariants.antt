use Rattle.issue_vectors.proofs.buffers.measures.Given as goal

abbrev pub ghosts-is_measured : goal.ghosts-is_measured
ghosts-is_measured g a = record { name = a.blank.name; parts = a.blank.parts }
