use Rattle.certify_core.proofs.revoked.revocation_lines.Given as goal

abbrev pub ghosts-lines_from : goal.ghosts-lines_from
ghosts-lines_from a = record { name = a.blank.name; parts = a.blank.parts }
