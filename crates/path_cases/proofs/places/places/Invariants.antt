use Rattle.path_cases.proofs.places.places.Given as goal

abbrev pub ghosts-places_from : goal.ghosts-places_from
ghosts-places_from a = record { name = a.blank.name; parts = a.blank.parts }
