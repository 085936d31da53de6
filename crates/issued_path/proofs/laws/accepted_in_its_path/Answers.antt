use Rattle.issued_path.proofs.Places.{in_its_path}
use Rattle.issued_path.proofs.laws.accepted_in_its_path.Goals as goal

pub returns : goal.returns
returns c = in_its_path (record {
  encoded = c.extension_ids_are_encoded.ensures;
  each = c.parts_of_each_view.ensures;
  matches = c.names_match_is_equivalence.ensures.refl;
  first = c.first_reason.ensures;
})
