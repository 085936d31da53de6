use Rattle.issued_path.proofs.Places.{plain_is_valid}
use Rattle.issued_path.proofs.laws.plain_is_valid.Goals as goal

pub returns : goal.returns
returns c = plain_is_valid (record {
  encoded = c.extension_ids_are_encoded.ensures;
  each = c.parts_of_each_view.ensures;
  matches = c.names_match_is_equivalence.ensures.refl;
  first = c.first_reason.ensures;
})
