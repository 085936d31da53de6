use Rattle.issued_path.proofs.Places.{beneath_its_issuer}
use Rattle.issued_path.proofs.laws.accepted_beneath_its_issuer.Goals as goal

pub returns : goal.returns
returns c = beneath_its_issuer (record {
  encoded = c.extension_ids_are_encoded.ensures;
  each = c.parts_of_each_view.ensures;
  matches = c.names_match_is_equivalence.ensures.refl;
  first = c.first_reason.ensures;
})
