use Rattle.issued_path.proofs.Places.{under_its_anchor}
use Rattle.issued_path.proofs.laws.accepted_under_its_anchor.Goals as goal

pub returns : goal.returns
returns c = under_its_anchor (record {
  encoded = c.extension_ids_are_encoded.ensures;
  each = c.parts_of_each_view.ensures;
  matches = c.names_match_is_equivalence.ensures.refl;
  first = c.first_reason.ensures;
})
