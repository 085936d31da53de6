use Rattle.std.proofs.lemmas.List.{append_assoc}
use Rattle.shelf_explain.specs.PolicyTexts.{both_text}
use Rattle.shelf_explain.proofs.policies.push_both.Goals as goal

-- each text is the one before it and a part
pub returns : goal.returns
unfolding both_text
returns c =
    rw (c.in_ok-push_labelled-2.ensures, c.in_ok-extend_from_slice.ensures.items, c.in_ok-push_labelled.ensures) (simp append_assoc)
