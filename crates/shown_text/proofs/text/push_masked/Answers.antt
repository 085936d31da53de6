use Rattle.std.proofs.lemmas.Str.{IsUtf8-past_char}
use Rattle.shown_text.proofs.Masking.{one_more, all_masked}
use Rattle.shown_text.proofs.text.push_masked.Goals as goal

pub loop-character-preserved : goal.loop-character-preserved
loop-character-preserved c =
    let held = c.loop-character.invariant in
    let parts = c.in-Some.ensures.steps.0 in
    (IsUtf8-past_char _ _ c.in-Some.character held.0 parts, one_more _ _ _ _ _ c.in-Some.character held.0 parts c.in_ok-push_mask.ensures held.1)

pub returns : goal.returns
returns c = all_masked _ _ _ c.in-None.ensures.steps.0.0 c.loop-character.invariant.1
