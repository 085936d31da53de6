use Rattle.std.proofs.lemmas.Str.{IsUtf8-past_char}
use Rattle.rcgen_text.specs.Strings.{two_octets}
use Rattle.rcgen_text.proofs.Units.{utf16be_step, all_written, two_more}
use Rattle.rcgen_text.proofs.string.bmp.utf16be.Goals as goal

pub loop-character-preserved : goal.loop-character-preserved
loop-character-preserved c =
    let held = c.loop-character.invariant in
    let parts = c.in-Some.ensures.steps.0 in (
      IsUtf8-past_char _ _ c.in-Some.character held.0 parts,
      rw (c.in_ok-push-2.ensures.items, c.in_ok-push.ensures.items, c.from-code.ensures)
          (two_more _ _ _ _ _ (rw (utf16be_step _ _ c.in-Some.character held.0 parts) at held.1)),
    )

pub returns : goal.returns
returns c = all_written two_octets _ _ _ c.in-None.ensures.steps.0.0 c.loop-character.invariant.1
