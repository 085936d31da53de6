use Rattle.std.proofs.lemmas.Str.{IsUtf8-past_char}
use Rattle.rcgen_text.specs.Strings.{four_octets}
use Rattle.rcgen_text.proofs.Units.{utf32be_step, all_written, four_more}
use Rattle.rcgen_text.proofs.string.universal.utf32be.Goals as goal

pub loop-character-preserved : goal.loop-character-preserved
loop-character-preserved c =
    let held = c.loop-character.invariant in
    let parts = c.in-Some.ensures.steps.0 in (
      IsUtf8-past_char _ _ c.in-Some.character held.0 parts,
      rw (c.in_ok-push-4.ensures.items, c.in_ok-push-3.ensures.items, c.in_ok-push-2.ensures.items, c.in_ok-push.ensures.items, c.from-code.ensures)
          (four_more _ _ _ _ _ _ _ (rw (utf32be_step _ _ c.in-Some.character held.0 parts) at held.1)),
    )

pub returns : goal.returns
returns c = all_written four_octets _ _ _ c.in-None.ensures.steps.0.0 c.loop-character.invariant.1
