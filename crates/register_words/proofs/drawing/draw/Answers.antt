use Rattle.std.proofs.Common.{sym, ◌∙◌}
use Rattle.register_words.specs.Draw.{drawn}
use Rattle.register_words.proofs.Reserving.{refused}
use Rattle.register_words.proofs.drawing.draw.Goals as goal

pub returns-in-Err-clause-why : goal.returns-in-Err-clause-why
returns-in-Err-clause-why c =
    refused c.args.record.now c.in_ok-copy.copy c.in_ok-serial.serial (drawn c.args.random.now) _ c.in-Err.why c.in_ok-copy.ensures c.in_ok-serial.ensures
    (sym c.in-Err.is ∙ c.reserve.ensures)
