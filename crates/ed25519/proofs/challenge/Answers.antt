use Rattle.std.proofs.Common.{◌∙◌, ap}
use Rattle.modular.specs.Numbers.{little_endian}
use Rattle.ed25519.specs.Verification.{challenge}
use Rattle.ed25519.proofs.challenge.Goals as goal

pub returns : goal.returns
unfolding challenge
returns c = c.load_little_endian.ensures
    ∙ ap little_endian (c.finalize.ensures _ (c.update-3.ensures _ (c.update-2.ensures _ (c.update.ensures _ c.new-hasher.ensures))))
