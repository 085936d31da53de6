use Rattle.ed25519.proofs.Powers.{power_is}
use Rattle.ed25519.proofs.power_is_power.Goals as goal

pub returns : goal.returns
returns c = power_is
