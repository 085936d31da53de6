use Rattle.shelf_keys.proofs.Octets.{octets_are}
use Rattle.shelf_keys.proofs.encoding.encoded.Goals as goal

pub returns-in-Ok : goal.returns-in-Ok
returns-in-Ok g c = octets_are g.T.Form.codec c.args.fault c.args.value.now c.in-Ok.octets.items c.in-Ok.ensures.ok
