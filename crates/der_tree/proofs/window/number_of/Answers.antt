use Rattle.std.proofs.Common.{refl}
use Rattle.der_tree.proofs.Completions.{is_number}
use Rattle.der_tree.proofs.window.number_of.Goals as goal

pub loop-rest-init : goal.loop-rest-init
loop-rest-init c = (refl, is_number c.args.bytes.now c.type_inv.bytes c.requires)
