use Rattle.std.proofs.Common.{FitsSigned, rules, to_z-of_z, w64}
use Rattle.register_lines.proofs.order.invalid_text.Goals as goal

pub returns-in_ok-text-in-Some : goal.returns-in_ok-text-in-Some
returns-in_ok-text-in-Some c =
    let f : FitsSigned w64 c.in-Some.seconds = search rules in
    let t = simp to_z-of_z at c.in_ok-text-in-Some.ensures in
    rw c.in-Some.is t
