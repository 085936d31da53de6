use Rattle.std.proofs.Common.{◌≡◌, false, rules, sym, ◌∙◌}
use Rattle.register_steps.proofs.Importing.{other_issuer, says_nothing}
use Rattle.register_steps.proofs.import.imported.Goals as goal

pub returns-in_default-clause-why : goal.returns-in_default-clause-why
returns-in_default-clause-why c =
    let none = rw (c.in_default.is, c.as_slice.ensures) at c.in_ok-says.ensures in
    says_nothing c.args.issuer.now c.args.octets.now c.in_ok-message.message c.in_ok-message.ensures.ok (sym none)

pub returns-then-not-named-clause-why : goal.returns-then-not-named-clause-why
returns-then-not-named-clause-why c =
    let says = rw (c.in-Some.is, c.as_slice.ensures) at c.in_ok-says.ensures in
    let named = rw c.as_slice-2.ensures at c.in_ok-named.ensures in
    let other : c.in_ok-named.named ≡ false = search rules in
    other_issuer c.args.issuer.now c.args.octets.now c.in_ok-message.message c.in-Some.says c.in_ok-message.ensures.ok (sym says) (sym named ∙ other)
