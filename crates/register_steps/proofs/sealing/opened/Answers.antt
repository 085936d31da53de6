use Rattle.std.proofs.Common.{◌≡◌, false, rules, sym, true, ◌∙◌}
use Rattle.register_steps.proofs.SealedOnce.{found, other_bytes, others, same_bytes, unread}
use Rattle.register_steps.proofs.sealing.opened.Goals as goal

pub returns-in_default-clause-why : goal.returns-in_default-clause-why
returns-in_default-clause-why c =
    let none = rw c.in_default.is at c.in_ok-parts.ensures in
    unread c.args.issuer.now c.args.octets.now (sym none)

pub sealed_again-requires : goal.sealed_again-requires
sealed_again-requires c = sym c.in_ok-parts.ensures ∙ c.in-Some.is

pub returns-then-not-are_same-clause-why : goal.returns-then-not-are_same-clause-why
returns-then-not-are_same-clause-why c =
    let same = rw c.as_slice.ensures.value at c.are_same.ensures in
    let differ : c.are_same.result ≡ false = search rules in
    let read = sym c.in_ok-parts.ensures ∙ c.in-Some.is in
    others c.args.issuer.now c.args.octets.now c.in_ok-der.der.items c.in-Some.parts read c.in_ok-der.ensures.ok
    (other_bytes c.in_ok-der.der.items c.args.octets.now (sym same ∙ differ))

pub returns-clause-ok : goal.returns-clause-ok
returns-clause-ok c =
    let same = rw c.as_slice.ensures.value at c.are_same.ensures in
    let equal : c.are_same.result ≡ true = search rules in
    rw (c.in_ok-message.ensures, c.as_bytes.ensures)
    (found c.args.issuer.now c.args.octets.now c.in_ok-der.der.items c.in-Some.parts.to_be_signed c.in-Some.parts.signature.bytes c.in_ok-der.ensures.ok
    (same_bytes c.in_ok-der.der.items c.args.octets.now (sym same ∙ equal)))
