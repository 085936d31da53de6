use Rattle.std.proofs.Common.{◌≡◌, true, false, arith, sym, ◌∙◌}
use Rattle.asn1_core.specs.Twos.{is_shortest, is_negative}
use Rattle.asn1_core.specs.Unsigned.{unsigned_64_contents}
use Rattle.asn1_core.proofs.Numbers.{whole_read}
use Rattle.asn1_core.proofs.integer.u64_from_contents.Goals as goal

pub returns : goal.returns
unfolding unsigned_64_contents
returns c =
    let shortest : is_shortest c.args.contents.now ≡ true = cc in
    let positive : is_negative c.args.contents.now ≡ false = cc in
    c.number_64.ensures ∙ sym (whole_read c.args.contents.now (λ k. omega (arith, c.type_inv.contents k)) shortest positive)
