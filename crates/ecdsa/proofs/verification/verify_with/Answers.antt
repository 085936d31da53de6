use Rattle.std.proofs.Common.{length}
use Rattle.ecdsa.proofs.Accepting.{leftmost_is, signature_is}
use Rattle.ecdsa.proofs.verification.verify_with.Goals as goal

pub returns : goal.returns
returns g c =
    let a = c.args.parameters.now in
    signature_is _ _ _ _ _ _ _ _ _ _ _ c.in-Some.ensures.1 c.in-Some-read_signature.ensures
    c.in-Some-number_in_range.ensures.1 c.in-Some-number_in_range-2.ensures.1 c.in-Some-number_in_range.ensures.0 c.in-Some-number_in_range-2.ensures.0
    (leftmost_is _ _ _ _ _ c.load_first-e.ensures (a.digest_octets_are (length c.args.digest.now) c.requires) a.digits_are) c.is_accepted.ensures
