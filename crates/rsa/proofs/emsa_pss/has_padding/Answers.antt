use Rattle.std.proofs.Common.{◌≡◌, true, false, sym, ◌∙◌, rules}
use Rattle.rsa.proofs.Consistent.{padding_mark, padding_fails}
use Rattle.rsa.proofs.emsa_pss.has_padding.Goals as goal

pub returns-then-are_zeros : goal.returns-then-are_zeros
returns-then-are_zeros c =
    let t : c.are_zeros.result ≡ true = search rules in
    padding_mark c.args.hash c.args.db.now c.digest_length.result c.digest_length.ensures (sym c.are_zeros.ensures ∙ t)

pub returns-else-are_zeros : goal.returns-else-are_zeros
returns-else-are_zeros c =
    let f : c.are_zeros.result ≡ false = search rules in
    padding_fails c.args.hash c.args.db.now c.digest_length.result c.are_zeros.result c.digest_length.ensures c.are_zeros.ensures f
