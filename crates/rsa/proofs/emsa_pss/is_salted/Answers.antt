use Rattle.std.proofs.Common.{◌≡◌, true, false, sym, ◌∙◌, rules}
use Rattle.rsa.proofs.Consistent.{no_padding, by_hash}
use Rattle.rsa.proofs.emsa_pss.is_salted.Goals as goal

pub returns-then-not-has_padding : goal.returns-then-not-has_padding
returns-then-not-has_padding c =
    let f : c.has_padding.result ≡ false = search rules in
    no_padding c.args.hash c.args.message.now c.args.digest.now c.args.db.now (sym c.has_padding.ensures ∙ f)

pub returns : goal.returns
returns c =
    let t : c.has_padding.result ≡ true = search rules in
    by_hash c.args.hash c.args.message.now c.args.digest.now c.args.db.now c.hash_salted.new.digest c.digest_length.result c.eq.result c.digest_length.ensures
    (sym c.has_padding.ensures ∙ t) c.eq.ensures c.hash_salted.ensures
