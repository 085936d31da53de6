use Rattle.std.proofs.Common.{◌≡◌, true, false, refl, sym, ◌∙◌, rules}
use Rattle.rsa.proofs.Consistent.{no_room, no_trailer, no_zeros, by_db}
use Rattle.rsa.proofs.emsa_pss.emsa_pss_verify.Goals as goal

pub returns-then-em-size : goal.returns-then-em-size
returns-then-em-size c =
    no_room c.args.hash c.args.message.now c.args.em.now c.args.em_bits c.digest_length-size.result c.digest_length-size.ensures c.if-em-size.true

pub returns-then-em : goal.returns-then-em
returns-then-em c =
    no_trailer c.args.hash c.args.message.now c.args.em.now c.args.em_bits c.digest_length-size.result c.digest_length-size.ensures c.if-em-size.false
    c.if-em.true

pub returns-then-not-begins_with_zeros : goal.returns-then-not-begins_with_zeros
returns-then-not-begins_with_zeros c =
    let f : c.begins_with_zeros.result ≡ false = search rules in
    no_zeros c.args.hash c.args.message.now c.args.em.now c.args.em_bits c.digest_length-size.result c.digest_length-size.ensures c.if-em-size.false
    c.if-em.false (sym c.begins_with_zeros.ensures ∙ f)

pub returns : goal.returns
returns c =
    let t : c.begins_with_zeros.result ≡ true = search rules in
    by_db c.args.hash c.args.message.now c.args.em.now c.args.em_bits c.digest_length-size.result c.digest_length-size.ensures
    c.copy_from_slice.new.self _ c.unmask.new.octets c.is_salted.result c.if-em-size.false c.if-em.false (sym c.begins_with_zeros.ensures ∙ t)
    c.copy_from_slice.ensures.after refl c.unmask.ensures c.is_salted.ensures
