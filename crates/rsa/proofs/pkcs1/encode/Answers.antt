use Rattle.std.proofs.Common.{◌≡◌, ◌-◌, ℕ, length, replicate, ap, ◌∙◌, arith}
use Rattle.std.proofs.lemmas.List.{take-replicate}
use Rattle.rsa.proofs.Encodings.{encoded_is, encoded-below}
use Rattle.modular.specs.Numbers.{value}
use Rattle.rsa.proofs.pkcs1.encode.Goals as goal

pub returns-clause-value : goal.returns-clause-value
returns-clause-value c =
    let l = c.digest_info_length.ensures in
    let z : c.fill.new.self ≡ replicate (length c.args.limbs.now) 0 = c.fill.ensures.after (λ y h. h) in
    let l0 : length c.fill.new.self ≡ length c.args.limbs.now = omega arith in
    let l1 : length c.append_octets.new.limbs ≡ length c.args.limbs.now = omega arith in
    let l2 : length c.append_octets-2.new.limbs ≡ length c.args.limbs.now = omega arith in
    let l3 : length c.append_octets-3.new.limbs ≡ length c.args.limbs.now = omega arith in
    let pad = take-replicate (c.args.em_len - c.digest_info_length.result - 3) 1024 255 (omega arith) in
    encoded_is c.args.hash c.args.message.now c.fill.new.self _ c.args.em_len (length c.args.limbs.now) (length c.args.limbs.now)
    (value c.append_octets.new.limbs) (value c.append_octets-2.new.limbs) (value c.append_octets-3.new.limbs) (value c.append_digest_info.new.limbs)
    z (pad ∙ ap (λ (k : ℕ). replicate (c.args.em_len - k - 3) 255) l)
    (rw l0 at c.append_octets.ensures) (rw l1 at c.append_octets-2.ensures) (rw l2 at c.append_octets-3.ensures) (rw l3 at c.append_digest_info.ensures.value)
    c.requires.fits c.append_digest_info.ensures.octets c.requires.room

pub returns-clause-octets : goal.returns-clause-octets
returns-clause-octets c = encoded-below c.args.hash c.args.message.now c.args.em_len c.append_digest_info.ensures.octets
