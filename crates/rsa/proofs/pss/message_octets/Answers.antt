use Rattle.std.proofs.Common.{ℕ, length, ap, ◌∙◌}
use Rattle.modular.specs.Numbers.{value}
use Rattle.rsa.specs.Primitives.{i2osp}
use Rattle.rsa.proofs.pss.message_octets.Goals as goal

pub returns-clause-octets : goal.returns-clause-octets
returns-clause-octets c = λ t.
    c.store.ensures ∙ ap (i2osp (value c.verification_primitive-is_in_range.new.message)) c.requires.room
    ∙ ap (λ (x : ℕ). i2osp x (length c.args.modulus.now)) (c.verification_primitive-is_in_range.ensures.power t)
