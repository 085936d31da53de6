use Rattle.asn1_core.specs.Moment.{instant}
use Rattle.authority.specs.Authorities.{fixed_of, state_of}
use Rattle.authority.proofs.Steps.{issue_passed, next_one, room_for}
use Rattle.authority.proofs.authority.Authority.issue.Goals as goal

pub returns-in_err-certificate-clause-err : goal.returns-in_err-certificate-clause-err
returns-in_err-certificate-clause-err g c =
    let next = next_one c.issued-issued.result (state_of c.args.self.now).issued c.issued-issued.ensures in
    let room = room_for c.args.self.now.limits.certificates (state_of c.args.self.now).issued c.issued-issued.result c.issued-issued.ensures
    c.if-issued-self.false in
    rw c.in_ok-reserve_certificate.ensures.same (issue_passed
    (fixed_of g.S.PublicKeyData.key g.S.SigningKey.fits g.S.SigningKey.may_refuse c.args.self.now) (state_of c.args.self.now)
    (g.K.PublicKeyData.key c.args.key.now) c.args.name (instant c.args.not_before) (instant c.args.not_after) c.in_err-certificate.field-0.0
    c.from_residual-in_err-certificate.result room (rw next at c.in_err-certificate.ensures.why) c.from_residual-in_err-certificate.ensures.1)
