use Rattle.asn1_core.specs.Moment.{instant}
use Rattle.authority.specs.Authorities.{fixed_of, state_of}
use Rattle.authority.proofs.Steps.{list_passed, next_one, room_for}
use Rattle.authority.proofs.authority.Authority.list.Goals as goal

pub returns-in_err-list-clause-err : goal.returns-in_err-list-clause-err
returns-in_err-list-clause-err g c =
    let next = next_one c.lists-lists.result (state_of c.args.self.now).lists c.lists-lists.ensures in
    let room = room_for c.args.self.now.limits.lists (state_of c.args.self.now).lists c.lists-lists.result c.lists-lists.ensures c.if-lists-self.false in
    rw c.in_err-list.ensures.same (list_passed
    (fixed_of g.S.PublicKeyData.key g.S.SigningKey.fits g.S.SigningKey.may_refuse c.args.self.now) (state_of c.args.self.now)
    (instant c.args.this_update) (instant c.args.next_update) c.in_err-list.field-0.0 c.from_residual.result room (rw next at c.in_err-list.ensures.why)
    c.from_residual.ensures.1)
