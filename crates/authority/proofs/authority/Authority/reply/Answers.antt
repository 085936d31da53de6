use Rattle.std.proofs.Common.{◌∙◌, ℕ, List, ap, sym}
use Rattle.asn1_core.specs.Moment.{instant}
use Rattle.authority.specs.Authorities.{fixed_of, state_of}
use Rattle.authority.specs.CommandView.{command_view, to_issue, to_list}
use Rattle.authority.specs.declared.commands.Reply.TheVariants as reply
use Rattle.authority.proofs.Steps.{replies_to, steps_to}
use Rattle.authority.proofs.authority.Authority.reply.Goals as goal

pub returns-in-Ok-clause-step : goal.returns-in-Ok-clause-step
returns-in-Ok-clause-step g c =
    let from = instant c.in-Issue.not_before in
    let until = instant c.in-Issue.not_after in
    steps_to (fixed_of g.S.PublicKeyData.key g.S.SigningKey.fits g.S.SigningKey.may_refuse c.args.self.now) (state_of c.args.self.now)
    (state_of c.issue.new.self) (command_view c.args.command.now) (to_issue c.in-Issue.key c.in_ok-name-in-Issue.name from until)
    (reply.Issued c.in-Ok.issued.serial c.from_vec.result) (reply.Issued c.in-Ok.issued.serial c.in-Ok.issued.certificate)
    (ap command_view c.in-Issue.is ∙ ap (λ n. to_issue c.in-Issue.key n from until) (sym c.in_ok-name-in-Issue.ensures))
    (ap (λ (der : List ℕ). reply.Issued c.in-Ok.issued.serial der) (c.from_vec.ensures ∙ c.into_der.ensures)) c.in-Ok.ensures.ok

pub returns-in-Ok-list-clause-step : goal.returns-in-Ok-list-clause-step
returns-in-Ok-list-clause-step g c =
    steps_to (fixed_of g.S.PublicKeyData.key g.S.SigningKey.fits g.S.SigningKey.may_refuse c.args.self.now) (state_of c.args.self.now)
    (state_of c.list.new.self) (command_view c.args.command.now) (to_list (instant c.in-List.this_update) (instant c.in-List.next_update))
    (reply.Listed c.in-Ok-list.listed.number c.from_vec-in-Ok-list.result) (reply.Listed c.in-Ok-list.listed.number c.in-Ok-list.listed.list)
    (ap command_view c.in-List.is)
    (ap (λ (der : List ℕ). reply.Listed c.in-Ok-list.listed.number der) (c.from_vec-in-Ok-list.ensures ∙ c.into_der-in-Ok-list.ensures))
    c.in-Ok-list.ensures.ok

pub returns-in-Err-clause-step : goal.returns-in-Err-clause-step
returns-in-Err-clause-step g c =
    let from = instant c.in-Issue.not_before in
    let until = instant c.in-Issue.not_after in
    replies_to (fixed_of g.S.PublicKeyData.key g.S.SigningKey.fits g.S.SigningKey.may_refuse c.args.self.now) (state_of c.args.self.now)
    (state_of c.issue.new.self) (command_view c.args.command.now) (to_issue c.in-Issue.key c.in_ok-name-in-Issue.name from until)
    c.in-Err.e c.refused.result
    (ap command_view c.in-Issue.is ∙ ap (λ n. to_issue c.in-Issue.key n from until) (sym c.in_ok-name-in-Issue.ensures))
    c.in-Err.ensures.err c.refused.ensures.ok

pub returns-in-Err-list-clause-step : goal.returns-in-Err-list-clause-step
returns-in-Err-list-clause-step g c =
    replies_to (fixed_of g.S.PublicKeyData.key g.S.SigningKey.fits g.S.SigningKey.may_refuse c.args.self.now) (state_of c.args.self.now)
    (state_of c.list.new.self) (command_view c.args.command.now) (to_list (instant c.in-List.this_update) (instant c.in-List.next_update))
    c.in-Err-list.e c.refused-in-Err-list.result (ap command_view c.in-List.is) c.in-Err-list.ensures.err c.refused-in-Err-list.ensures.ok
