use Rattle.std.proofs.Common.{◌∙◌, ◌+◌, ◌++◌, ◌∷◌, [], refl}
use Rattle.authority.specs.Authorities.{state_of}
use Rattle.authority.proofs.Runs.{on_error, run_more}
use Rattle.authority.proofs.authority.Authority.run_all.Goals as goal

pub loop-command-preserved : goal.loop-command-preserved
loop-command-preserved g c = record {
  run = run_more g.S.PublicKeyData.key g.S.SigningKey.fits g.S.SigningKey.may_refuse c.args.self.now c.loop-command.self (state_of c.args.self.now)
      (state_of c.reply.new.self) c.args.commands.now c.loop-command.command-index c.command-item.result c.loop-command.replies.items
      c.push.new.self.items c.in_ok-reply.reply c.loop-command-test.true c.command-item.is c.loop-command.invariant.issuer
      c.loop-command.invariant.limits c.loop-command.invariant.run c.in_ok-reply.ensures.step c.in_ok-push.ensures.items;
  issuer = c.reply.ensures.issuer ∙ c.loop-command.invariant.issuer;
  limits = c.reply.ensures.limits ∙ c.loop-command.invariant.limits;
}

pub returns-in_err-push-clause-prefix : goal.returns-in_err-push-clause-prefix
returns-in_err-push-clause-prefix g c = on_error c.from_residual-in_err-push.result (
  c.loop-command.command-index + 1,
  c.loop-command.replies.items ++ c.in_ok-reply.reply ∷ [],
  run_more g.S.PublicKeyData.key g.S.SigningKey.fits g.S.SigningKey.may_refuse c.args.self.now c.loop-command.self (state_of c.args.self.now)
      (state_of c.reply.new.self) c.args.commands.now c.loop-command.command-index c.command-item.result c.loop-command.replies.items
      (c.loop-command.replies.items ++ c.in_ok-reply.reply ∷ []) c.in_ok-reply.reply
      c.loop-command-test.true c.command-item.is c.loop-command.invariant.issuer c.loop-command.invariant.limits c.loop-command.invariant.run
      c.in_ok-reply.ensures.step refl,
)

pub returns-in_err-reply-clause-prefix : goal.returns-in_err-reply-clause-prefix
returns-in_err-reply-clause-prefix g c = on_error c.from_residual-in_err-reply.result (
  c.loop-command.command-index,
  c.loop-command.replies.items,
  rw c.in_err-reply.ensures.memory c.loop-command.invariant.run,
)

pub returns-in_err-replies-clause-prefix : goal.returns-in_err-replies-clause-prefix
returns-in_err-replies-clause-prefix g c = on_error c.from_residual.result (0, [], refl)
