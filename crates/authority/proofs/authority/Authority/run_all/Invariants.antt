use Rattle.std.specs.Prelude.{◌≡◌, map, take}
use Rattle.authority.specs.Authorities.{fixed_of, issuer_of, limits_of, state_of}
use Rattle.authority.specs.Book.{Run}
use Rattle.authority.specs.CommandView.{command_view}
use Rattle.authority.proofs.authority.Authority.run_all.Given as goal

-- the replies so far and the state are a run of the commands so far
abbrev pub invariant-loop-command : goal.invariant-loop-command
invariant-loop-command g l = record {
  run : Run (fixed_of g.S.PublicKeyData.key g.S.SigningKey.fits g.S.SigningKey.may_refuse l.fn.self) (state_of l.fn.self)
      (map command_view (take l.command-index l.commands)) l.replies.items (state_of l.self);
  issuer : issuer_of l.self ≡ issuer_of l.fn.self;
  limits : limits_of l.self ≡ limits_of l.fn.self;
}
