-- What an authority replies to the commands of a profile.
use Rattle.std.specs.Prelude.{◌≡◌, ℕ, List, map, None, Result, refl}
use Rattle.std.specs.List.{flat_map}
use Rattle.std.proofs.Common.{sym, ◌∙◌}
use Rattle.authority.specs.Book.{Fixed, Run, State, alike, fixed, nothing}
use Rattle.authority.specs.declared.commands.Reply.{Reply}
use Rattle.certify_core.specs.Issuing.{IsSignatureOf, issuer_of_profile, signed_once}
use Rattle.certify_core.specs.CommandSpec.{CommandSpec}
use Rattle.certify_core.specs.Replies.{reply_line}
use Rattle.certify_core.specs.AuthorityCommands.{command_of_profile}
use Rattle.certify_core.specs.laws.Scripts.{same_script_text}
use Rattle.certify_profile.specs.Authority.{authority}
use Rattle.toml_format.specs.Document.{document_of}
use Rattle.certify_profile.specs.declared.authority.AuthorityProfile.{AuthorityProfile}
use Rattle.toml_format.specs.declared.reason.Reason.{Reason}

-- the profile that the bytes are, or the least reason why they are none
abbrev pub authority_profile_of : List ℕ → Result AuthorityProfile Reason
authority_profile_of = document_of authority.read

-- what is fixed of the profile's authority; its key refuses nothing
abbrev pub authority_of_profile : AuthorityProfile → Fixed
authority_of_profile p = fixed (issuer_of_profile p.issuer) (IsSignatureOf p.issuer.secret) (λ message. ⊥) (alike p.limit)

-- the text is the lines of what is replied to the profile's commands, from an empty book on
abbrev pub IsScriptText : AuthorityProfile → List ℕ → Type 0
IsScriptText p text =
    (replies : List Reply) × (state : State) × Run (authority_of_profile p) nothing (map command_of_profile p.commands) replies state
    × (text ≡ flat_map reply_line replies)

-- Its lines. A command that is refused has a line too, and the next ones are run: there is no cause against the whole.
abbrev pub script_running : AuthorityProfile → CommandSpec
script_running p = record {
  Params = Unit {0};
  Says = λ params. Unit {0};
  HasReason = λ reason. ⊥;
  IsText = λ params. IsScriptText p;
  first_cause = λ params. None;
  one_cause = λ params other says said. refl;
  one_text = λ params other says said text another v w.
      v.3 ∙ same_script_text (authority_of_profile p) (signed_once p.issuer.secret) (λ message refused. refused) nothing v.1 w.1
      (map command_of_profile p.commands) v.0 w.0 v.2 w.2 ∙ sym w.3;
  one_reason = λ reason other h k. absurd h;
  is_taken = λ params says reason h. h;
}
