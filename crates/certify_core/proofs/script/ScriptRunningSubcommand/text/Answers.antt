use Rattle.std.proofs.Common.{◌∙◌, ℕ, List, ap, map}
use Rattle.rcgen_sign.specs.DigestKeys.{digest_key}
use Rattle.rcgen_certificate.specs.Issuers.{key_of, view_of}
use Rattle.rcgen_certificate.specs.declared.issuer.Issuer.{Issuer}
use Rattle.authority.specs.Authorities.{issuer_of, limits_of, state_of}
use Rattle.authority.specs.Book.{alike}
use Rattle.authority.specs.CommandView.{command_view}
use Rattle.certify_core.specs.AuthorityCommands.{command_of_profile}
use Rattle.certify_core.proofs.ScriptRun.{ran}
use Rattle.certify_core.proofs.script.ScriptRunningSubcommand.text.Goals as goal

pub returns-clause-text : goal.returns-clause-text
returns-clause-text c =
    let a = c.new-authority.result in
    let start = c.new-authority.ensures in
    let view = ap (λ (i : Issuer (List ℕ)). view_of digest_key i) start.issuer ∙ c.in_ok-issuer.ensures.view in
    let secret = ap (λ (i : Issuer (List ℕ)). key_of i) start.issuer ∙ c.in_ok-issuer.ensures.key in
    let commands = ap (map command_view) c.as_slice.ensures.value ∙ c.in_ok-commands.ensures.commands ∙ ap (map command_of_profile) c.into_vec.ensures in
    ran c.args.profile (view_of digest_key (issuer_of a)) (key_of (issuer_of a)) (limits_of a) (state_of a) _ _ _ c.in_ok-replies.replies _
    view secret (start.limits ∙ ap alike c.get-limit.ensures) start.state commands c.in_ok-replies.ensures.run c.as_slice-2.ensures
    c.in_ok-reply_lines.ensures
