-- What an authority replies to the commands of a profile.
use Rattle.std.proofs.Common.{◌≡◌, ◌∙◌, ℕ, List, ap, map, refl, subst}
use Rattle.std.specs.List.{flat_map}
use Rattle.rcgen_certificate.specs.Issuers.{IssuerView}
use Rattle.authority.specs.Book.{Run, State, alike, fixed, nothing}
use Rattle.authority.specs.CommandView.{CommandView}
use Rattle.authority.specs.declared.commands.Limits.{Limits}
use Rattle.authority.specs.declared.commands.Reply.{Reply}
use Rattle.certify_core.specs.Issuing.{IsSignatureOf, issuer_of_profile}
use Rattle.certify_core.specs.CommandSpec.{IsMade}
use Rattle.certify_core.specs.Replies.{reply_line}
use Rattle.certify_core.specs.AuthorityCommands.{command_of_profile}
use Rattle.certify_core.specs.ScriptRunning.{authority_of_profile, script_running}
use Rattle.certify_profile.specs.declared.authority.AuthorityProfile.{AuthorityProfile}

-- the lines of a run from nothing on, of the authority that the profile says
pub ran : (p : AuthorityProfile) (view : IssuerView) (secret : List ℕ) (limits : Limits) (old new : State) (commands : List CommandView)
    (shown replies : List Reply) (text : List ℕ) → view ≡ issuer_of_profile p.issuer → secret ≡ p.issuer.secret → limits ≡ alike p.limit → old ≡ nothing
    → commands ≡ map command_of_profile p.commands → Run (fixed view (IsSignatureOf secret) (λ message. ⊥) limits) old commands replies new
    → shown ≡ replies → text ≡ flat_map reply_line shown → IsMade (script_running p) text
ran p view secret limits old new commands shown replies text is_view is_secret are_limits is_old are_commands run is_shown is_text =
    let is_fixed : fixed view (IsSignatureOf secret) (λ message. ⊥) limits ≡ authority_of_profile p =
    λ i. fixed (is_view i) (IsSignatureOf (is_secret i)) (λ message. ⊥) (are_limits i) in
    let by_fixed = subst (λ f. Run f old commands replies new) is_fixed run in
    let by_old = subst (λ s. Run (authority_of_profile p) s commands replies new) is_old by_fixed in
    let by_commands = subst (λ cs. Run (authority_of_profile p) nothing cs replies new) are_commands by_old in
    record { params = tt; says = tt; written = (replies, new, by_commands, is_text ∙ ap (flat_map reply_line) is_shown); no_cause = refl }
