-- The commands of a script have the same lines in reply.
use Rattle.std.proofs.Common.{◌≡◌, ℕ, suc, Bool, false, List, [], ◌∷◌, ◌++◌, cond, Option, None, Some, sym, ◌∙◌, ap, subst, refl}
use Rattle.std.specs.Prelude.{codes, decimal}
use Rattle.std.specs.List.{flat_map}
use Rattle.std.specs.Option.{option_map}
use Rattle.asn1_core.specs.Binds.{some_is}
use Rattle.asn1_core.proofs.Written.{once}
use Rattle.rcgen_text.specs.Causes.{Cause, Origin, cause, key, memory}
use Rattle.rcgen_certificate.specs.Issue.{Issues, Refuses, first_cause}
use Rattle.rcgen_certificate.specs.Signed.{FitsOnce}
use Rattle.rcgen_certificate.proofs.Once.{one_issued}
use Rattle.rcgen_issue.specs.Lists.{IssuesCrl, RefusesCrl, first_crl_cause}
use Rattle.rcgen_issue.proofs.ListsOnce.{one_issued_list}
use Rattle.authority.specs.Asks.{asked_crl, asked_params}
use Rattle.authority.specs.Book.{Fixed, IsCauseOf, IsFirst, RefusalCause, Run, State, Step}
use Rattle.authority.specs.Book.{already_revoked, full, is_full, refusal_cause, refused, revocation_cause, unknown_serial}
use Rattle.authority.specs.CommandView.{CommandView, to_issue, to_list, to_revoke}
use Rattle.authority.specs.declared.commands.Refusal.{Refusal}
use Rattle.authority.specs.declared.commands.Reply.{Reply}
use Rattle.authority.specs.declared.commands.Reply.TheVariants as replies
use Rattle.certify_core.specs.Lines.{refused_line}
use Rattle.certify_core.specs.Replies.{numbered_line, refusal_name, reply_line}

abbrev pub NeverRefuses : Fixed → Type 0
NeverRefuses f = (message : List ℕ) → f.may_refuse message → ⊥

-- ---- refusals

-- the limit is reached, else there is a cause
abbrev limit_or : Bool → Option Cause → Option RefusalCause
limit_or reached found = cond reached (Some full) (option_map (λ c. refused (cause c)) found)

-- where the key doesn't refuse
cause_is : (found : Option Cause) (R : Type 0) → (R → ⊥) → (o : Origin) → IsCauseOf found R o → limit_or false found ≡ Some (refused o)
cause_is found R n memory v = absurd v
cause_is found R n key v = absurd (n v.1)
cause_is found R n (cause c) v = ap (limit_or false) v

first_is : (reached : Bool) (found : Option Cause) (R : Type 0) → (R → ⊥) → (w : RefusalCause) → IsFirst reached (IsCauseOf found R) w
    → limit_or reached found ≡ Some w
first_is reached found R n full v = ap (λ b. limit_or b found) v
first_is reached found R n unknown_serial v = absurd v
first_is reached found R n already_revoked v = absurd v
first_is reached found R n (refused o) v = ap (λ b. limit_or b found) v.0 ∙ cause_is found R n o v.1

-- ---- steps

-- why a command is refused
abbrev cause_against : Fixed → State → CommandView → Option RefusalCause
cause_against f s (to_issue subject name from until) =
    limit_or (is_full f.limits.certificates s.issued) (first_cause (asked_params (suc s.issued) name from until) f.issuer.name)
cause_against f s (to_revoke serial at reason) = revocation_cause s serial at
cause_against f s (to_list this next) = limit_or (is_full f.limits.lists s.lists) (first_crl_cause (asked_crl (suc s.lists) this next s.entries) f.issuer)

-- why it was, by the reply
abbrev cause_in : Reply → Option RefusalCause
cause_in (replies.Refused r) = Some (refusal_cause r)
cause_in _ = None

cause_told : (f : Fixed) → NeverRefuses f → (s new : State) (c : CommandView) (r : Reply) → Step f s c r new → cause_against f s c ≡ cause_in r
cause_told f never s new (to_issue subject name from until) (replies.Issued n der) v =
    let none = subst (λ m. first_cause (asked_params m name from until) f.issuer.name ≡ None) v.1 v.2.no_cause in
    λ i. limit_or (v.0 i) (none i)
cause_told f never s new (to_issue subject name from until) (replies.Refused r) v =
    first_is (is_full f.limits.certificates s.issued) (first_cause (asked_params (suc s.issued) name from until) f.issuer.name)
    (Refuses (asked_params (suc s.issued) name from until) subject f.issuer f.may_refuse) (λ k. never k.2.message k.2.refused) (refusal_cause r) v.1
cause_told f never s new (to_revoke serial at reason) (replies.Revoked n) v = v.0
cause_told f never s new (to_revoke serial at reason) (replies.Refused r) v = v.1
cause_told f never s new (to_list this next) (replies.Listed n der) v =
    let none = subst (λ m. first_crl_cause (asked_crl m this next s.entries) f.issuer ≡ None) v.1 v.2.no_cause in
    λ i. limit_or (v.0 i) (none i)
cause_told f never s new (to_list this next) (replies.Refused r) v =
    first_is (is_full f.limits.lists s.lists) (first_crl_cause (asked_crl (suc s.lists) this next s.entries) f.issuer)
    (RefusesCrl (asked_crl (suc s.lists) this next s.entries) f.issuer f.may_refuse) (λ k. never k.2.message k.2.refused) (refusal_cause r) v.1
cause_told f never s new _ _ v = absurd v

unchanged : (f : Fixed) (s new : State) (c : CommandView) (r : Refusal) → Step f s c (replies.Refused r) new → new ≡ s
unchanged f s new (to_issue subject name from until) r v = v.0
unchanged f s new (to_revoke serial at reason) r v = v.0
unchanged f s new (to_list this next) r v = v.0

-- what is replied, and the states that follow
abbrev Alike : Reply → Reply → State → State → Type 0
Alike r q new other = (reply_line r ≡ reply_line q) × (new ≡ other)

step_alike : (f : Fixed) → FitsOnce f.fits → (s new other : State) (c : CommandView) (r q : Reply) → cause_in r ≡ cause_in q → Step f s c r new
    → Step f s c q other → Alike r q new other
step_alike f one s new other (to_issue subject name from until) (replies.Issued n der) (replies.Issued m octets) e v w =
    let number : n ≡ m = v.1 ∙ sym w.1 in
    let moved = subst (λ k. Issues (asked_params k name from until) subject f.issuer f.fits der) number v.2.issued in
    let same = one_issued once (asked_params m name from until) subject f.issuer f.fits one der octets moved w.2.issued in
    (λ i. numbered_line (codes "issued") (number i) (same i), v.3 ∙ ap (λ k. record s { issued = k }) number ∙ sym w.3)
step_alike f one s new other (to_revoke serial at reason) (replies.Revoked n) (replies.Revoked m) e v w =
    (ap (λ k. codes "revoked " ++ decimal k ++ codes "\n") (v.1 ∙ sym w.1), v.2 ∙ sym w.2)
step_alike f one s new other (to_list this next) (replies.Listed n der) (replies.Listed m octets) e v w =
    let number : n ≡ m = v.1 ∙ sym w.1 in
    let moved = subst (λ k. IssuesCrl (asked_crl k this next s.entries) f.issuer f.fits der) number v.2.listed in
    let same = one_issued_list once (asked_crl m this next s.entries) f.issuer f.fits one der octets moved w.2.listed in
    (λ i. numbered_line (codes "list") (number i) (same i), v.3 ∙ ap (λ k. record s { lists = k }) number ∙ sym w.3)
step_alike f one s new other c (replies.Refused r) (replies.Refused q) e v w =
    (ap (λ k. refused_line (refusal_name k)) (some_is (refusal_cause r) (refusal_cause q) e), unchanged f s new c r v ∙ sym (unchanged f s other c q w))
step_alike f one s new other c (replies.Refused r) _ e v w = absurd cc
step_alike f one s new other c _ (replies.Refused q) e v w = absurd cc
step_alike f one s new other (to_issue subject name from until) (replies.Issued n der) _ e v w = absurd w
step_alike f one s new other (to_revoke serial at reason) (replies.Revoked n) _ e v w = absurd w
step_alike f one s new other (to_list this next) (replies.Listed n der) _ e v w = absurd w
step_alike f one s new other _ _ _ e v w = absurd v

-- from one state on, where one signature alone fits each message and the key refuses nothing
pub same_script_text : (f : Fixed) → FitsOnce f.fits → NeverRefuses f → (old new other : State) (cs : List CommandView) (rs qs : List Reply)
    → Run f old cs rs new → Run f old cs qs other → flat_map reply_line rs ≡ flat_map reply_line qs
same_script_text f one never old new other [] [] [] v w = refl
same_script_text f one never old new other [] [] (q ∷ qs) v w = absurd w
same_script_text f one never old new other [] (r ∷ rs) qs v w = absurd v
same_script_text f one never old new other (c ∷ cs) [] qs v w = absurd v
same_script_text f one never old new other (c ∷ cs) (r ∷ rs) [] v w = absurd w
same_script_text f one never old new other (c ∷ cs) (r ∷ rs) (q ∷ qs) v w =
    let cause = sym (cause_told f never old v.0 c r v.1) ∙ cause_told f never old w.0 c q w.1 in
    let step = step_alike f one old v.0 w.0 c r q cause v.1 w.1 in
    let moved = subst (λ s. Run f s cs qs other) (sym step.1) w.2 in
    let others = same_script_text f one never v.0 new other cs rs qs v.2 moved in
    λ i. step.0 i ++ others i
