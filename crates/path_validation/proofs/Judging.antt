-- The private steps one after the other, and the first one in the order of the steps that fails.
use Rattle.std.specs.Prelude.{Bool, List, None, Option, Some, cond, false, find, length, not, refl, true, ℕ, [], ◌&&◌, ◌==◌, ◌||◌, ◌∷◌, ◌≡◌}
use Rattle.std.specs.Option.{option_or}
use Rattle.std.proofs.Common.{ap, sym, ◌∙◌}
use Rattle.pkix_cert.specs.Views.{CertificateParts}
use Rattle.path_policies.specs.Levels.{is_null}
use Rattle.pkix_cert.specs.Times.{moment_of}
use Rattle.path_validation.specs.Certificates.{is_self_issued, is_version_3}
use Rattle.path_validation.specs.Checks.{basic_reason, behind_policies, constraint_reason, first_name_reason, issuing_reason, name_reason, prepared, reason_of}
use Rattle.path_validation.specs.Checks.{status_reason, tested, validity_reason, wrapped_up}
use Rattle.path_validation.specs.Names.{has_unprocessed, is_all_permitted, is_some_excluded, names_of, too_much}
use Rattle.path_validation.specs.States.{last_explicit_policy, next_state, with_policies_of}
use Rattle.path_revocation.specs.Lists.{Accepts}
use Rattle.path_revocation.specs.Times.{is_earlier}
use Rattle.path_validation.specs.Steps.{Place, algorithms_differ, breaks, failing_or, given_by, has_unprocessed_critical, is_ca}
use Rattle.path_validation.specs.Steps.{is_issued_by_another, is_revoked, is_signed, is_too_wide, is_undetermined}
use Rattle.path_validation.specs.Steps.{judged, lacks_cert_sign, maps_any_in, passing}
use Rattle.path_validation.specs.Steps.{status_at, steps, users_of}
use Rattle.path_validation.specs.declared.certificate.PathCertificate.{PathCertificate}
use Rattle.path_validation.specs.declared.error.PathReason.{PathReason}
use Rattle.path_validation.specs.declared.error.PathReason.TheVariants as reason
use Rattle.path_validation.specs.declared.inputs.PathInputs.{PathInputs}
use Rattle.path_revocation.specs.declared.status.RevocationStatus.{RevocationStatus}
use Rattle.path_revocation.specs.declared.status.RevocationStatus.TheVariants.{Good, Revoked, Undetermined}
use Rattle.path_validation.specs.declared.state.State.{State}
use Rattle.path_validation.specs.declared.step.Step.{Step}
use Rattle.path_validation.specs.declared.step.Step.TheVariants.{Fails, Passes, Ends}

-- ---- one test after the other

abbrev chain : (PathReason → Bool) → List PathReason → Step → Step
chain fails [] e = e
chain fails (r ∷ rs) e = cond (fails r) (Fails r) (chain fails rs e)

next_one : (b : Bool) (r : PathReason) (o : Option PathReason) (e : Step) → failing_or (cond b (Some r) o) e ≡ cond b (Fails r) (failing_or o e)
next_one true r o e = refl
next_one false r o e = refl

found : (fails : PathReason → Bool) (rs : List PathReason) (e : Step) → failing_or (find fails rs) e ≡ chain fails rs e
found fails [] e = refl
found fails (r ∷ rs) e = next_one (fails r) r (find fails rs) e ∙ ap (λ (n : Step). cond (fails r) (Fails r) n) (found fails rs e)

-- ---- over truth values

basic : (a b c d : Bool) (status : RevocationStatus) (n : Bool) (e : Step)
    → failing_or (cond a (Some reason.AlgorithmsDiffer) (cond b (Some reason.BadSignature)
    (option_or (cond c (Some reason.NotYetValid) (cond d (Some reason.Expired) None)) (option_or (reason_of status) (cond n (Some reason.NameMismatch) None))))) e
    ≡ cond a (Fails reason.AlgorithmsDiffer) (cond b (Fails reason.BadSignature) (cond c (Fails reason.NotYetValid) (cond d (Fails reason.Expired)
    (cond (is_revoked status) (Fails reason.Revoked) (cond (is_undetermined status) (Fails reason.Undetermined) (cond n (Fails reason.NameMismatch) e))))))
basic true b c d status n e = refl
basic false true c d status n e = refl
basic false false true d status n e = refl
basic false false false true status n e = refl
basic false false false false (Revoked at why) n e = refl
basic false false false false Undetermined n e = refl
basic false false false false Good true e = refl
basic false false false false Good false e = refl

named : (wide between a b c d : Bool) (e : Step)
    → failing_or (cond wide (Some reason.TooMuchWork) (cond between None (cond a (Some reason.TooMuchWork) (cond b (Some reason.UnprocessedNameForm)
    (cond (not c) (Some reason.NotPermitted) (cond d (Some reason.Excluded) None)))))) e
    ≡ cond (wide || (not between && a)) (Fails reason.TooMuchWork) (cond (not between && b) (Fails reason.UnprocessedNameForm)
    (cond (not between && not c) (Fails reason.NotPermitted) (cond (not between && d) (Fails reason.Excluded) e)))
named true between a b c d e = refl
named false true a b c d e = refl
named false false true b c d e = refl
named false false false true c d e = refl
named false false false false false d e = refl
named false false false false true true e = refl
named false false false false true false e = refl

behind : (none last maps ca long own lacks critical zero empty : Bool) (ends passes : Step)
    → cond none (Fails reason.NoPolicy)
    (cond last (cond critical (Fails reason.UnprocessedCritical) (cond (zero && empty) (Fails reason.NoUserPolicy) ends))
    (failing_or (cond maps (Some reason.MappedAnyPolicy) (cond (not ca) (Some reason.NotCa) (cond (long && not own) (Some reason.PathTooLong)
    (cond lacks (Some reason.NoCertSign) None)))) (cond critical (Fails reason.UnprocessedCritical) passes)))
    ≡ cond none (Fails reason.NoPolicy) (cond (not last && maps) (Fails reason.MappedAnyPolicy) (cond (not last && not ca) (Fails reason.NotCa)
    (cond (not last && long && not own) (Fails reason.PathTooLong) (cond (not last && lacks) (Fails reason.NoCertSign)
    (cond critical (Fails reason.UnprocessedCritical) (cond (last && zero && empty) (Fails reason.NoUserPolicy) (cond last ends passes)))))))
behind true last maps ca long own lacks critical zero empty ends passes = refl
behind false true maps ca long own lacks critical zero empty ends passes = refl
behind false false true ca long own lacks critical zero empty ends passes = refl
behind false false false false long own lacks critical zero empty ends passes = refl
behind false false false true true false lacks critical zero empty ends passes = refl
behind false false false true true true true critical zero empty ends passes = refl
behind false false false true true true false critical zero empty ends passes = refl
behind false false false true false own true critical zero empty ends passes = refl
behind false false false true false own false critical zero empty ends passes = refl

-- ---- of a certificate

module _ (accepts : Accepts) (x : PathInputs) (passed : ℕ) (is_last : Bool) (s : State) (p : CertificateParts) (c : PathCertificate) where
  abbrev here : Place
  here = record { passed = passed; is_last = is_last; state = s; parts = p; certificate = c }

  abbrev fails : PathReason → Bool
  fails = breaks accepts x here

  abbrev first_seven : List PathReason
  first_seven =
      reason.AlgorithmsDiffer ∷ reason.BadSignature ∷ reason.NotYetValid ∷ reason.Expired ∷ reason.Revoked ∷ reason.Undetermined ∷ reason.NameMismatch ∷ []

  abbrev of_names : List PathReason
  of_names = reason.TooMuchWork ∷ reason.UnprocessedNameForm ∷ reason.NotPermitted ∷ reason.Excluded ∷ []

  abbrev others : List PathReason
  others =
      reason.NoPolicy ∷ reason.MappedAnyPolicy ∷ reason.NotCa ∷ reason.PathTooLong ∷ reason.NoCertSign ∷ reason.UnprocessedCritical ∷ reason.NoUserPolicy ∷ []

  basic_is : (e : Step) → failing_or (basic_reason accepts x passed s p c) e ≡ chain fails first_seven e
  unfolding basic_reason validity_reason status_reason
  basic_is e =
      basic (algorithms_differ p) (not (is_signed accepts p c.identity.signature s)) (is_earlier x.at (moment_of c.identity.validity.not_before))
      (is_earlier (moment_of c.identity.validity.not_after) x.at) (status_at x.statuses passed) (is_issued_by_another c.identity s) e

  named_is : (e : Step) → failing_or (constraint_reason x s is_last c) e ≡ chain fails of_names e
  unfolding constraint_reason name_reason first_name_reason
  named_is e =
      named (is_too_wide x s c) (is_self_issued c.identity && not is_last) (too_much (names_of c) s.permitted_subtrees s.excluded_subtrees)
      (has_unprocessed (names_of c) s.permitted_subtrees s.excluded_subtrees) (is_all_permitted (names_of c) s.permitted_subtrees)
      (is_some_excluded (names_of c) s.excluded_subtrees) e

  others_are : behind_policies x (with_policies_of s is_last c) is_last p c ≡ chain fails others (passing x here)
  unfolding behind_policies wrapped_up prepared issuing_reason with_policies_of
  others_are =
      let t = with_policies_of s is_last c in
      behind ((s.explicit_policy == 0) && is_null t.valid_policy_levels) is_last (maps_any_in c.statements.policies.mappings)
      (is_version_3 p && is_ca c.statements.ca.basic_constraints) (s.max_path_length == 0) (is_self_issued c.identity)
      (lacks_cert_sign c.statements.ca.key_usage) (has_unprocessed_critical p) (last_explicit_policy c s.explicit_policy == 0)
      (length (users_of x t) == 0) (Ends (given_by x t c)) (Passes (next_state t c))

  pub tested_is : tested accepts x passed is_last s p c ≡ judged accepts x here
  unfolding tested judged
  tested_is =
      basic_is (failing_or (constraint_reason x s is_last c) (behind_policies x (with_policies_of s is_last c) is_last p c))
      ∙ ap (chain fails first_seven) (named_is (behind_policies x (with_policies_of s is_last c) is_last p c))
      ∙ ap (λ (e : Step). chain fails first_seven (chain fails of_names e)) others_are
      ∙ sym (found fails steps (passing x here))
