-- The same, as the private steps answer it one after the other; no promise cites this.
use Rattle.std.specs.Prelude.{Bool, List, None, Option, Some, cond, length, not, ℕ, ◌&&◌, ◌==◌}
use Rattle.std.specs.Option.{option_or}
use Rattle.jiff.specs.Types.{DateTime}
use Rattle.pkix_cert.specs.Views.{CertificateParts}
use Rattle.pkix_cert.specs.declared.time.Validity.{Validity}
use Rattle.path_policies.specs.Levels.{authority_constrained, is_null}
use Rattle.path_policies.specs.Policies.{Policy}
use Rattle.pkix_cert.specs.Times.{moment_of}
use Rattle.path_validation.specs.Certificates.{is_self_issued, is_version_3}
use Rattle.path_validation.specs.Keys.{key_after}
use Rattle.path_validation.specs.Names.{Sets, has_unprocessed, is_all_permitted, is_some_excluded, names_of, too_much}
use Rattle.path_validation.specs.States.{last_explicit_policy, next_state, with_policies_of}
use Rattle.path_revocation.specs.Lists.{Accepts}
use Rattle.path_revocation.specs.Times.{is_earlier}
use Rattle.path_validation.specs.Steps.{algorithms_differ, failing_or, given_by, has_unprocessed_critical, is_ca}
use Rattle.path_validation.specs.Steps.{is_issued_by_another, is_signed, is_too_wide, lacks_cert_sign, maps_any_in, status_at, users_of}
use Rattle.path_validation.specs.declared.certificate.PathCertificate.{PathCertificate}
use Rattle.path_validation.specs.declared.error.PathReason.{PathReason}
use Rattle.path_validation.specs.declared.error.PathReason.TheVariants as reason
use Rattle.path_validation.specs.declared.inputs.PathInputs.{PathInputs}
use Rattle.path_revocation.specs.declared.status.RevocationStatus.{RevocationStatus}
use Rattle.path_revocation.specs.declared.status.RevocationStatus.TheVariants.{Good, Revoked, Undetermined}
use Rattle.path_validation.specs.declared.inputs.ValidPath.{ValidPath}
use Rattle.path_validation.specs.declared.state.State.{State}
use Rattle.path_validation.specs.declared.step.Step.{Step}
use Rattle.path_validation.specs.declared.step.Step.TheVariants.{Fails, Passes, Ends}
use Rattle.pkix_name.specs.declared.general_name.GeneralName.{GeneralName}

-- ---- 6.1.3 (a)

unfoldable pub validity_reason : DateTime → Validity → Option PathReason
validity_reason at v =
    cond (is_earlier at (moment_of v.not_before)) (Some reason.NotYetValid) (cond (is_earlier (moment_of v.not_after) at) (Some reason.Expired) None)

abbrev pub reason_of : RevocationStatus → Option PathReason
reason_of Good = None
reason_of (Revoked at why) = Some reason.Revoked
reason_of Undetermined = Some reason.Undetermined

-- of the certificate after so many
unfoldable pub status_reason : PathInputs → ℕ → Option PathReason
status_reason x passed = reason_of (status_at x.statuses passed)

unfoldable pub basic_reason : Accepts → PathInputs → ℕ → State → CertificateParts → PathCertificate → Option PathReason
basic_reason accepts x passed s p c =
    cond (algorithms_differ p) (Some reason.AlgorithmsDiffer)
    (cond (not (is_signed accepts p c.identity.signature s)) (Some reason.BadSignature)
    (option_or (validity_reason x.at c.identity.validity)
    (option_or (status_reason x passed)
    (cond (is_issued_by_another c.identity s) (Some reason.NameMismatch) None))))

-- ---- 6.1.3 (b) and (c)

unfoldable pub first_name_reason : List GeneralName → Sets → Sets → Option PathReason
first_name_reason names permitted excluded =
    cond (too_much names permitted excluded) (Some reason.TooMuchWork)
    (cond (has_unprocessed names permitted excluded) (Some reason.UnprocessedNameForm)
    (cond (not (is_all_permitted names permitted)) (Some reason.NotPermitted)
    (cond (is_some_excluded names excluded) (Some reason.Excluded) None)))

unfoldable pub name_reason : PathCertificate → Sets → Sets → Option PathReason
name_reason c permitted excluded = first_name_reason (names_of c) permitted excluded

unfoldable pub constraint_reason : PathInputs → State → Bool → PathCertificate → Option PathReason
constraint_reason x s is_last c =
    cond (is_too_wide x s c) (Some reason.TooMuchWork)
    (cond (is_self_issued c.identity && not is_last) None (name_reason c s.permitted_subtrees s.excluded_subtrees))

-- ---- 6.1.4

unfoldable pub issuing_reason : State → CertificateParts → PathCertificate → Option PathReason
issuing_reason s p c =
    cond (maps_any_in c.statements.policies.mappings) (Some reason.MappedAnyPolicy)
    (cond (not (is_version_3 p && is_ca c.statements.ca.basic_constraints)) (Some reason.NotCa)
    (cond ((s.max_path_length == 0) && not (is_self_issued c.identity)) (Some reason.PathTooLong)
    (cond (lacks_cert_sign c.statements.ca.key_usage) (Some reason.NoCertSign) None)))

-- of the state after 6.1.3
unfoldable pub prepared : State → CertificateParts → PathCertificate → Step
prepared s p c = failing_or (issuing_reason s p c) (cond (has_unprocessed_critical p) (Fails reason.UnprocessedCritical) (Passes (next_state s c)))

-- ---- 6.1.5

abbrev pub given_with : List Policy → State → PathCertificate → ValidPath
given_with users s c = record {
  authority_constrained_policies = authority_constrained s.valid_policy_levels;
  user_constrained_policies = users;
  key_info = key_after s.working_public_key c.identity.key_info;
}

abbrev pub lacks_user_policy : PathInputs → State → PathCertificate → Bool
lacks_user_policy x s c = (last_explicit_policy c s.explicit_policy == 0) && (length (users_of x s) == 0)

unfoldable pub wrapped_up : PathInputs → State → CertificateParts → PathCertificate → Step
wrapped_up x s p c =
    cond (has_unprocessed_critical p) (Fails reason.UnprocessedCritical) (cond (lacks_user_policy x s c) (Fails reason.NoUserPolicy) (Ends (given_by x s c)))

-- ---- all of them

-- 6.1.3 (f), and what comes after it
unfoldable pub behind_policies : PathInputs → State → Bool → CertificateParts → PathCertificate → Step
behind_policies x s is_last p c =
    cond ((s.explicit_policy == 0) && is_null s.valid_policy_levels) (Fails reason.NoPolicy) (cond is_last (wrapped_up x s p c) (prepared s p c))

unfoldable pub tested : Accepts → PathInputs → ℕ → Bool → State → CertificateParts → PathCertificate → Step
tested accepts x passed is_last s p c =
    failing_or (basic_reason accepts x passed s p c)
    (failing_or (constraint_reason x s is_last c) (behind_policies x (with_policies_of s is_last c) is_last p c))
