-- The steps of a certificate at its place (RFC 5280, 6.1.3 to 6.1.5): when each fails, and what follows where none does.
use Rattle.std.specs.Prelude.{Bool, List, None, Option, Some, cond, false, find, length, not, true, ℕ, [], ◌&&◌, ◌==◌, ◌||◌, ◌∷◌}
use Rattle.std.specs.List.{list_any, slice_get}
use Rattle.std.specs.Str.{bytes_eq}
use Rattle.asn1_core.specs.Bits.{Bits, has_bit}
use Rattle.pkix_cert.specs.Algorithms.{subject_public_key_info}
use Rattle.pkix_cert.specs.Views.{CertificateParts}
use Rattle.pkix_cert.specs.declared.constraint.BasicConstraints.{BasicConstraints}
use Rattle.pkix_trust.specs.declared.policy.PolicyMapping.{PolicyMapping}
use Rattle.path_names.specs.NameMatching.{names_match}
use Rattle.path_policies.specs.Levels.{authority_constrained, is_null, maps_any, user_constrained}
use Rattle.path_policies.specs.Policies.{Policy, is_any}
use Rattle.pkix_cert.specs.Times.{moment_of}
use Rattle.path_validation.specs.Certificates.{is_self_issued, is_version_3, read_certificate}
use Rattle.path_validation.specs.Extensions.{is_unprocessed_critical}
use Rattle.path_revocation.specs.Lists.{Accepts, encoding_of}
use Rattle.path_revocation.specs.Times.{is_earlier}
use Rattle.path_validation.specs.Keys.{key_after}
use Rattle.path_validation.specs.Limits.{has_few_attributes, has_many_pairs}
use Rattle.path_validation.specs.Names.{has_unprocessed, is_all_permitted, is_some_excluded, names_of, too_much}
use Rattle.path_validation.specs.States.{last_explicit_policy, next_state, with_policies_of}
use Rattle.path_validation.specs.declared.certificate.Identity.{Identity}
use Rattle.path_validation.specs.declared.certificate.PathCertificate.{PathCertificate}
use Rattle.path_validation.specs.declared.error.PathReason.{PathReason}
use Rattle.path_validation.specs.declared.error.PathReason.TheVariants as reason
use Rattle.path_validation.specs.declared.inputs.PathInputs.{PathInputs}
use Rattle.path_revocation.specs.declared.status.RevocationStatus.{RevocationStatus}
use Rattle.path_revocation.specs.declared.status.RevocationStatus.TheVariants.{Good, Revoked, Undetermined}
use Rattle.path_validation.specs.declared.inputs.ValidPath.{ValidPath}
use Rattle.path_validation.specs.declared.state.State.{State}
use Rattle.path_validation.specs.declared.step.Step.{Step}
use Rattle.path_validation.specs.declared.step.Step.TheVariants.{Fails, Passes, Ends}

-- ---- 6.1.3 (a): the certificate itself

-- 4.1.1.2: the algorithm within what is signed isn't the one after it
abbrev pub algorithms_differ : CertificateParts → Bool
algorithms_differ p = not (bytes_eq p.tbs_signature p.signature_algorithm)

abbrev pub accepts_under : (List ℕ → Bool) → Option (List ℕ) → Bool
accepts_under accepts None = false
accepts_under accepts (Some key) = accepts key

-- (1): the signature has whole octets, and is accepted of the very octets that are signed, under the working key
unfoldable pub is_signed : Accepts → CertificateParts → Bits → State → Bool
is_signed accepts p signature s =
    (signature.unused == 0)
    && accepts_under (λ key. accepts p.tbs key p.signature_algorithm signature.bytes) (encoding_of subject_public_key_info s.working_public_key)

-- (3)
abbrev pub status_or : RevocationStatus → Option RevocationStatus → RevocationStatus
status_or other None = other
status_or other (Some status) = status

-- of the certificate after so many: good where revocation isn't asked, and undetermined where it is asked and the
-- certificate has no status
abbrev pub status_at : Option (List RevocationStatus) → ℕ → RevocationStatus
status_at None passed = Good
status_at (Some statuses) passed = status_or Undetermined (slice_get statuses passed)

abbrev pub is_revoked : RevocationStatus → Bool
is_revoked Good = false
is_revoked (Revoked at why) = true
is_revoked Undetermined = false

abbrev pub is_undetermined : RevocationStatus → Bool
is_undetermined Good = false
is_undetermined (Revoked at why) = false
is_undetermined Undetermined = true

-- (4): a part of its issuer or of its subject has more attributes than are compared
abbrev pub has_wide_name : Identity → Bool
has_wide_name c = not (has_few_attributes c.issuer && has_few_attributes c.subject)

-- that, or there are more pairs of policies than are compared
abbrev pub is_too_wide : PathInputs → State → PathCertificate → Bool
is_too_wide x s c = has_wide_name c.identity || has_many_pairs x.user_initial_policy_set s.valid_policy_levels c.statements.policies

-- where they can be compared
abbrev pub is_issued_by_another : Identity → State → Bool
is_issued_by_another c s = not (has_wide_name c) && not (names_match c.issuer s.working_issuer_name)

-- ---- 6.1.4 (a) and (k) to (o): one that issued another

-- (a)
abbrev pub maps_any_in : Option (List PolicyMapping) → Bool
maps_any_in None = false
maps_any_in (Some ms) = maps_any ms

-- (k): a CA's, of version 3
abbrev pub is_ca : Option BasicConstraints → Bool
is_ca None = false
is_ca (Some b) = b.ca

-- (n): bit 5 is keyCertSign
abbrev pub lacks_cert_sign : Option Bits → Bool
lacks_cert_sign None = false
lacks_cert_sign (Some usage) = not (has_bit usage 5)

-- (o), 6.1.5 (f)
abbrev pub has_unprocessed_critical : CertificateParts → Bool
has_unprocessed_critical p = list_any is_unprocessed_critical p.extensions

-- ---- 6.1.5 (g)

-- a set with anyPolicy in it is any-policy (6.1.1 (c))
abbrev pub users_policies : Option (List Policy) → Option (List Policy)
users_policies None = None
users_policies (Some ps) = cond (list_any is_any ps) None (Some ps)

unfoldable pub users_of : PathInputs → State → List Policy
users_of x s = user_constrained (users_policies x.user_initial_policy_set) s.valid_policy_levels

-- 6.1.6
unfoldable pub given_by : PathInputs → State → PathCertificate → ValidPath
given_by x s c = record {
  authority_constrained_policies = authority_constrained s.valid_policy_levels;
  user_constrained_policies = users_of x s;
  key_info = key_after s.working_public_key c.identity.key_info;
}

-- ---- a certificate at its place

-- after so many, in the state that these leave
pub record Place : Type 0 where
  pub passed : ℕ
  pub is_last : Bool
  pub state : State
  pub parts : CertificateParts
  pub certificate : PathCertificate

-- self-issued and not the last
abbrev pub is_between : Place → Bool
is_between at = is_self_issued at.certificate.identity && not at.is_last

-- after 6.1.3 (d) and (e)
abbrev pub with_policies_at : Place → State
with_policies_at at = with_policies_of at.state at.is_last at.certificate

-- the step fails there
abbrev pub breaks : Accepts → PathInputs → Place → PathReason → Bool
breaks accepts x at reason.Empty = false
breaks accepts x at reason.BadExtension = false
breaks accepts x at reason.AlgorithmsDiffer = algorithms_differ at.parts
breaks accepts x at reason.BadSignature = not (is_signed accepts at.parts at.certificate.identity.signature at.state)
breaks accepts x at reason.NotYetValid = is_earlier x.at (moment_of at.certificate.identity.validity.not_before)
breaks accepts x at reason.Expired = is_earlier (moment_of at.certificate.identity.validity.not_after) x.at
breaks accepts x at reason.Revoked = is_revoked (status_at x.statuses at.passed)
breaks accepts x at reason.Undetermined = is_undetermined (status_at x.statuses at.passed)
breaks accepts x at reason.NameMismatch = is_issued_by_another at.certificate.identity at.state
breaks accepts x at reason.TooMuchWork =
    is_too_wide x at.state at.certificate
    || (not (is_between at) && too_much (names_of at.certificate) at.state.permitted_subtrees at.state.excluded_subtrees)
breaks accepts x at reason.UnprocessedNameForm =
    not (is_between at) && has_unprocessed (names_of at.certificate) at.state.permitted_subtrees at.state.excluded_subtrees
breaks accepts x at reason.NotPermitted = not (is_between at) && not (is_all_permitted (names_of at.certificate) at.state.permitted_subtrees)
breaks accepts x at reason.Excluded = not (is_between at) && is_some_excluded (names_of at.certificate) at.state.excluded_subtrees
breaks accepts x at reason.NoPolicy = (at.state.explicit_policy == 0) && is_null (with_policies_at at).valid_policy_levels
breaks accepts x at reason.MappedAnyPolicy = not at.is_last && maps_any_in at.certificate.statements.policies.mappings
breaks accepts x at reason.NotCa = not at.is_last && not (is_version_3 at.parts && is_ca at.certificate.statements.ca.basic_constraints)
breaks accepts x at reason.PathTooLong = not at.is_last && (at.state.max_path_length == 0) && not (is_self_issued at.certificate.identity)
breaks accepts x at reason.NoCertSign = not at.is_last && lacks_cert_sign at.certificate.statements.ca.key_usage
breaks accepts x at reason.UnprocessedCritical = has_unprocessed_critical at.parts
breaks accepts x at reason.NoUserPolicy =
    at.is_last && (last_explicit_policy at.certificate at.state.explicit_policy == 0) && (length (users_of x (with_policies_at at)) == 0)

-- in their order
abbrev pub steps : List PathReason
steps =
    reason.AlgorithmsDiffer ∷ reason.BadSignature ∷ reason.NotYetValid ∷ reason.Expired ∷ reason.Revoked ∷ reason.Undetermined ∷ reason.NameMismatch
    ∷ reason.TooMuchWork ∷ reason.UnprocessedNameForm ∷ reason.NotPermitted ∷ reason.Excluded ∷ reason.NoPolicy ∷ reason.MappedAnyPolicy ∷ reason.NotCa
    ∷ reason.PathTooLong ∷ reason.NoCertSign ∷ reason.UnprocessedCritical ∷ reason.NoUserPolicy ∷ []

-- ---- what comes of it

abbrev pub failing_or : Option PathReason → Step → Step
failing_or None next = next
failing_or (Some r) next = Fails r

-- where no step fails: what the path gives, or the state that the next certificate meets
abbrev pub passing : PathInputs → Place → Step
passing x at = cond at.is_last (Ends (given_by x (with_policies_at at) at.certificate)) (Passes (next_state (with_policies_at at) at.certificate))

unfoldable pub judged : Accepts → PathInputs → Place → Step
judged accepts x at = failing_or (find (breaks accepts x at) steps) (passing x at)

abbrev pub judged_if_read : Accepts → PathInputs → ℕ → Bool → State → CertificateParts → Option PathCertificate → Step
judged_if_read accepts x passed is_last s p None = Fails reason.BadExtension
judged_if_read accepts x passed is_last s p (Some c) =
    judged accepts x (record { passed = passed; is_last = is_last; state = s; parts = p; certificate = c })

unfoldable pub step_at : Accepts → PathInputs → ℕ → Bool → State → CertificateParts → Step
step_at accepts x passed is_last s p = judged_if_read accepts x passed is_last s p (read_certificate p)
