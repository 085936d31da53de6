-- Why a step of path validation may fail at a certificate that was issued, the last of its path (RFC 5280, 6.1.3 and 6.1.5).
use Rattle.std.specs.Prelude.{Bool, List, None, Option, Some, false, nat_le, nat_lt, not, true, ℕ, ◌||◌, ◌==◌, ◌≡◌, ◌⊎◌, ◌*◌, ◌+◌}
use Rattle.std.specs.List.{list_any}
use Rattle.jiff.specs.Types.{DateTime}
use Rattle.der_tree.specs.Form.{IsDerOf}
use Rattle.pkix_cert.specs.Algorithms.{algorithm_identifier, subject_public_key_info}
use Rattle.pkix_cert.specs.Times.{moment_of}
use Rattle.pkix_cert.specs.declared.time.Time.{Time}
use Rattle.pkix_name.specs.declared.name.Name.{Name}
use Rattle.path_revocation.specs.Lists.{Accepts}
use Rattle.path_revocation.specs.Times.{is_earlier}
use Rattle.path_policies.specs.Growth.{levels_size}
use Rattle.path_validation.specs.Limits.{count_of, has_few_attributes, most_pairs, most_policies}
use Rattle.path_validation.specs.Names.{count_in}
use Rattle.path_validation.specs.Steps.{is_revoked, is_undetermined, status_at}
use Rattle.path_validation.specs.declared.error.PathReason.{PathReason}
use Rattle.path_validation.specs.declared.error.PathReason.TheVariants as reason
use Rattle.path_validation.specs.declared.inputs.PathInputs.{PathInputs}
use Rattle.rcgen_certificate.specs.Issuers.{IssuerView}
use Rattle.rcgen_certificate.specs.KeyValues.{signature_identifier}
use Rattle.rcgen_certificate.specs.ParamsView.{ParamsView}
use Rattle.rcgen_certificate.specs.WrittenTimes.{IsWrittenInstant}
use Rattle.issued_path.specs.Types.{PathState}
use Rattle.issued_path.specs.Own.{are_unreadable, is_policy_constraints, is_unknown_critical}

-- ---- who issued it

-- the verifier accepts the signature over the message under the issuer's key, by the algorithm of its signatures
abbrev pub IsAccepted : Accepts → IssuerView → List ℕ → List ℕ → Type 0
IsAccepted accepts issuer message signature =
    (algorithm : List ℕ) → IsDerOf algorithm_identifier (signature_identifier issuer.algorithm) algorithm
    → accepts message issuer.info algorithm signature ≡ true

-- the issuer's name and key are those of the state (6.1.2 (g) and (j), 6.1.4 (c) and (d))
pub record IsWorking (issuer : IssuerView) (s : PathState) : Type 0 where
  pub name : issuer.name ≡ Some s.working_issuer_name
  pub key : IsDerOf subject_public_key_info s.working_public_key issuer.info

-- ---- times

-- the start of the validity, as it is written, is later
abbrev pub IsBefore : DateTime → ParamsView → Type 0
IsBefore at params = (start : Time) × IsWrittenInstant params.not_before start × (is_earlier at (moment_of start) ≡ true)

-- its end is earlier
abbrev pub IsAfter : DateTime → ParamsView → Type 0
IsAfter at params = (end : Time) × IsWrittenInstant params.not_after end × (is_earlier (moment_of end) at ≡ true)

-- ---- what the certificates before it leave

-- subtrees constrain its names
abbrev pub is_constrained : PathState → Bool
is_constrained s = not (count_in s.permitted_subtrees == 0) || not (count_in s.excluded_subtrees == 0)

-- a part of the issuer's name has more attributes than are compared
abbrev pub is_wide : PathState → Bool
is_wide s = not (has_few_attributes s.working_issuer_name)

-- so does a part of the subject's name, where it has one of its own; each part of the parameters' has one attribute
abbrev pub is_wide_subject : Option Name → Bool
is_wide_subject None = false
is_wide_subject (Some name) = not (has_few_attributes name)

-- the user's policies and those that are valid so far are more than are compared with them and with as many as a certificate may have (6.1.3 (d), 6.1.5 (g))
abbrev pub has_many_policies : PathInputs → PathState → Bool
has_many_policies x s =
    let path = levels_size s.valid_policy_levels in
    nat_lt most_pairs ((count_of x.user_initial_policy_set + path) * (path + most_policies))

-- an explicit policy is asked of it
abbrev pub asks_policy : PathState → Bool
asks_policy s = nat_le s.explicit_policy 1

-- ---- the causes

-- At the certificate after so many, in the state that they leave: the time, its status, the constraints and the policies that its path puts on it, the
-- issuer's own extensions, or more names, attributes or policies than are compared. Signatures, algorithms, the name of the issuer and what the issue
-- table makes of the parameters are no causes.
abbrev pub Cause : PathInputs → ℕ → PathState → ParamsView → Option Name → PathReason → Type 0
Cause x passed s params name reason.Empty = ⊥
Cause x passed s params name reason.BadExtension = are_unreadable params.custom_extensions ≡ true
Cause x passed s params name reason.AlgorithmsDiffer = ⊥
Cause x passed s params name reason.BadSignature = ⊥
Cause x passed s params name reason.NotYetValid = IsBefore x.at params
Cause x passed s params name reason.Expired = IsAfter x.at params
Cause x passed s params name reason.Revoked = is_revoked (status_at x.statuses passed) ≡ true
Cause x passed s params name reason.Undetermined = is_undetermined (status_at x.statuses passed) ≡ true
Cause x passed s params name reason.NameMismatch = ⊥
Cause x passed s params name reason.TooMuchWork = (is_wide s ≡ true) ⊎ ((is_wide_subject name ≡ true) ⊎ ((has_many_policies x s ≡ true) ⊎ (is_constrained s ≡ true)))
Cause x passed s params name reason.UnprocessedNameForm = is_constrained s ≡ true
Cause x passed s params name reason.NotPermitted = is_constrained s ≡ true
Cause x passed s params name reason.Excluded = is_constrained s ≡ true
Cause x passed s params name reason.NoPolicy = asks_policy s ≡ true
Cause x passed s params name reason.MappedAnyPolicy = ⊥
Cause x passed s params name reason.NotCa = ⊥
Cause x passed s params name reason.PathTooLong = ⊥
Cause x passed s params name reason.NoCertSign = ⊥
Cause x passed s params name reason.UnprocessedCritical = list_any is_unknown_critical params.custom_extensions ≡ true
Cause x passed s params name reason.NoUserPolicy = (asks_policy s ≡ true) ⊎ (list_any is_policy_constraints params.custom_extensions ≡ true)
