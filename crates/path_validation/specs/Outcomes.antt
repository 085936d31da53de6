-- What comes of a path (RFC 5280, 6.1.6): its policies and its key, or the first step that fails.
use Rattle.std.specs.Prelude.{Bool, Err, List, None, Ok, Option, Result, Some, false, length, suc, true, zero, ℕ, ◌&&◌, ◌+◌, ◌<◌, [], ◌==◌, ◌∷◌, ◌≡◌, ◌⊎◌}
use Rattle.asn1_core.specs.Binds.{◌>>=◌}
use Rattle.pkix_cert.specs.Views.{CertificateParts}
use Rattle.path_validation.specs.Certificates.{read_certificate}
use Rattle.path_validation.specs.States.{first_state, next_state, with_policies_of}
use Rattle.path_revocation.specs.Lists.{Accepts}
use Rattle.path_validation.specs.Steps.{breaks, given_by, step_at}
use Rattle.path_validation.specs.declared.certificate.PathCertificate.{PathCertificate}
use Rattle.path_validation.specs.declared.error.PathError.{PathError}
use Rattle.path_validation.specs.declared.error.PathError.TheVariants.{Fault, OutOfMemory}
use Rattle.path_validation.specs.declared.error.PathReason.{PathReason}
use Rattle.path_validation.specs.declared.error.PathReason.TheVariants as reason
use Rattle.path_validation.specs.declared.inputs.PathInputs.{PathInputs}
use Rattle.path_validation.specs.declared.inputs.ValidPath.{ValidPath}
use Rattle.path_validation.specs.declared.state.State.{State}
use Rattle.path_validation.specs.declared.step.Step.{Step}
use Rattle.path_validation.specs.declared.step.Step.TheVariants.{Fails, Passes, Ends}

pub data Outcome : Type 0 where
  valid : ValidPath → Outcome
  invalid : ℕ → PathReason → Outcome

-- after a step at a place: the outcome of what follows, or the end
abbrev pub behind : ℕ → Step → (State → Outcome) → Outcome
behind i (Fails r) follow = invalid i r
behind i (Ends v) follow = valid v
behind i (Passes s) follow = follow s

-- after so many certificates, from the next one on
abbrev pub outcome_from : Accepts → PathInputs → ℕ → State → List CertificateParts → Outcome
outcome_from accepts x passed s [] = invalid 1 reason.Empty
outcome_from accepts x passed s (p ∷ ps) = behind (passed + 1) (step_at accepts x passed (length ps == 0) s p) (λ t. outcome_from accepts x (passed + 1) t ps)

-- from the certificate that the anchor issued to the one to validate
abbrev pub outcome : Accepts → PathInputs → List CertificateParts → Outcome
outcome accepts x ps = outcome_from accepts x 0 (first_state x (length ps)) ps

-- the answer, where memory doesn't run out
abbrev pub Tells : Result ValidPath PathError → Outcome → Type 0
Tells (Ok v) o = valid v ≡ o
Tells (Err (Fault place r)) o = invalid place r ≡ o
Tells (Err OutOfMemory) o = Unit {0}

-- ---- the same without an order of steps: which reasons hold, and where

-- the number of a reason, in the order of the steps
abbrev pub reason_number : PathReason → ℕ
reason_number reason.Empty = 1
reason_number reason.BadExtension = 2
reason_number reason.AlgorithmsDiffer = 3
reason_number reason.BadSignature = 4
reason_number reason.NotYetValid = 5
reason_number reason.Expired = 6
reason_number reason.Revoked = 7
reason_number reason.Undetermined = 8
reason_number reason.NameMismatch = 9
reason_number reason.TooMuchWork = 10
reason_number reason.UnprocessedNameForm = 11
reason_number reason.NotPermitted = 12
reason_number reason.Excluded = 13
reason_number reason.NoPolicy = 14
reason_number reason.MappedAnyPolicy = 15
reason_number reason.NotCa = 16
reason_number reason.PathTooLong = 17
reason_number reason.NoCertSign = 18
reason_number reason.UnprocessedCritical = 19
reason_number reason.NoUserPolicy = 20

-- of a certificate after so many, in the state that these leave: it can't be read, or a step fails
abbrev pub holds_here : Accepts → PathInputs → ℕ → Bool → State → CertificateParts → Option PathCertificate → PathReason → Bool
holds_here accepts x passed is_last s p None r = reason_number r == 2
holds_here accepts x passed is_last s p (Some c) r = breaks accepts x (record { passed = passed; is_last = is_last; state = s; parts = p; certificate = c }) r

-- the state after a certificate that isn't the last
abbrev pub state_behind : State → PathCertificate → State
state_behind s c = next_state (with_policies_of s false c) c

-- what holds after a certificate: nothing where that can't be read, since no state follows
abbrev pub if_read : Option PathCertificate → (PathCertificate → Bool) → Bool
if_read None follow = false
if_read (Some c) follow = follow c

-- of the certificate `k` places further on, after `passed` others, in the state that these others leave
abbrev pub holds_from : Accepts → PathInputs → ℕ → State → List CertificateParts → ℕ → PathReason → Bool
holds_from accepts x passed s [] k r = false
holds_from accepts x passed s (p ∷ ps) zero r = holds_here accepts x passed (length ps == 0) s p (read_certificate p) r
holds_from accepts x passed s (p ∷ ps) (suc k) r = if_read (read_certificate p) (λ c. holds_from accepts x (passed + 1) (state_behind s c) ps k r)

-- the reason holds at the place: 1 is the certificate that the anchor issued
abbrev pub holds : Accepts → PathInputs → List CertificateParts → ℕ → PathReason → Bool
holds accepts x ps zero r = false
holds accepts x [] (suc k) r = (k == 0) && (reason_number r == 1)
holds accepts x (p ∷ ps) (suc k) r = holds_from accepts x 0 (first_state x (length (p ∷ ps))) (p ∷ ps) k r

-- place by place, and at a place in the order of the steps
abbrev pub ComesBefore : ℕ → PathReason → ℕ → PathReason → Type 0
ComesBefore j earlier i later = (j < i) ⊎ ((j ≡ i) × (reason_number earlier < reason_number later))

-- what the path gives after its last certificate (6.1.6)
abbrev pub given_from : PathInputs → State → List CertificateParts → Option ValidPath
given_from x s [] = None
given_from x s (p ∷ []) = read_certificate p >>= λ c. Some (given_by x (with_policies_of s true c) c)
given_from x s (p ∷ q ∷ ps) = read_certificate p >>= λ c. given_from x (state_behind s c) (q ∷ ps)

abbrev pub given : PathInputs → List CertificateParts → Option ValidPath
given x ps = given_from x (first_state x (length ps)) ps

-- no step fails at any place, and that is what the path gives
pub record IsValid (accepts : Accepts) (x : PathInputs) (ps : List CertificateParts) (v : ValidPath) : Type 0 where
  pub no_reason : (i : ℕ) (r : PathReason) → holds accepts x ps i r ≡ false
  pub gives : given x ps ≡ Some v

-- the reason holds at the place, and none holds that comes before it
pub record IsFirst (accepts : Accepts) (x : PathInputs) (ps : List CertificateParts) (i : ℕ) (r : PathReason) : Type 0 where
  pub holds_there : holds accepts x ps i r ≡ true
  pub none_before : (j : ℕ) (earlier : PathReason) → ComesBefore j earlier i r → holds accepts x ps j earlier ≡ false
