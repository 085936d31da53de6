-- What comes of a question about a certification path (RFC 5280, 6.1).
use Rattle.std.specs.Prelude.{◌≡◌, ℕ, ◌+◌, ◌-◌, ◌==◌, Bool, true, false, cond, if◌then◌else◌, List, length, ◌++◌, codes, decimal, Option, Some, None, Result, Ok, Err}
use Rattle.jiff.specs.Types.{DateTime}
use Rattle.jiff.specs.Words.{civil_nanos}
use Rattle.pkix_cert.specs.Views.{CertificateParts}
use Rattle.path_validation.specs.Outcomes.{Outcome, invalid, outcome, valid}
use Rattle.path_validation.specs.declared.error.PathReason.{PathReason}
use Rattle.path_validation.specs.declared.error.PathReason.TheVariants as reason
use Rattle.path_validation.specs.declared.inputs.PathInputs.{PathInputs}
use Rattle.pkix_cert.specs.declared.revocation.CertificateList.{CertificateList}
use Rattle.shelf_fault.specs.Faults.{MayFail}
use Rattle.shelf_fault.specs.declared.fault.Fault.{Fault}
use Rattle.shelf_fault.specs.declared.fault.Fault.TheVariants.{OutOfMemory}
use Rattle.shelf_path.specs.Asked.{Asked, inputs_at}
use Rattle.shelf_path.specs.ListIssuers.{accepts_signature}
use Rattle.shelf_path.specs.Revocations.{first_bad}
use Rattle.shelf_path.specs.declared.revocation.BadStatus.{BadStatus}
use Rattle.shelf_path.specs.declared.verdict.Verdict.{Verdict}
use Rattle.shelf_path.specs.declared.verdict.Verdict.TheVariants.{Valid, Invalid}

-- place 1 is the certificate that the anchor issued, which is in the last block but one; a path of none is that of
-- block 1
abbrev pub block_at : ℕ → ℕ → ℕ
block_at count place = (count - place) + 1

-- of a path of so many certificates that is valid where each of them is good: the first that isn't, or none
abbrev pub valid_unless : ℕ → Option BadStatus → Verdict
valid_unless count None = Valid count
valid_unless count (Some bad) = Invalid (block_at count bad.place) bad.reason

-- by the outcome without revocation: a path that isn't valid is asked no further
abbrev pub verdict_by : ℕ → Option BadStatus → Outcome → Verdict
verdict_by count bad (valid given) = valid_unless count bad
verdict_by count bad (invalid place why) = Invalid (block_at count place) why

-- 6.1.3 (a) (3), where revocation is asked
abbrev pub bad_if : Bool → PathInputs → List CertificateList → List CertificateParts → List CertificateParts → Option BadStatus
bad_if asked x lists issuers path = cond asked (first_bad x lists issuers path) None

-- by the lists, and these certificates of their issuers
abbrev pub verdict_at : Bool → List CertificateList → List CertificateParts → PathInputs → List CertificateParts → Verdict
verdict_at asked lists issuers x path = verdict_by (length path) (bad_if asked x lists issuers path) (outcome accepts_signature x path)

-- what comes of what is asked, at its time in UTC, of which there is one
pub record IsVerdict (a : Asked) (v : Verdict) : Type 0 where
  pub at : DateTime
  pub time : civil_nanos at ≡ a.question.at
  pub comes : v ≡ verdict_at a.question.revocation a.lists a.issuers (inputs_at at a) a.path

-- the verdict on what is asked, or the fault of what asks nothing, unless memory runs out
abbrev pub Judges : Result Asked Fault → Result Verdict Fault → Type 0
Judges found (Ok v) = (a : Asked) × (found ≡ Ok a) × IsVerdict a v
Judges found (Err fault) = MayFail found fault

-- the same of what is known to be asked
abbrev pub Tells : Verdict → Result Verdict Fault → Type 0
Tells verdict (Ok v) = v ≡ verdict
Tells verdict (Err fault) = fault ≡ OutOfMemory

abbrev pub is_valid : Verdict → Bool
is_valid (Valid count) = true
is_valid (Invalid block reason) = false

-- ---- as a text

abbrev pub reason_name : PathReason → List ℕ
reason_name reason.Empty = codes "Empty"
reason_name reason.BadExtension = codes "BadExtension"
reason_name reason.AlgorithmsDiffer = codes "AlgorithmsDiffer"
reason_name reason.BadSignature = codes "BadSignature"
reason_name reason.NotYetValid = codes "NotYetValid"
reason_name reason.Expired = codes "Expired"
reason_name reason.Revoked = codes "Revoked"
reason_name reason.Undetermined = codes "Undetermined"
reason_name reason.NameMismatch = codes "NameMismatch"
reason_name reason.TooMuchWork = codes "TooMuchWork"
reason_name reason.UnprocessedNameForm = codes "UnprocessedNameForm"
reason_name reason.NotPermitted = codes "NotPermitted"
reason_name reason.Excluded = codes "Excluded"
reason_name reason.NoPolicy = codes "NoPolicy"
reason_name reason.MappedAnyPolicy = codes "MappedAnyPolicy"
reason_name reason.NotCa = codes "NotCa"
reason_name reason.PathTooLong = codes "PathTooLong"
reason_name reason.NoCertSign = codes "NoCertSign"
reason_name reason.UnprocessedCritical = codes "UnprocessedCritical"
reason_name reason.NoUserPolicy = codes "NoUserPolicy"

-- the step of RFC 5280 that fails, of the certificate of this block
abbrev pub section : ℕ → PathReason → List ℕ
section block reason.Empty = codes "6.1.1 (a)"
section block reason.BadExtension = codes "4.2"
section block reason.AlgorithmsDiffer = codes "4.1.1.2"
section block reason.BadSignature = codes "6.1.3 (a) (1)"
section block reason.NotYetValid = codes "6.1.3 (a) (2)"
section block reason.Expired = codes "6.1.3 (a) (2)"
section block reason.Revoked = codes "6.1.3 (a) (3)"
section block reason.Undetermined = codes "6.1.3 (a) (3)"
section block reason.NameMismatch = codes "6.1.3 (a) (4)"
section block reason.TooMuchWork = codes "6.1.3 (b)"
section block reason.UnprocessedNameForm = codes "6.1.3 (b)"
section block reason.NotPermitted = codes "6.1.3 (b)"
section block reason.Excluded = codes "6.1.3 (c)"
section block reason.NoPolicy = codes "6.1.3 (f)"
section block reason.MappedAnyPolicy = codes "6.1.4 (a)"
section block reason.NotCa = codes "6.1.4 (k)"
section block reason.PathTooLong = codes "6.1.4 (l)"
section block reason.NoCertSign = codes "6.1.4 (n)"
-- of the certificate that is asked about another than of those above it
section block reason.UnprocessedCritical = if block == 1 then codes "6.1.5 (f)" else codes "6.1.4 (o)"
section block reason.NoUserPolicy = codes "6.1.5 (g)"

unfoldable pub verdict_text : Verdict → List ℕ
verdict_text (Valid count) = codes "valid " ++ decimal count ++ codes "\n"
verdict_text (Invalid block reason) =
    codes "invalid " ++ (decimal block ++ (codes " " ++ (reason_name reason ++ (codes " RFC 5280, " ++ (section block reason ++ codes "\n")))))
