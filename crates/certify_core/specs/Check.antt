-- Certification paths that are checked, and the line of what comes of one.
use Rattle.std.specs.Prelude.{◌≡◌, ℕ, Bool, List, ◌++◌, codes, decimal}
use Rattle.std.specs.List.{list_any}
use Rattle.jiff.specs.Types.{DateTime}
use Rattle.jiff.specs.Words.{civil_nanos}
use Rattle.chain_check.specs.Inputs.{Inputs, inputs}
use Rattle.chain_check.specs.Outcomes.{IsOutcome, Outcome, valid, invalid}
use Rattle.chain_check.specs.declared.error.ChainReason.{ChainReason}
use Rattle.chain_check.specs.declared.error.ChainReason.TheVariants.{Empty, NotCertificate, AlgorithmsDiffer, NotYetValid, Expired, BadExtension}
use Rattle.chain_check.specs.declared.error.ChainReason.TheVariants.{UnhandledCritical, NotCa, NoCertSign, PathTooLong, NameMismatch, BadSignature}
use Rattle.rcgen_sign.specs.DigestKeys.{accepts_digest}
use Rattle.certify_profile.specs.declared.check.CheckProfile.{CheckProfile}

-- the verifier of some secret accepts the signature, whatever algorithm it names
abbrev pub accepts_some : List (List ℕ) → List ℕ → List ℕ → List ℕ → List ℕ → Bool
accepts_some secrets info key algorithm signature = list_any (λ secret. accepts_digest secret info key signature) secrets

-- what is asked about at a time in UTC
abbrev pub asked_at : CheckProfile → DateTime → Inputs
asked_at p at = inputs p.chain p.anchor at (accepts_some p.secrets)

-- the time in UTC, and what comes of the path then
pub record Checked : Type 0 where
  pub at : DateTime
  pub outcome : Outcome

pub record IsChecked (p : CheckProfile) (x : Checked) : Type 0 where
  pub time : civil_nanos x.at ≡ p.at
  pub comes : IsOutcome (asked_at p x.at) x.outcome

abbrev pub reason_name : ChainReason → List ℕ
reason_name Empty = codes "Empty"
reason_name NotCertificate = codes "NotCertificate"
reason_name AlgorithmsDiffer = codes "AlgorithmsDiffer"
reason_name NotYetValid = codes "NotYetValid"
reason_name Expired = codes "Expired"
reason_name BadExtension = codes "BadExtension"
reason_name UnhandledCritical = codes "UnhandledCritical"
reason_name NotCa = codes "NotCa"
reason_name NoCertSign = codes "NoCertSign"
reason_name PathTooLong = codes "PathTooLong"
reason_name NameMismatch = codes "NameMismatch"
reason_name BadSignature = codes "BadSignature"

-- how many certificates the chain has, or the place and the name of the first reason
unfoldable pub outcome_line : Outcome → List ℕ
outcome_line (valid n) = codes "valid " ++ decimal n ++ codes "\n"
outcome_line (invalid place reason) = codes "invalid " ++ decimal place ++ codes " " ++ reason_name reason ++ codes "\n"
