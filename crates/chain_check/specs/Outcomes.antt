-- What comes of a chain: how many certificates it has, or the first reason why it isn't taken.
use Rattle.std.specs.Prelude.{List, length, ℕ, [], ◌++◌, ◌+◌, ◌<◌, ◌∷◌, ◌≡◌, ◌⊎◌}
use Rattle.pkix_cert.specs.declared.certificate.Certificate.{Certificate}
use Rattle.chain_check.specs.Inputs.{BeginsWithAll, BeginsWithCertificate, Inputs, IsCertificate, IsPath, Place, StandsAt}
use Rattle.chain_check.specs.Reasons.{Breaks}
use Rattle.chain_check.specs.declared.error.ChainReason.{ChainReason}
use Rattle.chain_check.specs.declared.error.ChainReason.TheVariants.{Empty, NotCertificate, AlgorithmsDiffer, NotYetValid, Expired, BadExtension}
use Rattle.chain_check.specs.declared.error.ChainReason.TheVariants.{UnhandledCritical, NotCa, NoCertSign, PathTooLong, NameMismatch, BadSignature}

-- ---- which reasons hold, and where

-- c(1) to c(i-1) are at the start of the chain, and what is left of it doesn't begin with a certificate
pub record HasNoNext (x : Inputs) (i : ℕ) : Type 0 where
  pub before : List Certificate
  pub rest : List ℕ
  pub front : BeginsWithAll before x.chain rest
  pub left : ¬ (rest ≡ [])
  pub none : ¬ (BeginsWithCertificate rest)
  pub place : i ≡ length before + 1

-- the chain is certificates, and the anchor isn't one
pub record HasNoAnchor (x : Inputs) (i : ℕ) : Type 0 where
  pub before : List Certificate
  pub front : BeginsWithAll before x.chain []
  pub none : ¬ (IsCertificate x.anchor)
  pub place : i ≡ length before + 1

-- the certificate at the place of a path breaks the rule
pub record BreaksAt (x : Inputs) (i : ℕ) (reason : ChainReason) : Type 0 where
  pub chain : List Certificate
  pub anchor : Certificate
  pub path : IsPath x chain anchor
  pub at : Place
  pub stands : StandsAt (chain ++ anchor ∷ []) i at
  pub breaks : Breaks x at reason

abbrev pub Holds : Inputs → ℕ → ChainReason → Type 0
Holds x i Empty = (i ≡ 1) × (x.chain ≡ [])
Holds x i NotCertificate = HasNoNext x i ⊎ HasNoAnchor x i
Holds x i AlgorithmsDiffer = BreaksAt x i AlgorithmsDiffer
Holds x i NotYetValid = BreaksAt x i NotYetValid
Holds x i Expired = BreaksAt x i Expired
Holds x i BadExtension = BreaksAt x i BadExtension
Holds x i UnhandledCritical = BreaksAt x i UnhandledCritical
Holds x i NotCa = BreaksAt x i NotCa
Holds x i NoCertSign = BreaksAt x i NoCertSign
Holds x i PathTooLong = BreaksAt x i PathTooLong
Holds x i NameMismatch = BreaksAt x i NameMismatch
Holds x i BadSignature = BreaksAt x i BadSignature

-- ---- the order of the tests

abbrev pub reason_number : ChainReason → ℕ
reason_number Empty = 1
reason_number NotCertificate = 2
reason_number AlgorithmsDiffer = 3
reason_number NotYetValid = 4
reason_number Expired = 5
reason_number BadExtension = 6
reason_number UnhandledCritical = 7
reason_number NotCa = 8
reason_number NoCertSign = 9
reason_number PathTooLong = 10
reason_number NameMismatch = 11
reason_number BadSignature = 12

-- the whole input is tested for reason 1, then for reason 2, and then each place for all others
abbrev pub round : ChainReason → ℕ
round Empty = 1
round NotCertificate = 2
round reason = 3

-- by rounds, in each of them place by place, and at a place by the reasons' numbers
abbrev pub IsTestedBefore : ℕ → ChainReason → ℕ → ChainReason → Type 0
IsTestedBefore i earlier j later =
    (round earlier < round later) ⊎ ((round earlier ≡ round later) × ((i < j) ⊎ ((i ≡ j) × (reason_number earlier < reason_number later))))

-- the reason holds at the place, and none that is tested before it holds
pub record IsFirst (x : Inputs) (i : ℕ) (reason : ChainReason) : Type 0 where
  pub holds : Holds x i reason
  pub none_before : (j : ℕ) (earlier : ChainReason) → IsTestedBefore j earlier i reason → ¬ (Holds x j earlier)

-- the chain has n certificates, and no reason holds at any place
pub record IsValid (x : Inputs) (n : ℕ) : Type 0 where
  pub chain : List Certificate
  pub anchor : Certificate
  pub path : IsPath x chain anchor
  pub count : n ≡ length chain
  pub no_reason : (i : ℕ) (reason : ChainReason) → ¬ (Holds x i reason)

-- ---- what comes of it

pub data Outcome : Type 0 where
  valid : ℕ → Outcome
  invalid : ℕ → ChainReason → Outcome

abbrev pub IsOutcome : Inputs → Outcome → Type 0
IsOutcome x (valid n) = IsValid x n
IsOutcome x (invalid place reason) = IsFirst x place reason
