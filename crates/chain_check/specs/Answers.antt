-- What the calls answer.
use Rattle.std.specs.Prelude.{Err, List, None, Ok, Option, Result, Some, length, ℕ, [], ◌++◌, ◌+◌, ◌∷◌, ◌≡◌, ◌⊎◌}
use Rattle.pkix_cert.specs.Views.{CertificateParts, certificate_parts}
use Rattle.chain_check.specs.Inputs.{Inputs}
use Rattle.chain_check.specs.Outcomes.{IsFirst, Outcome, valid, invalid}
use Rattle.chain_check.specs.declared.error.ChainError.{ChainError}
use Rattle.chain_check.specs.declared.error.ChainError.TheVariants.{Fault, OutOfMemory}
use Rattle.chain_check.specs.declared.error.ChainReason.TheVariants.{Empty, NotCertificate}

-- a fault is the first of the input; nothing is said about lack of memory
abbrev pub Explains : Inputs → ChainError → Type 0
Explains x (Fault place reason) = IsFirst x place reason
Explains x OutOfMemory = Unit {0}

-- ---- what private steps answer; no promise cites what follows

-- the answer, where memory doesn't run out
abbrev pub Tells : Result ℕ ChainError → Outcome → Type 0
Tells (Ok n) outcome = valid n ≡ outcome
Tells (Err (Fault place reason)) outcome = invalid place reason ≡ outcome
Tells (Err OutOfMemory) outcome = Unit {0}

-- ---- the views of a path's certificates

-- views of certificates one after the other, and what follows them
abbrev pub AreViews : List CertificateParts → List ℕ → List ℕ → Type 0
AreViews [] input rest = input ≡ rest
AreViews (p ∷ ps) input rest = (certificate_parts input ≡ Some p) × AreViews ps p.after rest

-- something is left after some certificates, and it doesn't begin with one
pub record StopsAt (input : List ℕ) (place : ℕ) : Type 0 where
  pub views : List CertificateParts
  pub rest : List ℕ
  pub front : AreViews views input rest
  pub left : ¬ (rest ≡ [])
  pub none : certificate_parts rest ≡ None
  pub place_is : place ≡ length views + 1

abbrev pub IsStop : List ℕ → ChainError → Type 0
IsStop input (Fault place NotCertificate) = StopsAt input place
IsStop input (Fault place reason) = ⊥
IsStop input OutOfMemory = Unit {0}

-- the view of the input, where nothing follows the certificate
abbrev pub IsOnlyView : List ℕ → Option CertificateParts → Type 0
IsOnlyView input (Some p) = (certificate_parts input ≡ Some p) × (p.after ≡ [])
IsOnlyView input None = (p : CertificateParts) → certificate_parts input ≡ Some p → ¬ (p.after ≡ [])

-- the chain is certificates, and the anchor isn't one
pub record LacksAnchor (chain anchor : List ℕ) (place : ℕ) : Type 0 where
  pub views : List CertificateParts
  pub front : AreViews views chain []
  pub none : IsOnlyView anchor None
  pub place_is : place ≡ length views + 1

-- `Empty` and `NotCertificate`
abbrev pub IsNoPath : List ℕ → List ℕ → ChainError → Type 0
IsNoPath chain anchor (Fault place Empty) = (place ≡ 1) × (chain ≡ [])
IsNoPath chain anchor (Fault place NotCertificate) = ¬ (chain ≡ []) × (StopsAt chain place ⊎ LacksAnchor chain anchor place)
IsNoPath chain anchor (Fault place reason) = ⊥
IsNoPath chain anchor OutOfMemory = Unit {0}

-- the views of the chain, and that of the anchor
pub record AreOfPath (chain anchor : List ℕ) (views : List CertificateParts) : Type 0 where
  pub of_chain : List CertificateParts
  pub of_anchor : CertificateParts
  pub parts : views ≡ of_chain ++ of_anchor ∷ []
  pub is_chain : AreViews of_chain chain []
  pub is_anchor : certificate_parts anchor ≡ Some of_anchor
  pub alone : of_anchor.after ≡ []
  pub some : ¬ (chain ≡ [])
