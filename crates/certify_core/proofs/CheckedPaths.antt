-- What is written of a certification path.
use Rattle.std.proofs.Common.{◌≡◌, ℕ, List, refl, subst}
use Rattle.jiff.specs.Types.{DateTime}
use Rattle.jiff.specs.Words.{civil_nanos}
use Rattle.chain_check.specs.Inputs.{Inputs, inputs}
use Rattle.chain_check.specs.Outcomes.{IsOutcome, Outcome}
use Rattle.certify_core.specs.Check.{accepts_some, asked_at, outcome_line}
use Rattle.certify_core.specs.Checking.{checking}
use Rattle.certify_core.specs.CommandSpec.{IsMade}
use Rattle.certify_profile.specs.declared.check.CheckProfile.{CheckProfile}

-- the line of what comes of the profile's path
pub checked : (p : CheckProfile) (chain anchor : List ℕ) (at : DateTime) (secrets : List (List ℕ)) (outcome : Outcome) (text : List ℕ)
    → chain ≡ p.chain → anchor ≡ p.anchor → civil_nanos at ≡ p.at → secrets ≡ p.secrets
    → IsOutcome (inputs chain anchor at (accepts_some secrets)) outcome → text ≡ outcome_line outcome → IsMade (checking p) text
checked p chain anchor at secrets outcome text chain_is anchor_is time secrets_are comes written =
    let same : inputs chain anchor at (accepts_some secrets) ≡ asked_at p at = rw (chain_is, anchor_is, secrets_are) refl in
    record {
      params = record { at = at; outcome = outcome };
      says = record { time = time; comes = subst (λ (x : Inputs). IsOutcome x outcome) same comes };
      written = written;
      no_cause = refl;
    }
