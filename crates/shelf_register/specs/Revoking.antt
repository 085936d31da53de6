-- What `revoke` comes to on a record.
use Rattle.std.specs.Prelude.{◌≡◌, ℕ, ℤ, Bool, true, false, List, Option, Some, None, Result, Ok}
use Rattle.register_record.specs.Decisions.{decided}
use Rattle.register_record.specs.Following.{fault_under, final_fault, is_on_hold, released_fault, revoked_fault}
use Rattle.register_record.specs.Records.{State, found}
use Rattle.register_record.specs.declared.event.Event.{Event}
use Rattle.register_record.specs.declared.event.Event.TheVariants as event
use Rattle.register_record.specs.declared.event.Reason.{Reason}
use Rattle.register_record.specs.declared.event.Revocation.{Revocation}
use Rattle.register_record.specs.declared.refusal.Refusal.{Refusal}
use Rattle.register_record.specs.declared.state.Certificate.{Certificate}

-- whether what is recorded is on hold
abbrev pub is_held : Option Certificate → Bool
is_held None = false
is_held (Some c) = is_on_hold c.change

abbrev pub revocation : Reason → ℤ → Option ℤ → Revocation
revocation reason time invalidity_date = record { time = time; reason = reason; invalidity_date = invalidity_date }

-- what is on hold is revoked for good, and all else is revoked
abbrev pub revoked_or_final : Bool → State → List ℕ → Revocation → ℤ → Result Event Refusal
revoked_or_final true s serial r now = decided now (fault_under serial (final_fault r) s) (event.MadeFinal serial r)
revoked_or_final false s serial r now = decided now (fault_under serial revoked_fault s) (event.Revoked serial r)

-- with a reason it is revoked; with none a hold ends
abbrev pub changed_status : State → List ℕ → Option Reason → ℤ → Option ℤ → ℤ → Result Event Refusal
changed_status s serial None time invalidity_date now = decided now (fault_under serial released_fault s) (event.Released serial time)
changed_status s serial (Some reason) time invalidity_date now =
    revoked_or_final (is_held (found serial s.certificates)) s serial (revocation reason time invalidity_date) now

-- what is decided is recorded
abbrev pub Records : Result Event Refusal → Option Event → Type 0
Records decision None = ⊥
Records decision (Some e) = decision ≡ Ok e
