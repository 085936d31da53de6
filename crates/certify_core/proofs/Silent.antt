-- There is no cause against a command that reads nothing.
use Rattle.std.proofs.Common.{◌≡◌, ◌∙◌, ℕ, zero, suc, List, map, Bool, true, false, None, pos, ap, sym, refl}
use Rattle.std.specs.Prelude.{not}
use Rattle.std.specs.List.{list_all}
use Rattle.jiff.proofs.OnLiterals.{jiff_on_literals}
use Rattle.rcgen_issue.specs.CrlView.{CrlView}
use Rattle.rcgen_issue.specs.Lists.{first_crl_cause, has_entry_times}
use Rattle.certify_core.specs.Bulk.{bulk_content, bulk_issuer, bulk_spec, entries_after, next_serial}
use Rattle.certify_core.specs.Command.{Gives, help_text, reads_input}
use Rattle.certify_core.specs.Issuing.{issuer_of_profile}
use Rattle.certify_core.specs.Lines.{version_text}
use Rattle.certify_core.specs.CommandSpec.{SpecGives, coming_to, named}
use Rattle.certify_core.specs.Outcome.{Decides, done}
use Rattle.toml_format.specs.UtcInstant.{instant_of}
use Rattle.profile_params.specs.Certificates.{start_of}
use Rattle.profile_params.specs.RevocationLists.{list_of_profile, revoked_of_profile}
use Rattle.certify_core.specs.declared.command.Command.{Command}
use Rattle.certify_core.specs.declared.command.Command.TheVariants.{Bulk, Help, Version}
use Rattle.command_run.specs.declared.status.Status.TheVariants.{Done}

-- ---- the list that is made for measures

-- the first moments of 2025 and 2026, in nanoseconds
this_instant : instant_of (start_of (pos 2025)) ≡ pos 1_735_689_600_000_000_000
unfolding jiff_on_literals
this_instant = refl

next_instant : instant_of (start_of (pos 2026)) ≡ pos 1_767_225_600_000_000_000
unfolding jiff_on_literals
next_instant = refl

entries_have_times : (serial : ℕ) (has_reason : Bool) (n : ℕ) → list_all has_entry_times (map revoked_of_profile (entries_after serial has_reason n)) ≡ true
entries_have_times serial has_reason zero = refl
entries_have_times serial has_reason (suc n) = rw (this_instant, entries_have_times (next_serial serial) (not has_reason) n) refl

list_has_no_cause : (n : ℕ) → first_crl_cause (list_of_profile (bulk_content n)) (issuer_of_profile bulk_issuer) ≡ None
list_has_no_cause n = rw (entries_have_times 1 true n, this_instant, next_instant) refl

-- ---- the commands

list_is_issued : (n : ℕ) → Decides (SpecGives (bulk_spec n)) Done
list_is_issued n = (
  λ reason h. h,
  λ name h.
      let said = ap (λ (v : CrlView). named (first_crl_cause v (issuer_of_profile bulk_issuer))) h.says ∙ ap named (list_has_no_cause n) in
      let none = sym said ∙ h.first in
      cc,
)

always_written : (text : List ℕ) → Decides (SpecGives (coming_to (done text))) Done
always_written text = (λ reason h. cc, λ name h. let first = h.first in cc)

pub nothing_against : (command : Command) (input : List ℕ) → reads_input command ≡ false → Decides (Gives command input) Done
nothing_against (Bulk n) input silent = list_is_issued n
nothing_against Help input silent = always_written help_text
nothing_against Version input silent = always_written version_text
nothing_against _ input silent = absurd cc
