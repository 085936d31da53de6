-- What is written of a certification path.
use Rattle.std.specs.Prelude.{◌≡◌, ℕ, List, None, Result, refl}
use Rattle.std.proofs.Common.{ap, sym, ◌∙◌}
use Rattle.certify_core.specs.Check.{Checked, IsChecked, outcome_line}
use Rattle.certify_core.specs.CommandSpec.{CommandSpec}
use Rattle.certify_core.specs.laws.Check.{one_checked}
use Rattle.certify_profile.specs.Check.{check}
use Rattle.toml_format.specs.Document.{document_of}
use Rattle.certify_profile.specs.declared.check.CheckProfile.{CheckProfile}
use Rattle.toml_format.specs.declared.reason.Reason.{Reason}

-- the profile that the bytes are, or the least reason why they are none
abbrev pub check_profile_of : List ℕ → Result CheckProfile Reason
check_profile_of = document_of check.read

abbrev pub checking : CheckProfile → CommandSpec
checking p = record {
  Params = Checked;
  Says = IsChecked p;
  HasReason = λ reason. ⊥;
  IsText = λ x text. text ≡ outcome_line x.outcome;
  first_cause = λ x. None;
  one_cause = λ x y says said. refl;
  one_text = λ x y says said text other h k. h ∙ ap outcome_line (one_checked p x y says said) ∙ sym k;
  one_reason = λ reason other h k. absurd h;
  is_taken = λ x says reason h. h;
}
