-- The listing of the certificate that is shown.
use Rattle.std.specs.Prelude.{◌≡◌, ℕ, List, None, refl}
use Rattle.std.proofs.Common.{sym, ap, ◌∙◌}
use Rattle.pkix_cert.specs.declared.certificate.Certificate.{Certificate}
use Rattle.certify_core.specs.Listing.{listing}
use Rattle.certify_core.specs.CommandSpec.{CommandSpec}
use Rattle.certify_core.specs.Show.{Shows, HasShowReason}
use Rattle.certify_core.specs.laws.Show.{one_shown, one_show_reason, shown_has_no_reason}

-- what is shown of an input
abbrev pub showing : List ℕ → CommandSpec
showing input = record {
  Params = Certificate;
  Says = Shows input;
  HasReason = HasShowReason input;
  IsText = λ c text. text ≡ listing c;
  first_cause = λ c. None;
  one_cause = λ c d says said. refl;
  one_text = λ c d says said text other h k. h ∙ ap listing (one_shown input c d says said) ∙ sym k;
  one_reason = one_show_reason input;
  is_taken = λ c says reason h. shown_has_no_reason input c reason says h;
}
