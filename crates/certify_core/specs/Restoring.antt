-- The issuer that is restored from its certificate.
use Rattle.std.specs.Prelude.{◌≡◌, ℕ, List, Some, None, Result, refl}
use Rattle.std.proofs.Common.{sym, ap, ◌∙◌}
use Rattle.asn1_core.specs.Binds.{some_is}
use Rattle.pkix_name.specs.declared.name.Name.{Name}
use Rattle.rcgen_sign.specs.DigestKeys.{digest_key}
use Rattle.rcgen_certificate.specs.Issuers.{IssuerView}
use Rattle.rcgen_read.specs.IssuerReading.{RestoredIssuer, read_issuer}
use Rattle.rcgen_read.specs.RestoredIssuers.{view_of_restored}
use Rattle.certify_core.specs.Listing.{issuer_lines}
use Rattle.certify_core.specs.CommandSpec.{CommandSpec, of_der}
use Rattle.toml_format.specs.Document.{document_of}
use Rattle.certify_profile.specs.Restore.{restore}
use Rattle.toml_format.specs.declared.reason.Reason.{Reason}
use Rattle.certify_profile.specs.declared.restore.RestoreProfile.{RestoreProfile}

-- the profile that the bytes are, or the least reason why they are none
abbrev pub restore_profile_of : List ℕ → Result RestoreProfile Reason
restore_profile_of = document_of restore.read

-- the text has the lines of an issuer of which this is read
abbrev pub IsViewText : IssuerView → List ℕ → Type 0
IsViewText view text = (name : Name) × (view.name ≡ Some name) × (text ≡ issuer_lines name view.key_identifier view.signs_lists)

-- an issuer has one name, so one text
pub one_view_text : (view : IssuerView) (text other : List ℕ) → IsViewText view text → IsViewText view other → text ≡ other
one_view_text view text other v w =
    let name = some_is v.0 w.0 (sym v.1 ∙ w.1) in
    v.2 ∙ ap (λ (n : Name). issuer_lines n view.key_identifier view.signs_lists) name ∙ sym w.2

-- what is written of the issuer with the secret's key
abbrev pub restoring_with : List ℕ → RestoredIssuer → CommandSpec
restoring_with secret r = record {
  Params = Unit {0};
  Says = λ params. Unit {0};
  HasReason = λ reason. ⊥;
  IsText = λ params. IsViewText (view_of_restored r (digest_key secret));
  first_cause = λ params. None;
  one_cause = λ params other says said. refl;
  one_text = λ params other says said. one_view_text (view_of_restored r (digest_key secret));
  one_reason = λ reason other h k. absurd h;
  is_taken = λ params says reason h. h;
}

abbrev pub restoring : RestoreProfile → CommandSpec
restoring p = of_der (restoring_with p.secret) (read_issuer p.certificate)
