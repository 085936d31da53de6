-- What is written of a restored issuer.
use Rattle.std.proofs.Common.{◌≡◌, ℕ, true, List, Option, Result, Ok, refl, sym, subst}
use Rattle.std.specs.Prelude.{is_some}
use Rattle.pkix_name.specs.declared.name.Name.{Name}
use Rattle.rcgen_sign.specs.DigestKeys.{digest_key}
use Rattle.rcgen_certificate.specs.NameValues.{has_types, issuer_name}
use Rattle.rcgen_read.specs.IssuerReading.{RestoredIssuer}
use Rattle.rcgen_read.specs.RestoredIssuers.{view_of_restored}
use Rattle.rcgen_text.specs.Causes.{Cause}
use Rattle.rcgen_text.specs.Names.{Entry}
use Rattle.certify_core.specs.CommandSpec.{IsMade, of_der}
use Rattle.certify_core.specs.Restoring.{IsViewText, restoring_with}

-- the issuer field of a name whose types are identifiers has a value
pub is_named : (es : List Entry) (field : Option Name) → has_types es ≡ true → field ≡ issuer_name es → is_some field ≡ true
is_named es field h is_field = rw (is_field, h) refl

-- the lines of the issuer that was read, with the secret's key
pub restored : (secret other : List ℕ) (found : Result RestoredIssuer Cause) (r : RestoredIssuer) (text : List ℕ) → found ≡ Ok r → other ≡ secret
    → IsViewText (view_of_restored r (digest_key other)) text → IsMade (of_der (restoring_with secret) found) text
restored secret other found r text is_read is_secret written =
    subst (λ (f : Result RestoredIssuer Cause). IsMade (of_der (restoring_with secret) f) text) (sym is_read) (record {
      params = tt;
      says = tt;
      written = subst (λ (s : List ℕ). IsViewText (view_of_restored r (digest_key s)) text) is_secret written;
      no_cause = refl;
    })
