-- Certificates for the names of texts: nothing prevents them but a text that has no name.
use Rattle.std.specs.Prelude.{◌≡◌, ℕ, ℤ, pos, ◌-ℤ◌, ◌*ℤ◌, true, ◌⊎◌, List, None, refl}
use Rattle.std.specs.List.{AllByRecursion}
use Rattle.std.proofs.Common.{sym, ◌∙◌, subst, ap, arith, inl, inr}
use Rattle.asn1_core.specs.Moment.{Moment, has_utc, IsUtc}
use Rattle.jiff.specs.Words.{civil_nanos, IsBetween}
use Rattle.rcgen_text.specs.Causes.{Origin, memory, key, cause, origin_of, Explains}
use Rattle.rcgen_text.specs.Dates.{IsMidnight}
use Rattle.rcgen_text.specs.declared.error.Error.{Error}
use Rattle.rcgen_text.specs.declared.error.Error.TheVariants.{OutOfMemory}
use Rattle.rcgen_sign.specs.Keys.{Key}
use Rattle.rcgen_certificate.specs.Issue.{first_cause, Refuses}
use Rattle.rcgen_certificate.specs.Issuers.{own_view}
use Rattle.rcgen_certificate.specs.NameValues.{issuer_name}
use Rattle.rcgen_certificate.specs.Params.{HasName, IsFirstNameless}
use Rattle.rcgen_certificate.specs.ParamsView.{ParamsView, params_view}
use Rattle.rcgen_certificate.specs.declared.params.CertificateParams.{CertificateParams}
use Rattle.rcgen_certificate.proofs.NamesOfTexts.{have_names}
use Rattle.rcgen_issue.specs.Certified.{AreDefaultsFor, ExplainsSelfSigned, IsExplained, MayRefuseSelfSigned}

-- ---- times

unmoved : (x offset : ℤ) → offset ≡ pos 0 → x ≡ x -ℤ offset *ℤ pos 1_000_000_000
unmoved x offset h = rw h (grind arith)

-- midnight in UTC, in a year of four digits, is already a civil time in UTC
midnight_is_utc : (year : ℤ) (m : Moment) → IsBetween (pos 0) (pos 9999) year → IsMidnight year 1 1 m → IsUtc m m.local
midnight_is_utc year m within h = (
  unmoved (civil_nanos m.local) m.offset_seconds h.2,
  subst (λ (y : ℤ). IsBetween (pos 0) (pos 9999) y) (sym h.0.0) within,
)

pub start_is_utc : (texts : List (List ℕ)) (params : CertificateParams) → AreDefaultsFor texts params → IsUtc params.not_before params.not_before.local
start_is_utc texts params d = midnight_is_utc (pos 1975) params.not_before (grind arith) d.not_before

pub end_is_utc : (texts : List (List ℕ)) (params : CertificateParams) → AreDefaultsFor texts params → IsUtc params.not_after params.not_after.local
end_is_utc texts params d = midnight_is_utc (pos 4096) params.not_after (grind arith) d.not_after

-- ---- causes

pub no_cause : (texts : List (List ℕ)) (params : CertificateParams) → AreDefaultsFor texts params → has_utc params.not_before ≡ true
    → has_utc params.not_after ≡ true → first_cause (params_view params) (issuer_name params.distinguished_name) ≡ None
no_cause texts params d from to =
    let ids = (have_names texts params.subject_alt_names.items d.subject_alt_names).1 in
    ap (λ (v : ParamsView). first_cause v (issuer_name params.distinguished_name)) d.rest
    ∙ rw (from, to, ids, d.extended_key_usages, d.distinguished_name) refl

-- ---- errors

-- where an error of making the parameters comes from
pub unnamed : (texts : List (List ℕ)) (refuses : Type 0) (e : Error) → (e ≡ OutOfMemory) ⊎ IsFirstNameless texts e
    → ExplainsSelfSigned texts refuses e
unnamed texts refuses e (inl h) = subst (λ (o : Origin). IsExplained texts refuses e o) (sym (ap origin_of h)) tt
unnamed texts refuses e (inr h) = subst (λ (o : Origin). IsExplained texts refuses e o) (sym h.error) h

refused_by : (texts : List (List ℕ)) (P Q : Type 0) (e : Error) (o : Origin) → AllByRecursion HasName texts → (P → Q) → Explains None P o
    → IsExplained texts Q e o
refused_by texts P Q e memory named f x = tt
refused_by texts P Q e key named f x = (named, f x.1)
refused_by texts P Q e (cause c) named f x = absurd cc

-- where an error of signing for them comes from
pub refused : (texts : List (List ℕ)) (params : CertificateParams) (subject : Key) (may_refuse : List ℕ → Type 0) (e : Error)
    → AreDefaultsFor texts params → first_cause (params_view params) (issuer_name params.distinguished_name) ≡ None
    → Explains (first_cause (params_view params) (issuer_name params.distinguished_name)) (Refuses (params_view params) subject (own_view (params_view params) subject) may_refuse) (origin_of e)
    → ExplainsSelfSigned texts (MayRefuseSelfSigned texts subject may_refuse) e
refused texts params subject may_refuse e d none x =
    refused_by texts (Refuses (params_view params) subject (own_view (params_view params) subject) may_refuse) (MayRefuseSelfSigned texts subject may_refuse) e (origin_of e)
    (have_names texts params.subject_alt_names.items d.subject_alt_names).0 (λ r. (params, d, r)) (rw none at x)
