-- What is known of parameters without a cause, part by part.
use Rattle.std.specs.Prelude.{◌≡◌, ℕ, Bool, true, false, ◌&&◌, not, List, ◌++◌, length, map, Option, Some, None, is_some, refl}
use Rattle.std.specs.List.{list_all}
use Rattle.std.specs.Option.{option_map, option_or}
use Rattle.std.proofs.Common.{sym}
use Rattle.std.proofs.lemmas.List.{length-map}
use Rattle.std.proofs.lemmas.List.Folds.{list_all-map}
use Rattle.rcgen_certificate.specs.SubjectAltNames.{has_type_id}
use Rattle.asn1_core.specs.Binds.{and_true}
use Rattle.pkix_name.specs.declared.name.Name.{Name}
use Rattle.rcgen_text.specs.AlternativeNames.{alternative_name}
use Rattle.rcgen_text.specs.Causes.{Cause, attribute_values, empty_uris, ia5_text, identifier, time, unsupported_in_csr, when}
use Rattle.rcgen_text.specs.declared.san.SanType.{SanType}
use Rattle.rcgen_certificate.specs.AsciiTexts.{first_not_ascii}
use Rattle.rcgen_certificate.specs.CustomExtensions.{custom_of, has_custom_oid}
use Rattle.rcgen_certificate.specs.DistributionPoints.{has_empty_point, uri_texts, uris_of}
use Rattle.rcgen_certificate.specs.ExtendedKeyUsages.{has_purpose_oid, purpose_of}
use Rattle.rcgen_certificate.specs.Issue.{first_cause, all_oids_valid, HasNoCause}
use Rattle.rcgen_certificate.specs.NameConstraints.{bases_of, constraint_texts, has_subtree_types}
use Rattle.rcgen_certificate.specs.NameValues.{has_types}
use Rattle.rcgen_certificate.specs.ParamsView.{ParamsView}
use Rattle.rcgen_certificate.specs.IssuedExtensions.{has_no_place}
use Rattle.rcgen_certificate.specs.Requests.{first_request_cause, has_attribute_type, has_values}
use Rattle.rcgen_certificate.specs.WrittenTimes.{is_utc}
use Rattle.rcgen_certificate.specs.declared.csr.Attribute.{Attribute}
use Rattle.rcgen_certificate.specs.declared.custom_extension.CustomExtension.{CustomExtension}
use Rattle.rcgen_certificate.specs.declared.distribution_point.CrlDistributionPoint.{CrlDistributionPoint}
use Rattle.rcgen_certificate.specs.declared.extended_key_usage.ExtendedKeyUsagePurpose.{ExtendedKeyUsagePurpose}
use Rattle.rcgen_certificate.specs.declared.name_constraints.NameConstraints.{NameConstraints}
use Rattle.rcgen_certificate.proofs.AsciiTexts.{parts_ascii}

pub not_set : (b : Bool) (c : Cause) → when b c ≡ None → b ≡ false
not_set true c h = absurd cc
not_set false c h = refl

pub not_unset : (b : Bool) (c : Cause) → when (not b) c ≡ None → b ≡ true
not_unset true c h = refl
not_unset false c h = absurd cc

pub neither : (a b : Option Cause) → option_or a b ≡ None → (a ≡ None) × (b ≡ None)
neither None b h = (refl, h)
neither (Some x) b h = absurd cc

all_hold : (a b c d e : Bool) → (a && b && c && d && e) ≡ true → (a ≡ true) × (b ≡ true) × (c ≡ true) × (d ≡ true) × (e ≡ true)
all_hold true true true true true h = (refl, refl, refl, refl, refl)
all_hold true true true true false h = absurd cc
all_hold true true true false e h = absurd cc
all_hold true true false d e h = absurd cc
all_hold true false c d e h = absurd cc
all_hold false b c d e h = absurd cc

pub none_found : (texts : List (List ℕ)) (o : Option (List ℕ)) → o ≡ first_not_ascii texts → option_map ia5_text o ≡ None → first_not_ascii texts ≡ None
none_found texts None e h = sym e
none_found texts (Some t) e h = absurd cc

pub no_cause : (params : ParamsView) (name : Option Name) → first_cause params name ≡ None → HasNoCause params name
no_cause params name h =
    let texts = constraint_texts params.name_constraints ++ uri_texts params.crl_distribution_points in
    let identified = is_some name && all_oids_valid params in
    let times = is_utc params.not_before && is_utc params.not_after in
    let first = neither (when (has_empty_point params.crl_distribution_points) empty_uris) _ h in
    let second = neither (when (not times) time) _ first.1 in
    let third = neither (when (not identified) identifier) _ second.1 in
    let fourth = neither (option_map ia5_text (first_not_ascii texts)) _ third.1 in
    let utc = and_true (is_utc params.not_before) (is_utc params.not_after) (not_unset times time second.0) in
    let named = and_true (is_some name) (all_oids_valid params) (not_unset identified identifier third.0) in
    let x = all_hold (has_types params.distinguished_name) (has_subtree_types params.name_constraints)
    (list_all has_type_id params.subject_alt_names) (list_all has_purpose_oid params.extended_key_usages)
    (list_all has_custom_oid params.custom_extensions) named.1 in
    let ascii = parts_ascii (constraint_texts params.name_constraints) (uri_texts params.crl_distribution_points)
    (none_found texts (first_not_ascii texts) refl fourth.0) in
    record {
      points = not_set (has_empty_point params.crl_distribution_points) empty_uris first.0;
      not_before = utc.0;
      not_after = utc.1;
      issuer_types = named.0;
      subject_types = x.0;
      subtree_types = x.1;
      name_types = x.2;
      purposes = x.3;
      given = x.4;
      subtree_texts = ascii.0;
      uris = ascii.1;
    }

-- none of the causes against a request, for each part
pub record HasNoRequestCause (params : ParamsView) (attrs : List Attribute) : Type 0 where
  pub place : has_no_place params ≡ false
  pub subject_types : has_types params.distinguished_name ≡ true
  pub name_types : list_all has_type_id params.subject_alt_names ≡ true
  pub purposes : list_all has_purpose_oid params.extended_key_usages ≡ true
  pub given : list_all has_custom_oid params.custom_extensions ≡ true
  pub attribute_types : list_all has_attribute_type attrs ≡ true
  pub values : list_all has_values attrs ≡ true

pub no_request_cause : (params : ParamsView) (attrs : List Attribute) → first_request_cause params attrs ≡ None
    → HasNoRequestCause params attrs
no_request_cause params attrs h =
    let identified = all_oids_valid params && list_all has_attribute_type attrs in
    let first = neither (when (has_no_place params) unsupported_in_csr) _ h in
    let second = neither (when (not identified) identifier) _ first.1 in
    let third = neither (when (not (list_all has_values attrs)) attribute_values) _ second.1 in
    let named = and_true (all_oids_valid params) (list_all has_attribute_type attrs) (not_unset identified identifier second.0) in
    let x = all_hold (has_types params.distinguished_name) (has_subtree_types params.name_constraints)
    (list_all has_type_id params.subject_alt_names) (list_all has_purpose_oid params.extended_key_usages)
    (list_all has_custom_oid params.custom_extensions) named.0 in
    record {
      place = not_set (has_no_place params) unsupported_in_csr first.0;
      subject_types = x.0;
      name_types = x.2;
      purposes = x.3;
      given = x.4;
      attribute_types = named.1;
      values = not_unset (list_all has_values attrs) attribute_values third.0;
    }

pub ruleset parts = (no_cause)

-- what is tested of each is tested of the views
pub names_seen : (names : List SanType) → list_all has_type_id (map alternative_name names) ≡ list_all (λ n. has_type_id (alternative_name n)) names
names_seen names = list_all-map has_type_id alternative_name names

pub purposes_seen : (ps : List ExtendedKeyUsagePurpose)
    → list_all has_purpose_oid (map purpose_of ps) ≡ list_all (λ p. has_purpose_oid (purpose_of p)) ps
purposes_seen ps = list_all-map has_purpose_oid purpose_of ps

pub customs_seen : (es : List CustomExtension) → list_all has_custom_oid (map custom_of es) ≡ list_all (λ e. has_custom_oid (custom_of e)) es
customs_seen es = list_all-map has_custom_oid custom_of es

pub ruleset tests = (names_seen, purposes_seen, customs_seen)

-- what has no place in a request is seen of the parameters as of their view
pub constraints_seen : (n : Option NameConstraints) → is_some (option_map bases_of n) ≡ is_some n
constraints_seen None = refl
constraints_seen (Some n) = refl

pub points_seen : (ps : List CrlDistributionPoint) → length (map uris_of ps) ≡ length ps
points_seen ps = length-map ps uris_of

pub ruleset places = (constraints_seen, points_seen)
