-- What no cause says of parameters, and the cause that is left.
use Rattle.std.specs.Prelude.{◌≡◌, Bool, true, ◌&&◌, not, List, length, map, Option, Some, None, is_some, refl}
use Rattle.std.specs.List.{list_all}
use Rattle.std.specs.Option.{option_map, option_or}
use Rattle.std.proofs.Common.{sym, ap, ◌∙◌, subst}
use Rattle.std.proofs.lemmas.List.{length-map}
use Rattle.std.proofs.lemmas.List.Folds.{list_all-map}
use Rattle.std.proofs.lemmas.Simd.{map-map}
use Rattle.asn1_core.specs.Binds.{and_true}
use Rattle.pkix_name.specs.declared.name.Name.{Name}
use Rattle.rcgen_text.specs.Causes.{Cause, Explains, Origin, attribute_values, identifier, time, when}
use Rattle.rcgen_certificate.specs.NameValues.{issuer_name}
use Rattle.rcgen_certificate.specs.Requests.{attribute_value, given_of, has_attribute_type, has_values}
use Rattle.rcgen_certificate.specs.WrittenTimes.{is_utc}
use Rattle.rcgen_certificate.specs.declared.csr.Attribute.{Attribute}
use Rattle.rcgen_certificate.proofs.NoCause.{neither, not_unset}
use Rattle.rcgen_certificate.proofs.Requests.{or_none}
use Rattle.attr_issue.specs.AttributeCauses.{AttributeCause, attributes_cause, first_attribute_cause, all_oids_valid, has_times, refused}
use Rattle.attr_issue.specs.AttributeCauses.{has_set, has_type, refused_cause, HasNoEarlyCause}
use Rattle.attr_issue.specs.AttributeCertificateView.{AttributeCertificateView}
use Rattle.attr_issue.specs.AttributeCertificates.{attribute_of}

-- ---- the times and the identifiers

pub no_early : (params : AttributeCertificateView) (issuer : Option Name) → has_times params ≡ true → (is_some issuer && all_oids_valid params) ≡ true
    → HasNoEarlyCause params issuer
no_early params issuer t i =
    let times = and_true (is_utc params.not_before) (is_utc params.not_after) t in
    let names = and_true (is_some issuer) (all_oids_valid params) i in
    let own = and_true (is_some (issuer_name params.holder_issuer)) (list_all has_type params.attributes) names.1 in
    record {
      not_before = times.0;
      not_after = times.1;
      issuer_types = names.0;
      holder_types = own.0;
      attribute_types = own.1;
    }

pub ruleset parts = (no_early)

-- ---- the values of attributes, the cause that is left

cause_left : (params : AttributeCertificateView) (issuer : Option Name) → HasNoEarlyCause params issuer
    → refused_cause params issuer ≡ when (not (list_all has_set params.attributes)) attribute_values
cause_left params issuer n =
    rw (n.not_before, n.not_after, n.issuer_types, n.holder_types, n.attribute_types)
    (or_none (when (not (list_all has_set params.attributes)) attribute_values))

pub none_left : (params : AttributeCertificateView) (issuer : Option Name) → HasNoEarlyCause params issuer
    → list_all has_set params.attributes ≡ true → refused_cause params issuer ≡ None
none_left params issuer n h = cause_left params issuer n ∙ ap (λ (v : Bool). when (not v) attribute_values) h

pub some_left : (params : AttributeCertificateView) (issuer : Option Name) (o : Origin) → HasNoEarlyCause params issuer
    → Explains (when (not (list_all has_set params.attributes)) attribute_values) ⊥ o → Explains (refused_cause params issuer) ⊥ o
some_left params issuer o n h = subst (λ (f : Option Cause). Explains f ⊥ o) (sym (cause_left params issuer n)) h

-- ---- no cause at all

none_refused : (a : Option AttributeCause) (o : Option Cause) → option_or a (option_map refused o) ≡ None → o ≡ None
none_refused None None h = refl
none_refused None (Some c) h = absurd cc
none_refused (Some a) o h = absurd cc

pub none_of_all : (params : AttributeCertificateView) (issuer : Option Name) → first_attribute_cause params issuer ≡ None
    → HasNoEarlyCause params issuer × (list_all has_set params.attributes ≡ true)
none_of_all params issuer h =
    let identified = is_some issuer && all_oids_valid params in
    let values = list_all has_set params.attributes in
    let none = none_refused (attributes_cause params.attributes) (refused_cause params issuer) h in
    let first = neither (when (not (has_times params)) time) _ none in
    let second = neither (when (not identified) identifier) _ first.1 in
    let third = neither (when (not values) attribute_values) None second.1 in (
      no_early params issuer (not_unset (has_times params) time first.0) (not_unset identified identifier second.0),
      not_unset values attribute_values third.0,
    )

-- ---- what is tested and written of the attributes is tested and written of their views

pub count_seen : (gs : List Attribute) → length (map given_of gs) ≡ length gs
count_seen gs = length-map gs given_of

pub types_seen : (gs : List Attribute) → list_all has_type (map given_of gs) ≡ list_all has_attribute_type gs
types_seen gs = list_all-map has_type given_of gs

pub sets_seen : (gs : List Attribute) → list_all has_set (map given_of gs) ≡ list_all has_values gs
sets_seen gs = list_all-map has_set given_of gs

pub written_seen : (gs : List Attribute) → map attribute_of (map given_of gs) ≡ map attribute_value gs
written_seen gs = map-map attribute_of given_of gs

pub ruleset tests = (count_seen, types_seen)
