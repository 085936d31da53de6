-- From an order to the issuer's certificate and the key that signs.
use Rattle.std.specs.Prelude.{Err, List, None, Ok, Option, Result, Some, is_some, not, ok_or, refl, true, ℕ, [], ◌≡◌}
use Rattle.std.proofs.Common.{ap, subst, sym, ◌∙◌}
use Rattle.std.proofs.lemmas.List.{append-nil}
use Rattle.asn1_core.specs.Binds.{◌>>=◌, bind_is}
use Rattle.der_tree.specs.Element.{Element}
use Rattle.der_tree.specs.Form.{IsDerOf, value_of}
use Rattle.der_tree.proofs.FormLaws.{front_is, value_there}
use Rattle.issuer_check.specs.Judged.{authority_checked}
use Rattle.pkix_cert.specs.Certificates.{certificate}
use Rattle.pkix_cert.specs.declared.certificate.Certificate.{Certificate}
use Rattle.pkix_name.specs.declared.name.Name.{Name}
use Rattle.rcgen_certificate.specs.Issuers.{IssuerView, issuer_view}
use Rattle.rcgen_certificate.specs.ParamsView.{ParamsView}
use Rattle.rcgen_read.specs.IssuerReading.{CertifiedIssuer, certificate_at, certified as certified_as, read_certified}
use Rattle.rcgen_read.specs.Reading.{and_then as read_then}
use Rattle.rcgen_read.specs.ReceivedRequests.{front_at}
use Rattle.rcgen_sign.specs.KeyIds.{Method}
use Rattle.rcgen_sign.specs.Keys.{Key}
use Rattle.rcgen_tbs.specs.Named.{IsCertificateOverAs}
use Rattle.rcgen_tbs.specs.declared.subject.Subject.{Subject}
use Rattle.rcgen_text.specs.Causes.{Cause, not_certificate}
use Rattle.rcgen_text.specs.declared.key_usage.KeyUsagePurpose.{KeyUsagePurpose}
use Rattle.shelf_fault.specs.Faults.{and_then, by_cause, some_or}
use Rattle.shelf_fault.specs.declared.fault.Fault.{Fault}
use Rattle.shelf_fault.specs.declared.fault.Fault.TheVariants as fault
use Rattle.shelf_fault.specs.declared.fault.IssuerFault.TheVariants.{NoAuthority, NoCertSign}
use Rattle.shelf_fault.specs.declared.fault.Place.TheVariants as place
use Rattle.shelf_input.specs.declared.blocks.Blocks.{Blocks}
use Rattle.shelf_job.specs.Asked.{AttributeAsked, CertificateAsked, ListAsked, RequestAsked}
use Rattle.shelf_job.specs.Issuers.{authority_key, certificate_of, certified, is_authority, signs_certificates, with_key}
use Rattle.shelf_params.specs.CommonNames.{with_common_names}
use Rattle.shelf_job.specs.Jobs.{Is, attribute_asked, certificate_asked, certificate_issuer, issuer_by, job_of, list_asked, name_of, own_named, own_signing, params_asked, request_asked, signing_key, subject_of, subject_place}
use Rattle.shelf_job.specs.declared.job.Job.TheVariants as job
use Rattle.shelf_keys.specs.Keys.{key_of_info}
use Rattle.shelf_keys.specs.Refusing.{refuse}
use Rattle.shelf_keys.specs.Signatures.{checked, is_verified, verifier}
use Rattle.shelf_profile.specs.declared.certificate.CertificateOrder.{CertificateOrder}
use Rattle.shelf_profile.specs.declared.order.Order.{Order}
use Rattle.shelf_profile.specs.declared.order.Order.TheVariants as ordered
use Rattle.shelf_profile.specs.declared.preset.Preset.{Preset}
use Rattle.shelf_profile.specs.declared.signing.Signing.{Signing}
use Rattle.signature_verifier.specs.Accepted.{accepts}
use Rattle.issued_path.specs.Causes.{IsAccepted}
use Rattle.sealed_path.proofs.Keys.{not_refused, ok_same, then_ok}
use Rattle.sealed_path.proofs.Sealing.{taken_is_accepted}
use Rattle.ordered_path.specs.Ordered.{OrderedIsSealed, OwnIsIssued}

-- ---- the order is one of a certificate

certificate_alone : (r : Result CertificateAsked Fault) (a : CertificateAsked) → and_then r (λ x. Ok (job.Certificate x)) ≡ Ok (job.Certificate a) → r ≡ Ok a
certificate_alone (Ok x) a e = cc
certificate_alone (Err f) a e = absurd cc

no_request : (r : Result RequestAsked Fault) (a : CertificateAsked) → and_then r (λ x. Ok (job.Request x)) ≡ Ok (job.Certificate a) → ⊥
no_request (Ok x) a e = cc
no_request (Err f) a e = cc

no_list : (r : Result ListAsked Fault) (a : CertificateAsked) → and_then r (λ x. Ok (job.List x)) ≡ Ok (job.Certificate a) → ⊥
no_list (Ok x) a e = cc
no_list (Err f) a e = cc

no_attribute : (r : Result AttributeAsked Fault) (a : CertificateAsked) → and_then r (λ x. Ok (job.Attribute x)) ≡ Ok (job.Certificate a) → ⊥
no_attribute (Ok x) a e = cc
no_attribute (Err f) a e = cc

asked_of : (order : Order) (blocks : Blocks) (a : CertificateAsked) → job_of order blocks ≡ Ok (job.Certificate a)
    → (o : CertificateOrder) × (p : Option Preset) × (certificate_asked o p blocks ≡ Ok a)
unfolding job_of
asked_of (ordered.Certificate o p) blocks a e = (o, p, certificate_alone (certificate_asked o p blocks) a e)
asked_of (ordered.Request o) blocks a e = absurd (no_request (request_asked o blocks) a e)
asked_of (ordered.List o) blocks a e = absurd (no_list (list_asked o blocks) a e)
asked_of (ordered.Attribute o) blocks a e = absurd (no_attribute (attribute_asked o blocks) a e)

-- ---- the key that signs, and the issuer's certificate

key_there : (o : CertificateOrder) (p : Option Preset) (blocks : Blocks) (a : CertificateAsked) → certificate_asked o p blocks ≡ Ok a
    → (subject : Subject) × (signing_key blocks.certificate o.signing (subject_place blocks.request) subject ≡ Ok a.key) × (a.issuer ≡ blocks.certificate)
unfolding certificate_asked
key_there o p blocks a e =
    let params = then_ok (params_asked o.content o.days o.access p (is_some blocks.certificate)) _ a e in
    let subject = then_ok (subject_of blocks.public_key blocks.request (own_signing (is_some blocks.certificate) o.signing) o.request (name_of o.parts) params.0) _ a params.2 in
    let named = then_ok (with_common_names o.copy_cn o.request subject.0.1 subject.0.2) _ a subject.2 in
    let key = then_ok (signing_key blocks.certificate o.signing (subject_place blocks.request) subject.0.0) _ a named.2 in
    let made : CertificateAsked = record { params = named.0; name = subject.0.1; subject = subject.0.0; issuer = blocks.certificate; key = key.0; weak_key = o.weak_key } in
    let same : made ≡ a = ok_same made a _ refl key.2 in (
      subject.0.0,
      subst (λ (x : CertificateAsked). signing_key blocks.certificate o.signing (subject_place blocks.request) subject.0.0 ≡ Ok x.key) same key.1,
      ap (λ (x : CertificateAsked). x.issuer) (sym same),
    )

value_here : (o : Option Certificate) (fault : Fault) (c : Certificate) → some_or o fault ≡ Ok c → o ≡ Some c
value_here None fault c e = absurd cc
value_here (Some x) fault c e = cc

pub record Authority (issuer : List ℕ) (signing : Signing) (key : Key) : Type 0 where
  pub c : Certificate
  pub form : IsDerOf certificate c issuer
  pub authority : is_authority c ≡ true
  pub checked : authority_checked issuer ≡ Ok tt
  pub key_is : key_of_info place.Issuer signing c.tbs_certificate.subject_public_key_info ≡ Ok key

authority_there : (issuer : List ℕ) (signing : Signing) (key : Key) → authority_key issuer signing ≡ Ok key → Authority issuer signing key
unfolding authority_key certificate_of
authority_there issuer signing key e =
    let c = then_ok (some_or (value_of certificate issuer) _) _ key e in
    let r = then_ok (refuse (not (is_authority c.0)) (fault.Issuer NoAuthority)) _ key c.2 in
    let j = then_ok (authority_checked issuer) _ key r.2 in record {
      c = c.0;
      form = value_there certificate issuer c.0 (value_here (value_of certificate issuer) _ c.0 c.1);
      authority = not_refused (is_authority c.0) _ r.0 r.1;
      checked = j.1;
      key_is = j.2;
    }

-- ---- the issuer's name

cause_free : (r : Result CertifiedIssuer Cause) (i : CertifiedIssuer) → by_cause r ≡ Ok i → r ≡ Ok i
cause_free (Ok x) i e = cc
cause_free (Err c) i e = absurd cc

field_is : (r : Result (List KeyUsagePurpose) Cause) (field : Option Name) (method : Method) (i : CertifiedIssuer)
    → read_then r (λ usages. Ok (record { field = field; method = method; usages = usages })) ≡ Ok i → i.field ≡ field
field_is (Ok usages) field method i e = cc
field_is (Err c) field method i e = absurd cc

name_is : (c : Certificate) (i : CertifiedIssuer) → certified_as c ≡ Ok i → i.field ≡ Some c.tbs_certificate.subject
name_is c i e = field_is _ (Some c.tbs_certificate.subject) _ i e

at_front : (issuer : List ℕ) (c : Certificate) → IsDerOf certificate c issuer → certificate_at issuer ≡ Some c
at_front issuer c h =
    let f = front_is certificate issuer c issuer [] h (sym (append-nil issuer)) in
    bind_is (front_at issuer) certificate.read_of h.1 (Some c) (ap (λ (o : Option (Element × List ℕ)). o >>= λ x. Some x.0) f.0) f.1

certified_name : (issuer : List ℕ) (c : Certificate) (i : CertifiedIssuer) → IsDerOf certificate c issuer → certified issuer ≡ Ok i → i.field ≡ Some c.tbs_certificate.subject
unfolding certified
certified_name issuer c i h e =
    name_is c i (sym (ap (λ (o : Option Certificate). read_then (ok_or o not_certificate) certified_as) (at_front issuer c h)) ∙ cause_free (read_certified issuer) i e)

-- ---- the issuer

pub record Issuing (issuer : List ℕ) (key : Key) (v : IssuerView) : Type 0 where
  pub i : CertifiedIssuer
  pub read : certified issuer ≡ Ok i
  pub signs : signs_certificates i.usages ≡ true
  pub same : with_key i key ≡ v

issuing : (issuer : List ℕ) (key : Key) (v : IssuerView) → certificate_issuer issuer key ≡ Ok v → Issuing issuer key v
unfolding certificate_issuer
issuing issuer key v e =
    let i = then_ok (certified issuer) _ v e in
    let r = then_ok (refuse (not (signs_certificates i.0.usages)) (fault.Issuer NoCertSign)) _ v i.2 in record {
      i = i.0;
      read = i.1;
      signs = not_refused (signs_certificates i.0.usages) _ r.0 r.1;
      same = ok_same (with_key i.0 key) v _ refl r.2;
    }

-- ---- the laws

pub ordered_is : OrderedIsSealed
ordered_is order blocks a message signature der w issuer e =
    let o = asked_of order blocks a w.asked in
    let k = key_there o.0 o.1 blocks a o.2 in
    let signing : Signing = o.0.signing in
    let there = authority_there issuer signing a.key (sym (ap (λ (x : Option (List ℕ)). signing_key x signing (subject_place blocks.request) k.0) e) ∙ k.1) in
    let v : IssuerView = w.sealed.sealed.0 in
    let from = issuing issuer a.key v (sym (ap (λ (x : Option (List ℕ)). issuer_by x a.name a.params a.key) (k.2 ∙ e)) ∙ w.sealed.sealed.1) in
    let c : Certificate = there.c in
    let named : from.i.field ≡ Some c.tbs_certificate.subject = certified_name issuer c from.i there.form from.read in
    let view : v ≡ issuer_view (Some c.tbs_certificate.subject) from.i.method from.i.usages a.key =
    sym from.same ∙ ap (λ (f : Option Name). issuer_view f from.i.method from.i.usages a.key) named in record {
      certificate = c;
      signing = signing;
      method = from.i.method;
      usages = from.i.usages;
      sealed = record {
        certificate = there.form;
        key_is = there.key_is;
        verified = w.verified;
        taken = w.sealed.taken;
        sealed = subst (λ (i : IssuerView). IsCertificateOverAs a.params a.subject a.name i (Is signature) message der) view w.sealed.sealed.2;
      };
      authority = there.authority;
      checked = there.checked;
      signs = from.signs;
    }

-- under a name of its own or the parameters', it has the key that signs
own_accepted : (name : Option Name) (params : ParamsView) (key : Key) (message signature : List ℕ) → is_verified key.algorithm ≡ true
    → checked key message signature ≡ Ok tt → IsAccepted (accepts verifier) (own_named name params key) message signature
own_accepted None params key message signature is h = taken_is_accepted key message signature is h
own_accepted (Some name) params key message signature is h = taken_is_accepted key message signature is h

pub own_is : OwnIsIssued
own_is order blocks a message signature der w e =
    let o = asked_of order blocks a w.asked in
    let k = key_there o.0 o.1 blocks a o.2 in
    let v : IssuerView = w.sealed.sealed.0 in
    let view : v ≡ own_named a.name a.params a.key =
    ok_same v (own_named a.name a.params a.key) (issuer_by a.issuer a.name a.params a.key) w.sealed.sealed.1 (ap (λ (x : Option (List ℕ)). issuer_by x a.name a.params a.key) (k.2 ∙ e)) in record {
      signature = signature;
      issued = subst (λ (i : IssuerView). IsCertificateOverAs a.params a.subject a.name i (Is signature) message der) view w.sealed.sealed.2;
      accepted = own_accepted a.name a.params a.key message signature w.verified w.sealed.taken;
    }
