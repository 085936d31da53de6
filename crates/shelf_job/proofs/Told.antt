-- What is to be signed for a job, by its steps.
use Rattle.std.proofs.Common.{◌≡◌, ◌∙◌, ℕ, List, Result, Ok, Err, IsErrAnd, ap, subst, sym}
use Rattle.rcgen_certificate.specs.Issue.{first_cause}
use Rattle.rcgen_certificate.specs.Issuers.{IssuerView}
use Rattle.rcgen_sign.specs.Keys.{Key}
use Rattle.rcgen_tbs.specs.Deltas.{IsListMessage}
use Rattle.rcgen_tbs.specs.Messages.{IsAttributeMessage}
use Rattle.rcgen_tbs.specs.Named.{IsCertificateMessageAs}
use Rattle.shelf_fault.specs.Faults.{MayFail, Passes, and_then, no_cause}
use Rattle.shelf_fault.specs.declared.fault.Fault.{Fault}
use Rattle.shelf_job.specs.Asked.{AttributeAsked, CertificateAsked, ListAsked, RequestAsked}
use Rattle.shelf_job.specs.Jobs.{IsMessage, attribute_issuer, attribute_issuer_in, has_info, has_name_octets, issuer_by, issuer_in, list_issuer, list_issuer_in, ready}
use Rattle.shelf_job.specs.NamedRequests.{IsRequestMessageAs}
use Rattle.shelf_job.specs.declared.job.Job.TheVariants as job

-- ---- certificates: b are the parts of the job a, and k is its key

by_key : (a b : CertificateAsked) (k : Key) (i : IssuerView) → b ≡ a → k ≡ b.key → issuer_by a.issuer a.name a.params k ≡ Ok i → issuer_in a ≡ Ok i
by_key a b k i same key by =
    subst (λ (x : Key). issuer_by a.issuer a.name a.params x ≡ Ok i) (key ∙ ap (λ (x : CertificateAsked). x.key) same) by

pub certificate_told : (a b : CertificateAsked) (k : Key) (i : IssuerView) (m : List ℕ) → b ≡ a → k ≡ b.key
    → issuer_by a.issuer a.name a.params k ≡ Ok i → IsCertificateMessageAs b.params b.subject b.name i m → IsMessage (job.Certificate a) m
certificate_told a b k i m same key by message =
    (i, by_key a b k i same key by, subst (λ (x : CertificateAsked). IsCertificateMessageAs x.params x.subject x.name i m) same message)

-- why nothing is to be signed under this issuer
abbrev under : CertificateAsked → IssuerView → Result (Unit {0}) Fault
under a i = and_then (has_info a.subject) (λ u. and_then (has_name_octets a.name) (λ u. no_cause (first_cause a.params i.name)))

pub certificate_ready : (a b : CertificateAsked) (k : Key) (i : IssuerView) → b ≡ a → k ≡ b.key → issuer_by a.issuer a.name a.params k ≡ Ok i
    → under b i ≡ Ok tt → ready (job.Certificate a) ≡ Ok tt
certificate_ready a b k i same key by h =
    ap (λ (r : Result IssuerView Fault). and_then r (under a)) (by_key a b k i same key by)
    ∙ subst (λ (x : CertificateAsked). under x i ≡ Ok tt) same h

pub certificate_refused : {X : Type 0} (a b : CertificateAsked) (k : Key) (i : IssuerView) (r : Result X Fault) (f : Fault) → b ≡ a → k ≡ b.key
    → issuer_by a.issuer a.name a.params k ≡ Ok i → IsErrAnd r (λ e. e ≡ f) → MayFail (under b i) f → Passes (ready (job.Certificate a)) r
certificate_refused a b k i (Ok x) f same key by p h = absurd p
certificate_refused a b k i (Err e) f same key by p h = λ n.
    ap (λ (r : Result IssuerView Fault). and_then r (under a)) (by_key a b k i same key by)
    ∙ subst (λ (x : CertificateAsked). under x i ≡ Err f) same (h (λ q. n (p ∙ q))) ∙ ap (λ (x : Fault). Err x) (sym p)

-- ---- requests, the same

pub request_told : (a b : RequestAsked) (k : Key) (m : List ℕ) → b ≡ a → k ≡ b.key → IsRequestMessageAs b.params k b.name m
    → IsMessage (job.Request a) m
request_told a b k m same key message =
    subst (λ (x : RequestAsked). IsRequestMessageAs x.params x.key x.name m) same
    (subst (λ (x : Key). IsRequestMessageAs b.params x b.name m) key message)

-- ---- revocation lists: o are the octets of the issuer's certificate

by_list_key : (a b : ListAsked) (o : List ℕ) (k : Key) (i : IssuerView) → b ≡ a → o ≡ b.issuer → k ≡ b.key
    → list_issuer o k ≡ Ok i → list_issuer_in a ≡ Ok i
by_list_key a b o k i same octets key by =
    subst (λ (x : ListAsked). list_issuer_in x ≡ Ok i) same
    (subst (λ (x : Key). list_issuer b.issuer x ≡ Ok i) key (subst (λ (x : List ℕ). list_issuer x k ≡ Ok i) octets by))

pub list_told : (a b : ListAsked) (o : List ℕ) (k : Key) (i : IssuerView) (m : List ℕ) → b ≡ a → o ≡ b.issuer → k ≡ b.key
    → list_issuer o k ≡ Ok i → IsListMessage b.base b.params i m → IsMessage (job.List a) m
list_told a b o k i m same octets key by message =
    (i, by_list_key a b o k i same octets key by, subst (λ (x : ListAsked). IsListMessage x.base x.params i m) same message)

-- ---- attribute certificates, the same

by_attribute_key : (a b : AttributeAsked) (o : List ℕ) (k : Key) (i : IssuerView) → b ≡ a → o ≡ b.issuer → k ≡ b.key
    → attribute_issuer o k ≡ Ok i → attribute_issuer_in a ≡ Ok i
by_attribute_key a b o k i same octets key by =
    subst (λ (x : AttributeAsked). attribute_issuer_in x ≡ Ok i) same
    (subst (λ (x : Key). attribute_issuer b.issuer x ≡ Ok i) key (subst (λ (x : List ℕ). attribute_issuer x k ≡ Ok i) octets by))

pub attribute_told : (a b : AttributeAsked) (o : List ℕ) (k : Key) (i : IssuerView) (m : List ℕ) → b ≡ a → o ≡ b.issuer → k ≡ b.key
    → attribute_issuer o k ≡ Ok i → IsAttributeMessage b.params i m → IsMessage (job.Attribute a) m
attribute_told a b o k i m same octets key by message =
    (i, by_attribute_key a b o k i same octets key by, subst (λ (x : AttributeAsked). IsAttributeMessage x.params i m) same message)
