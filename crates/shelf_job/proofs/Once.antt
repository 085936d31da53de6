-- What is to be signed and what is issued are one string of octets each.
use Rattle.std.proofs.Common.{◌≡◌, ◌∙◌, ℕ, List, [], Option, Result, Ok, sym, subst}
use Rattle.attr_issue.specs.AttributeCertificateView.{AttributeCertificateView}
use Rattle.attr_issue.specs.AttributeCertificates.{IssuesAttribute}
use Rattle.pkix_name.specs.declared.name.Name.{Name}
use Rattle.rcgen_certificate.specs.Issuers.{IssuerView}
use Rattle.rcgen_certificate.specs.ParamsView.{ParamsView}
use Rattle.rcgen_certificate.specs.Requests.{Requests}
use Rattle.rcgen_certificate.specs.Signed.{FitsOnce}
use Rattle.rcgen_issue.specs.CrlView.{CrlView}
use Rattle.rcgen_sign.specs.Keys.{Key}
use Rattle.rcgen_tbs.proofs.Once.{OneInfo}
use Rattle.rcgen_tbs.specs.Deltas.{IsListMessage, IsListOver}
use Rattle.rcgen_tbs.specs.Messages.{IsAttributeMessage}
use Rattle.rcgen_tbs.specs.Named.{IsCertificateMessageAs, IsCertificateOverAs}
use Rattle.rcgen_tbs.specs.declared.subject.Subject.{Subject}
use Rattle.shelf_fault.specs.declared.fault.Fault.{Fault}
use Rattle.shelf_job.proofs.NamedRequests.{one_over_as, one_request_as}
use Rattle.shelf_job.specs.Jobs.{Is, attribute_issuer_in, issuer_in, list_issuer_in}
use Rattle.shelf_job.specs.Once.{HasOneDer, HasOneMessage}
use Rattle.shelf_job.specs.declared.job.Job.TheVariants as job

one_issuer : (found : Result IssuerView Fault) (i k : IssuerView) → found ≡ Ok i → found ≡ Ok k → i ≡ k
one_issuer found i k e f = cc

pub one_message : ((params : ParamsView) (subject : Subject) (name : Option Name) (issuer : IssuerView) (m n : List ℕ)
    → IsCertificateMessageAs params subject name issuer m → IsCertificateMessageAs params subject name issuer n → m ≡ n)
    → ((base : Option (List ℕ)) (params : CrlView) (issuer : IssuerView) (m n : List ℕ)
    → IsListMessage base params issuer m → IsListMessage base params issuer n → m ≡ n)
    → OneInfo
    → ((params : AttributeCertificateView) (issuer : IssuerView) (m n : List ℕ)
    → IsAttributeMessage params issuer m → IsAttributeMessage params issuer n → m ≡ n)
    → HasOneMessage
one_message certificate list request attribute (job.Certificate a) m n x y =
    let same = one_issuer (issuer_in a) x.0 y.0 x.1 y.1 in
    certificate a.params a.subject a.name y.0 m n (subst (λ (i : IssuerView). IsCertificateMessageAs a.params a.subject a.name i m) same x.2) y.2
one_message certificate list request attribute (job.Request a) m n x y = one_request_as request a.params a.key a.name m n x y
one_message certificate list request attribute (job.List a) m n x y =
    let same = one_issuer (list_issuer_in a) x.0 y.0 x.1 y.1 in
    list a.base a.params y.0 m n (subst (λ (i : IssuerView). IsListMessage a.base a.params i m) same x.2) y.2
one_message certificate list request attribute (job.Attribute a) m n x y =
    let same = one_issuer (attribute_issuer_in a) x.0 y.0 x.1 y.1 in
    attribute a.params y.0 m n (subst (λ (i : IssuerView). IsAttributeMessage a.params i m) same x.2) y.2

pub is_once : (signature : List ℕ) → FitsOnce (Is signature)
is_once signature message s t e f = e ∙ sym f

pub one_der : ((signature : List ℕ) (params : ParamsView) (subject : Subject) (name : Option Name) (issuer : IssuerView) (m n a b : List ℕ)
    → IsCertificateOverAs params subject name issuer (Is signature) m a → IsCertificateOverAs params subject name issuer (Is signature) n b → a ≡ b)
    → ((signature : List ℕ) (base : Option (List ℕ)) (params : CrlView) (issuer : IssuerView) (m n a b : List ℕ)
    → IsListOver base params issuer (Is signature) m a → IsListOver base params issuer (Is signature) n b → a ≡ b)
    → OneInfo
    → ((signature : List ℕ) (params : ParamsView) (subject : Key) (a b : List ℕ)
    → Requests params subject [] (Is signature) a → Requests params subject [] (Is signature) b → a ≡ b)
    → ((signature : List ℕ) (params : AttributeCertificateView) (issuer : IssuerView) (a b : List ℕ)
    → IssuesAttribute params issuer (Is signature) a → IssuesAttribute params issuer (Is signature) b → a ≡ b)
    → HasOneDer
one_der certificate list info request attribute (job.Certificate j) s m n a b x y =
    let same = one_issuer (issuer_in j) x.0 y.0 x.1 y.1 in
    certificate s j.params j.subject j.name y.0 m n a b
    (subst (λ (i : IssuerView). IsCertificateOverAs j.params j.subject j.name i (Is s) m a) same x.2) y.2
one_der certificate list info request attribute (job.Request j) s m n a b x y =
    one_over_as info j.params j.key j.name (Is s) (is_once s) (request s j.params j.key) m n a b x y
one_der certificate list info request attribute (job.List j) s m n a b x y =
    let same = one_issuer (list_issuer_in j) x.0 y.0 x.1 y.1 in
    list s j.base j.params y.0 m n a b (subst (λ (i : IssuerView). IsListOver j.base j.params i (Is s) m a) same x.2) y.2
one_der certificate list info request attribute (job.Attribute j) s m n a b x y =
    let same = one_issuer (attribute_issuer_in j) x.0 y.0 x.1 y.1 in
    attribute s j.params y.0 a b (subst (λ (i : IssuerView). IssuesAttribute j.params i (Is s) a) same (x.2.certificate, x.2.issued))
    (y.2.certificate, y.2.issued)
