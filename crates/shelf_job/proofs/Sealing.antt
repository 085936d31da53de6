-- What is assembled over the message of a job is what is issued for it.
use Rattle.std.proofs.Common.{◌≡◌, ◌∙◌, ℕ, true, List, Option, Some, None, Result, Ok, Err, ap, refl, subst, sym}
use Rattle.attr_issue.specs.AttributeCertificateView.{AttributeCertificateView}
use Rattle.der_tree.specs.AnyElement.{is_one}
use Rattle.pkix_name.specs.declared.name.Name.{Name}
use Rattle.rcgen_certificate.specs.Issuers.{IssuerView, own_view}
use Rattle.rcgen_certificate.specs.ParamsView.{ParamsView}
use Rattle.rcgen_certificate.specs.Signed.{IsAssembled}
use Rattle.rcgen_certificate.specs.declared.csr.Attribute.{Attribute}
use Rattle.rcgen_issue.specs.CrlView.{CrlView}
use Rattle.rcgen_read.specs.IssuerReading.{CertifiedIssuer}
use Rattle.rcgen_sign.specs.Keys.{Key}
use Rattle.rcgen_sign.specs.declared.sign_algo.SignatureAlgorithm.{SignatureAlgorithm}
use Rattle.rcgen_tbs.specs.Messages.{IsAttributeMessage, IsAttributeOver, IsRequestMessage, IsRequestOver}
use Rattle.rcgen_tbs.specs.Deltas.{IsListMessage, IsListOver}
use Rattle.rcgen_tbs.specs.Named.{IsCertificateMessageAs, IsCertificateOverAs}
use Rattle.rcgen_tbs.specs.declared.subject.Subject.{Subject}
use Rattle.shelf_fault.specs.Faults.{and_then}
use Rattle.shelf_fault.specs.declared.fault.Fault.{Fault}
use Rattle.shelf_job.proofs.NamedRequests.{request_as_is_one, request_assembled_as}
use Rattle.shelf_job.specs.Issuers.{certified, with_key}
use Rattle.shelf_job.specs.Jobs.{IsMessage, IsSealed, attribute_issuer, certificate_issuer, issuer_by, key_of, list_issuer, own_named}
use Rattle.shelf_job.specs.declared.job.Job.{Job}
use Rattle.shelf_job.specs.declared.job.Job.TheVariants as job

-- ---- an issuer signs by the algorithm of its key

one_algorithm : (i j : IssuerView) → (let r : Result IssuerView Fault = Ok i in r ≡ Ok j) → j.algorithm ≡ i.algorithm
one_algorithm i j e = cc

passed : (r : Result (Unit {0}) Fault) (c : CertifiedIssuer) (k : Key) (i : IssuerView) → and_then r (λ u. Ok (with_key c k)) ≡ Ok i
    → i.algorithm ≡ k.algorithm
passed (Ok u) c k i e = one_algorithm (with_key c k) i e
passed (Err f) c k i e = absurd cc

certified_by : (found : Result CertifiedIssuer Fault) (test : CertifiedIssuer → Result (Unit {0}) Fault) (k : Key) (i : IssuerView)
    → and_then found (λ c. and_then (test c) (λ u. Ok (with_key c k))) ≡ Ok i → i.algorithm ≡ k.algorithm
certified_by (Ok c) test k i e = passed (test c) c k i e
certified_by (Err f) test k i e = absurd cc

by_certificate : (issuer : List ℕ) (k : Key) (i : IssuerView) → certificate_issuer issuer k ≡ Ok i → i.algorithm ≡ k.algorithm
unfolding certificate_issuer
by_certificate issuer k i e = certified_by (certified issuer) _ k i e

by_issuer : (issuer : Option (List ℕ)) (name : Option Name) (params : ParamsView) (k : Key) (i : IssuerView) → issuer_by issuer name params k ≡ Ok i
    → i.algorithm ≡ k.algorithm
by_issuer None None params k i e = one_algorithm (own_view params k) i e
by_issuer None (Some name) params k i e = one_algorithm (own_named (Some name) params k) i e
by_issuer (Some issuer) name params k i e = by_certificate issuer k i e

by_list : (issuer : List ℕ) (k : Key) (i : IssuerView) → list_issuer issuer k ≡ Ok i → i.algorithm ≡ k.algorithm
unfolding list_issuer
by_list issuer k i e = certified_by (certified issuer) (λ c. Ok tt) k i e

by_attribute : (issuer : List ℕ) (k : Key) (i : IssuerView) → attribute_issuer issuer k ≡ Ok i → i.algorithm ≡ k.algorithm
unfolding attribute_issuer
by_attribute issuer k i e = certified_by (certified issuer) _ k i e

under : (a b : SignatureAlgorithm) (message s der : List ℕ) → a ≡ b → IsAssembled message b s der → IsAssembled message a s der
under a b message s der e h = subst (λ (x : SignatureAlgorithm). IsAssembled message x s der) (sym e) h

-- ---- each kind

pub sealed_over : ((params : ParamsView) (subject : Subject) (name : Option Name) (issuer : IssuerView) (s message der : List ℕ)
    → IsCertificateMessageAs params subject name issuer message → IsAssembled message issuer.algorithm s der
    → IsCertificateOverAs params subject name issuer (λ m t. t ≡ s) message der)
    → ((base : Option (List ℕ)) (params : CrlView) (issuer : IssuerView) (s message der : List ℕ)
    → IsListMessage base params issuer message → IsAssembled message issuer.algorithm s der → IsListOver base params issuer (λ m t. t ≡ s) message der)
    → ((params : ParamsView) (subject : Key) (attrs : List Attribute) (s message der : List ℕ)
    → IsRequestMessage params subject attrs message → IsAssembled message subject.algorithm s der
    → IsRequestOver params subject attrs (λ m t. t ≡ s) message der)
    → ((params : AttributeCertificateView) (issuer : IssuerView) (s message der : List ℕ)
    → IsAttributeMessage params issuer message → IsAssembled message issuer.algorithm s der
    → IsAttributeOver params issuer (λ m t. t ≡ s) message der)
    → (j : Job) (message s der : List ℕ) → IsMessage j message → IsAssembled message (key_of j).algorithm s der → IsSealed j message s der
sealed_over certificate list request attribute (job.Certificate a) message s der h k =
    let same = by_issuer a.issuer a.name a.params a.key h.0 h.1 in
    (h.0, h.1, certificate a.params a.subject a.name h.0 s message der h.2 (under h.0.algorithm a.key.algorithm message s der same k))
sealed_over certificate list request attribute (job.Request a) message s der h k = request_assembled_as request a.params a.key a.name s message der h k
sealed_over certificate list request attribute (job.List a) message s der h k =
    let same = by_list a.issuer a.key h.0 h.1 in
    (h.0, h.1, list a.base a.params h.0 s message der h.2 (under h.0.algorithm a.key.algorithm message s der same k))
sealed_over certificate list request attribute (job.Attribute a) message s der h k =
    let same = by_attribute a.issuer a.key h.0 h.1 in
    (h.0, h.1, attribute a.params h.0 s message der h.2 (under h.0.algorithm a.key.algorithm message s der same k))

pub message_is_one : ((params : ParamsView) (subject : Subject) (name : Option Name) (issuer : IssuerView) (m : List ℕ)
    → IsCertificateMessageAs params subject name issuer m → is_one m ≡ true)
    → ((base : Option (List ℕ)) (params : CrlView) (issuer : IssuerView) (m : List ℕ) → IsListMessage base params issuer m → is_one m ≡ true)
    → ((params : ParamsView) (subject : Key) (attrs : List Attribute) (m : List ℕ) → IsRequestMessage params subject attrs m → is_one m ≡ true)
    → ((params : AttributeCertificateView) (issuer : IssuerView) (m : List ℕ) → IsAttributeMessage params issuer m → is_one m ≡ true)
    → (j : Job) (m : List ℕ) → IsMessage j m → is_one m ≡ true
message_is_one certificate list request attribute (job.Certificate a) m h = certificate a.params a.subject a.name h.0 m h.2
message_is_one certificate list request attribute (job.Request a) m h = request_as_is_one request a.params a.key a.name m h
message_is_one certificate list request attribute (job.List a) m h = list a.base a.params h.0 m h.2
message_is_one certificate list request attribute (job.Attribute a) m h = attribute a.params h.0 m h.2
