-- The info of a certificate's key has the octets that its view has.
use Rattle.std.specs.Prelude.{List, None, Option, Some, cond, is_some, ℕ, [], ◌++◌, ◌≡◌}
use Rattle.std.proofs.Common.{ap, subst, sym, ◌∙◌}
use Rattle.std.proofs.lemmas.List.{append-nil}
use Rattle.asn1_core.specs.Binds.{bind_is}
use Rattle.der_tree.specs.Element.{element_at}
use Rattle.der_tree.specs.Form.{IsDerOf}
use Rattle.der_tree.proofs.FormLaws.{front_is, no_front, same_value}
use Rattle.pkix_cert.specs.Algorithms.{subject_public_key_info}
use Rattle.pkix_cert.specs.Certificates.{certificate}
use Rattle.pkix_cert.specs.Held.{IsOfCertificate}
use Rattle.pkix_cert.specs.Views.{CertificateParts, certificate_parts, parts_of}
use Rattle.pkix_cert.specs.declared.certificate.Certificate.{Certificate}

abbrev pub EachView : Type 0
EachView = (input : List ℕ) (p : CertificateParts) → certificate_parts input ≡ Some p → (c : Certificate) × IsOfCertificate c p × (input ≡ p.whole ++ p.after)

seen : (c : Certificate) (der : List ℕ) → IsDerOf certificate c der → (p : CertificateParts) × (certificate_parts der ≡ Some p)
unfolding certificate_parts
seen c der h =
    let f = front_is certificate der c der [] h (sym (append-nil der)) in (
      parts_of h.1 [],
      bind_is (element_at der) (λ x. cond (is_some (certificate.read_of x.0)) (Some (parts_of x.0 x.1)) None) (h.1, []) (Some (parts_of h.1 [])) f.0
          (ap (λ (o : Option Certificate). cond (is_some o) (Some (parts_of h.1 [])) None) f.1),
    )

pub info_form : EachView → (c : Certificate) (der : List ℕ) → IsDerOf certificate c der
    → (b : List ℕ) × IsDerOf subject_public_key_info c.tbs_certificate.subject_public_key_info b
info_form each c der h =
    let s = seen c der h in
    let v = each der s.0 s.1 in
    let nothing = no_front certificate certificate v.0 c s.0.whole der s.0.after v.1.whole h v.2 in
    let all : der ≡ s.0.whole = v.2 ∙ ap (λ (b : List ℕ). s.0.whole ++ b) nothing ∙ append-nil s.0.whole in
    let same : v.0 ≡ c = same_value certificate v.0 c der (subst (λ (b : List ℕ). IsDerOf certificate v.0 b) (sym all) v.1.whole) h in
    (s.0.key_info, subst (λ (d : Certificate). IsDerOf subject_public_key_info d.tbs_certificate.subject_public_key_info s.0.key_info) same v.1.key_info)
