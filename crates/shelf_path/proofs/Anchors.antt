-- A certificate in a block, as an anchor.
use Rattle.std.proofs.Common.{◌≡◌, ◌∙◌, ◌==◌, ◌++◌, ℕ, Bool, true, false, cond, List, [], length, Some, None, Ok, ap, sym, subst, refl}
use Rattle.std.proofs.lemmas.Bool.{eqb-true}
use Rattle.std.proofs.lemmas.List.{append-nil, nil_from_length}
use Rattle.asn1_core.specs.Binds.{bind_some, some_is}
use Rattle.der_tree.specs.Form.{IsDerOf}
use Rattle.der_tree.proofs.FormLaws.{value_again}
use Rattle.pkix_cert.specs.Algorithms.{subject_public_key_info}
use Rattle.pkix_cert.specs.Certificates.{certificate}
use Rattle.pkix_cert.specs.Held.{IsOfCertificate}
use Rattle.pkix_cert.specs.Views.{CertificateParts, certificate_parts}
use Rattle.pkix_cert.specs.declared.certificate.Certificate.{Certificate}
use Rattle.pkix_name.specs.Names.{name}
use Rattle.shelf_path.specs.Asked.{anchor_in, anchor_of}
use Rattle.shelf_path.specs.Certificates.{whole_certificate}

where_true : {A : Type 0} (b : Bool) (x y : A) → cond b (Some x) None ≡ Some y → (b ≡ true) × (x ≡ y)
where_true true x y e = (refl, some_is x y e)
where_true false x y e = absurd cc

nothing : (xs : List ℕ) → (length xs == 0) ≡ true → xs ≡ []
nothing xs e = nil_from_length xs (eqb-true (length xs) 0 e)

-- nothing comes after it
of_whole : (octets : List ℕ) (p : CertificateParts) → whole_certificate octets ≡ Some p → (certificate_parts octets ≡ Some p) × (p.after ≡ [])
unfolding whole_certificate
of_whole octets p e =
    let h = bind_some (certificate_parts octets) (λ (x : CertificateParts). cond (length x.after == 0) (Some x) None) p e in
    let k = where_true (length h.0.after == 0) h.0 p h.2 in
    (h.1 ∙ ap (λ (x : CertificateParts). Some x) k.1, sym (ap (λ (x : CertificateParts). x.after) k.1) ∙ nothing h.0.after k.0)

abbrev pub EachView : Type 0
EachView = (input : List ℕ) (p : CertificateParts) → certificate_parts input ≡ Some p → (c : Certificate) × IsOfCertificate c p × (input ≡ p.whole ++ p.after)

pub anchored : EachView → (octets : List ℕ) (p : CertificateParts) (number : ℕ) → whole_certificate octets ≡ Some p
    → (c : Certificate) × IsDerOf certificate c octets × (anchor_of number p ≡ Ok (anchor_in c))
unfolding anchor_of
anchored each octets p number e =
    let w = of_whole octets p e in
    let h = each octets p w.0 in
    let c = h.0 in
    let same : octets ≡ p.whole = h.2 ∙ ap (λ (rest : List ℕ). p.whole ++ rest) w.1 ∙ append-nil p.whole in
    let form : IsDerOf certificate c octets = subst (λ (b : List ℕ). IsDerOf certificate c b) (sym same) h.1.whole in (
      c,
      form,
      rw (
        value_again name p.subject c.tbs_certificate.subject h.1.subject,
        value_again subject_public_key_info p.key_info c.tbs_certificate.subject_public_key_info h.1.key_info,
      ) refl,
    )
