-- What the parts of a certificate say of an issuer is what the certificate says.
use Rattle.std.specs.Prelude.{◌≡◌, ◌++◌, ℕ, Bool, true, false, cond, List, [], ◌∷◌, ◌↔◌, IsSome, Option, Some, None, Result, Ok, Err, filter, map, nat_eq, ok_or, refl}
use Rattle.std.specs.Cmp.Lexicographic.{pointwise, same_text}
use Rattle.std.specs.List.{cons_option}
use Rattle.std.proofs.Common.{ap, subst, sym, ◌∙◌}
use Rattle.std.proofs.lemmas.Cmp.{nat_list_eq_equiv}
use Rattle.der_tree.specs.Form.{IsDerOf, value_of}
use Rattle.der_tree.specs.PrimitiveTypes.{object_identifier, octet_string}
use Rattle.der_tree.proofs.FormLaws.{same_form, same_value, value_again}
use Rattle.asn1_core.specs.Base128.{digits}
use Rattle.asn1_core.specs.ObjectIdentifiers.{object_identifier_contents}
use Rattle.der_tree.specs.Element.{element_octets, identifier_octets, length_octets}
use Rattle.pkix_cert.specs.Certificates.{certificate}
use Rattle.pkix_cert.specs.Held.{AreOfExtensions, IsOfCertificate, IsOfExtension, extensions_in}
use Rattle.pkix_cert.specs.Views.{CertificateParts, ExtensionParts, certificate_parts}
use Rattle.pkix_cert.specs.declared.certificate.Certificate.{Certificate}
use Rattle.pkix_cert.specs.declared.extension.Extension.{Extension}
use Rattle.pkix_name.specs.Names.{name}
use Rattle.pkix_name.specs.declared.name.Name.{Name}
use Rattle.rcgen_text.specs.Causes.{Cause, not_certificate}
use Rattle.rcgen_text.specs.Names.{Entry}
use Rattle.pkix_cert.specs.ExtensionIds.{ce_key_usage, ce_subject_key_identifier, id_ce, id_ce_der}
use Rattle.rcgen_text.specs.declared.key_usage.KeyUsagePurpose.{KeyUsagePurpose}
use Rattle.rcgen_read.specs.IssuerParts.{certified_in, contents_by, issuer_in, key_ids_in, name_in, usages_in}
use Rattle.rcgen_read.specs.IssuerReading.{CertifiedIssuer, RestoredIssuer, certificate_at, certified, method_by, restored, stated_key_ids, stated_usages, with_id}
use Rattle.rcgen_read.specs.NameReading.{read_name}
use Rattle.rcgen_read.specs.Reading.{and_then, read_exactly}
use Rattle.rcgen_read.proofs.Fronts.{exactly}

-- ---- extensions with an identifier

same_answer : (a b : Bool) → (a ≡ true → b ≡ true) → (b ≡ true → a ≡ true) → a ≡ b
same_answer true true f g = refl
same_answer true false f g = sym (f refl)
same_answer false true f g = g refl
same_answer false false f g = refl

itself : (xs ys : List ℕ) → xs ≡ ys → pointwise nat_eq xs ys ≡ true
itself xs ys e = ap (λ (zs : List ℕ). pointwise nat_eq zs ys) e ∙ nat_list_eq_equiv.refl ys

module _ (id octets : List ℕ) (form : IsDerOf object_identifier id octets) where
  same_id : (e : Extension) (p : ExtensionParts) → IsOfExtension e p → pointwise nat_eq p.id octets ≡ pointwise nat_eq e.extn_id id
  same_id e p h =
      same_answer (pointwise nat_eq p.id octets) (pointwise nat_eq e.extn_id id)
      (λ k. itself e.extn_id id (same_value object_identifier e.extn_id id octets
      (subst (λ (b : List ℕ). IsDerOf object_identifier e.extn_id b) (same_text p.id octets (sym k)) h.id) form))
      (λ k. itself p.id octets (same_form object_identifier id p.id octets
      (subst (λ (v : List ℕ). IsDerOf object_identifier v p.id) (same_text e.extn_id id (sym k)) h.id) form))

  one_more : (e : Extension) (p : ExtensionParts) (es : List Extension) (ps : List ExtensionParts) (a b : Bool) → a ≡ b → p.contents ≡ e.extn_value
      → map (λ (q : ExtensionParts). q.contents) ps ≡ map (λ (d : Extension). d.extn_value) es
      → map (λ (q : ExtensionParts). q.contents) (cond a (p ∷ ps) ps) ≡ map (λ (d : Extension). d.extn_value) (cond b (e ∷ es) es)
  one_more e p es ps true true s c h = λ i. c i ∷ h i
  one_more e p es ps false false s c h = h
  one_more e p es ps true false s c h = absurd cc
  one_more e p es ps false true s c h = absurd cc

  contents_are : (es : List Extension) (ps : List ExtensionParts) → AreOfExtensions es ps
      → contents_by octets ps ≡ map (λ (e : Extension). e.extn_value) (with_id id es)
  contents_are [] [] h = refl
  contents_are [] (p ∷ ps) h = absurd h
  contents_are (e ∷ es) [] h = absurd h
  contents_are (e ∷ es) (p ∷ ps) h =
      one_more e p (with_id id es) (filter (λ (q : ExtensionParts). pointwise nat_eq q.id octets) ps) (pointwise nat_eq p.id octets) (pointwise nat_eq e.extn_id id)
      (same_id e p h.0) h.0.contents (contents_are es ps h.1)

usages_are : (es : List Extension) → usages_in (map (λ (e : Extension). e.extn_value) es) ≡ stated_usages es
usages_are [] = refl
usages_are (e ∷ []) = refl
usages_are (e ∷ another ∷ more) = refl

key_ids_are : (es : List Extension) → key_ids_in (map (λ (e : Extension). e.extn_value) es) ≡ stated_key_ids es
key_ids_are [] = refl
key_ids_are (e ∷ es) = ap (cons_option (value_of octet_string e.extn_value)) (key_ids_are es)

-- ---- a certificate

usage_form : IsDerOf object_identifier (id_ce ce_key_usage) (id_ce_der ce_key_usage)
unfolding object_identifier_contents digits element_octets identifier_octets length_octets
usage_form = (_, _, refl, refl, refl)

key_id_form : IsDerOf object_identifier (id_ce ce_subject_key_identifier) (id_ce_der ce_subject_key_identifier)
unfolding object_identifier_contents digits element_octets identifier_octets length_octets
key_id_form = (_, _, refl, refl, refl)

name_is : (n : Name) (octets : List ℕ) → IsDerOf name n octets → name_in octets ≡ read_name n
name_is n octets h = ap (λ (o : Option Name). and_then (ok_or o not_certificate) read_name) (value_again name octets n h)

module _ (c : Certificate) (p : CertificateParts) (h : IsOfCertificate c p) where
  abbrev es : List Extension
  es = extensions_in c.tbs_certificate.extensions

  are : AreOfExtensions es p.extensions
  are = h.extensions

  same_usages : usages_in (contents_by (id_ce_der ce_key_usage) p.extensions) ≡ stated_usages (with_id (id_ce ce_key_usage) es)
  same_usages =
      ap usages_in (contents_are (id_ce ce_key_usage) (id_ce_der ce_key_usage) usage_form es p.extensions are) ∙ usages_are (with_id (id_ce ce_key_usage) es)

  same_ids : key_ids_in (contents_by (id_ce_der ce_subject_key_identifier) p.extensions) ≡ stated_key_ids (with_id (id_ce ce_subject_key_identifier) es)
  same_ids =
      ap key_ids_in (contents_are (id_ce ce_subject_key_identifier) (id_ce_der ce_subject_key_identifier) key_id_form es p.extensions are)
      ∙ key_ids_are (with_id (id_ce ce_subject_key_identifier) es)

said : Result (List KeyUsagePurpose) Cause → Result (List Entry) Cause → List (List ℕ) → Result RestoredIssuer Cause
said usages name ids = and_then usages (λ us. and_then name (λ n. Ok (record { name = n; method = method_by ids; usages = us })))

pub issuer_is : (c : Certificate) (p : CertificateParts) → IsOfCertificate c p → issuer_in p ≡ restored c
unfolding said
issuer_is c p h =
    let subject : name_in p.subject ≡ read_name c.tbs_certificate.subject = name_is c.tbs_certificate.subject p.subject h.subject in
    λ i. said (same_usages c p h i) (subject i) (same_ids c p h i)

said_as_it_stands : Result (List KeyUsagePurpose) Cause → Result Name Cause → List (List ℕ) → Result CertifiedIssuer Cause
said_as_it_stands usages name ids =
    and_then usages (λ us. and_then name (λ n. Ok (record { field = Some n; method = method_by ids; usages = us })))

pub certified_is : (c : Certificate) (p : CertificateParts) → IsOfCertificate c p → certified_in p ≡ certified c
unfolding said_as_it_stands
certified_is c p h =
    let subject : read_exactly name not_certificate p.subject ≡ Ok c.tbs_certificate.subject =
    ap (λ (o : Option Name). ok_or o not_certificate) (value_again name p.subject c.tbs_certificate.subject h.subject) in
    λ i. said_as_it_stands (same_usages c p h i) (subject i) (same_ids c p h i)

-- ---- at the start of the input

abbrev pub EachView : Type 0
EachView = (input : List ℕ) (p : CertificateParts) → certificate_parts input ≡ Some p → (c : Certificate) × IsOfCertificate c p × (input ≡ p.whole ++ p.after)

-- what the parts say is what the certificate at the start says
pub viewed : {A : Type 0} (in_parts : CertificateParts → Result A Cause) (in_it : Certificate → Result A Cause)
    → ((c : Certificate) (p : CertificateParts) → IsOfCertificate c p → in_parts p ≡ in_it c)
    → EachView → (der : List ℕ) (p : CertificateParts) → Some p ≡ certificate_parts der
    → in_parts p ≡ and_then (ok_or (certificate_at der) not_certificate) in_it
viewed in_parts in_it same each der p e =
    let x = each der p (sym e) in
    let there : certificate_at der ≡ Some x.0 = (exactly certificate der x.0).1 (p.whole, p.after, x.1.whole, x.2) in
    same x.0 p x.1 ∙ sym (ap (λ (o : Option Certificate). and_then (ok_or o not_certificate) in_it) there)

module _ {A : Type 0} (in_it : Certificate → Result A Cause) where
  refused : (o : Option Certificate) → ((c : Certificate) → o ≡ Some c → ⊥) → Err not_certificate ≡ and_then (ok_or o not_certificate) in_it
  refused None h = refl
  refused (Some c) h = absurd (h c refl)

no_view : {T : Type 0} (o : Option T) → o ≡ None → IsSome o → ⊥
no_view None e h = absurd cc
no_view (Some x) e h = absurd cc

-- where there is no view, no certificate is at the start
pub unseen : {A T : Type 0} (in_it : Certificate → Result A Cause) (der : List ℕ) (o : Option T)
    → (IsSome o ↔ ((c : Certificate) × (b rest : List ℕ) × IsDerOf certificate c b × (der ≡ b ++ rest))) → o ≡ None
    → and_then (ok_or (certificate_at der) not_certificate) in_it ≡ Err not_certificate
unseen in_it der o exact e =
    sym (refused in_it (certificate_at der) (λ c there. let x = (exactly certificate der c).0 there in no_view o e (exact.1 (c, x.0, x.1, x.2, x.3))))
