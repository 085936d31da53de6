-- The subject and the key's info in a certificate that was read (RFC 5280, 4.1).
use Rattle.std.specs.Prelude.{◌≡◌, false, List, [], ◌∷◌, Some, refl}
use Rattle.std.specs.List.{slice_get}
use Rattle.std.proofs.Common.{ap, subst, ◌∙◌}
use Rattle.asn1_core.specs.Binds.{bind_some, some_is}
use Rattle.der_tree.specs.Element.{Element, element_octets}
use Rattle.der_tree.specs.Form.{IsDerOf}
use Rattle.der_tree.specs.Grammar.{explicitly, required, ◌&◌}
use Rattle.der_tree.specs.PrimitiveTypes.{bit_string, integer}
use Rattle.der_tree.specs.Tags.{context, universal}
use Rattle.der_tree.proofs.ReadFields.{all_children, encodable_at, fields_are, first_is, form_of_read}
use Rattle.pkix_name.specs.Names.{name}
use Rattle.pkix_cert.specs.Algorithms.{algorithm_identifier, subject_public_key_info}
use Rattle.pkix_cert.specs.Certificates.{certificate, certificate_fields, tbs_certificate, tbs_certificate_fields}
use Rattle.pkix_cert.specs.Times.{validity}
use Rattle.pkix_cert.specs.Versions.{same_version, same_version_exact, v1, v3, version}
use Rattle.pkix_cert.specs.declared.certificate.Certificate.{Certificate}
use Rattle.pkix_cert.specs.declared.certificate.TbsCertificate.{TbsCertificate}
use Rattle.pkix_cert.specs.declared.certificate.Version.{Version}
use Rattle.pkix_cert.proofs.SignedFields.{identifiers, signed_fields, signed_of, six}
use Rattle.rcgen_read.specs.ReceivedRequests.{child}
use Rattle.rcgen_read.proofs.ReadParts.{child_is, default_first}

-- the elements at their places, the version before them
record HasInner (s : Element) (t : TbsCertificate) : Type 0 where
  subject : Element
  key_info : Element
  subject_at : child 5 s ≡ Some subject
  key_info_at : child 6 s ≡ Some key_info
  subject_form : IsDerOf name t.subject (element_octets subject)
  key_info_form : IsDerOf subject_public_key_info t.subject_public_key_info (element_octets key_info)

pub record HasCertificateParts (s : Element) (c : Certificate) : Type 0 where
  pub signed : Element
  pub subject : Element
  pub key_info : Element
  pub signed_at : child 0 s ≡ Some signed
  pub subject_at : child 5 signed ≡ Some subject
  pub key_info_at : child 6 signed ≡ Some key_info
  pub subject_form : IsDerOf name c.tbs_certificate.subject (element_octets subject)
  pub key_info_form : IsDerOf subject_public_key_info c.tbs_certificate.subject_public_key_info (element_octets key_info)

not_default : (v : Version) → v ≡ v3 → same_version v v1 ≡ false
not_default v e = rw e refl

inner : (s : Element) (t : TbsCertificate) → tbs_certificate.read_of s ≡ Some t → t.version ≡ v3 → HasInner s t
inner s t e third =
    let f = fields_are (universal 16) tbs_certificate_fields s t e in
    let v = signed_of f.0 t [] f.2 in
    let written = not_default v.0.0 (ap (λ (z : TbsCertificate). z.version) v.2 ∙ third) in
    let d = default_first (explicitly (context 0) version) same_version same_version_exact v1 signed_fields f.0 v.0 [] v.1 written in
    let x = six integer algorithm_identifier name validity name subject_public_key_info identifiers d.1 v.0.1 [] d.3 in
    let are : f.0 ≡ d.0 ∷ x.s1 ∷ x.s2 ∷ x.s3 ∷ x.s4 ∷ x.s5 ∷ x.s6 ∷ x.after = d.2 ∙ ap (λ (z : List Element). d.0 ∷ z) x.are in
    let fifth : slice_get f.0 5 ≡ Some x.s5 = ap (λ (z : List Element). slice_get z 5) are in
    let sixth : slice_get f.0 6 ≡ Some x.s6 = ap (λ (z : List Element). slice_get z 6) are in
    let fine = all_children s f.0 f.1 in
    record {
      subject = x.s5;
      key_info = x.s6;
      subject_at = child_is 5 s f.0 x.s5 f.1 fifth;
      key_info_at = child_is 6 s f.0 x.s6 f.1 sixth;
      subject_form = subst (λ (z : TbsCertificate). IsDerOf name z.subject (element_octets x.s5)) v.2
          (form_of_read name x.s5 v.0.1.1.1.1.1.0 (encodable_at f.0 5 x.s5 fine fifth) x.r5);
      key_info_form = subst (λ (z : TbsCertificate). IsDerOf subject_public_key_info z.subject_public_key_info (element_octets x.s6)) v.2
          (form_of_read subject_public_key_info x.s6 v.0.1.1.1.1.1.1.0 (encodable_at f.0 6 x.s6 fine sixth) x.r6);
    }

-- the part that is signed
record HasSigned (s : Element) (c : Certificate) : Type 0 where
  signed : Element
  signed_at : child 0 s ≡ Some signed
  is_signed : tbs_certificate.read_of signed ≡ Some c.tbs_certificate

outer : (s : Element) (c : Certificate) → certificate.read_of s ≡ Some c → HasSigned s c
unfolding certificate_fields
outer s c e =
    let f = fields_are (universal 16) certificate_fields s c e in
    let x = bind_some ((required tbs_certificate & required algorithm_identifier & required bit_string).get f.0) _ (c, []) f.2 in
    let same = some_is _ (c, []) x.2 in
    let one = first_is tbs_certificate (required algorithm_identifier & required bit_string) f.0 x.0.0 x.0.1 x.1 in
    record {
      signed = one.0;
      signed_at = child_is 0 s (one.0 ∷ one.1) one.0 (f.1 ∙ ap (λ (z : List Element). Some z) one.2) refl;
      is_signed = one.3 ∙ ap (λ (p : Certificate × List Element). Some p.0.tbs_certificate) same;
    }

pub certificate_parts : (s : Element) (c : Certificate) → certificate.read_of s ≡ Some c → c.tbs_certificate.version ≡ v3 → HasCertificateParts s c
certificate_parts s c e third =
    let o = outer s c e in
    let i = inner o.signed c.tbs_certificate o.is_signed third in
    record {
      signed = o.signed;
      subject = i.subject;
      key_info = i.key_info;
      signed_at = o.signed_at;
      subject_at = i.subject_at;
      key_info_at = i.key_info_at;
      subject_form = i.subject_form;
      key_info_form = i.key_info_form;
    }
