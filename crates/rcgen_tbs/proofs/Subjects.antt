-- The info of a key takes the place of a stand-in's.
use Rattle.std.proofs.Common.{◌≡◌, ◌∙◌, ℕ, Bool, true, false, ◌&&◌, ◌||◌, List, Option, None, is_ok, refl, sym, ap, subst}
use Rattle.asn1_core.specs.Binds.{and_true, true_and}
use Rattle.der_tree.specs.Codec.{Codec}
use Rattle.der_tree.specs.Form.{IsDerOf}
use Rattle.der_tree.specs.Grammar.{explicitly}
use Rattle.der_tree.specs.HasTree.{HasTree}
use Rattle.der_tree.specs.PrimitiveTypes.{integer}
use Rattle.der_tree.specs.Tags.{context}
use Rattle.pkix_name.specs.Names.{name}
use Rattle.pkix_name.specs.declared.name.Name.{Name}
use Rattle.pkix_cert.specs.Algorithms.{algorithm_identifier, subject_public_key_info}
use Rattle.pkix_cert.specs.Certificates.{tbs_certificate, tbs_certificate_fields}
use Rattle.pkix_cert.specs.Times.{validity}
use Rattle.pkix_cert.specs.Versions.{same_version, v1, version}
use Rattle.pkix_cert.specs.declared.algorithm.SubjectPublicKeyInfo.{SubjectPublicKeyInfo}
use Rattle.pkix_cert.specs.declared.certificate.TbsCertificate.{TbsCertificate}
use Rattle.rcgen_sign.specs.KeyIds.{key_id, pre_specified}
use Rattle.rcgen_sign.specs.Keys.{Key}
use Rattle.rcgen_text.specs.Causes.{Cause, Explains, Origin}
use Rattle.rcgen_certificate.specs.Issue.{IsToBeSigned, first_cause}
use Rattle.rcgen_certificate.specs.Issuers.{IssuerView}
use Rattle.rcgen_certificate.specs.ParamsView.{ParamsView}
use Rattle.rcgen_tbs.specs.StandIns.{IsOfStandIn}
use Rattle.rcgen_tbs.specs.Subjects.{IsToBeSignedWith, identified, stand_in, with_info}

-- what has a form has a tree
pub formed : {A : Type 0} (c : Codec A) (v : A) (b : List ℕ) → IsDerOf c v b → HasTree c v
formed c v b h = c.has_tree_is v ∙ ap is_ok h.2

-- ---- another info that has a tree leaves one

in_seventh : (a b c d e f g h rest : Bool) → h ≡ true → (a && (b && (c && (d && (e && (f && (g && rest))))))) ≡ true
    → (a && (b && (c && (d && (e && (f && (h && rest))))))) ≡ true
in_seventh true true true true true true g h rest p k = true_and h rest p (and_true g rest k).1
in_seventh true true true true true false g h rest p k = absurd cc
in_seventh true true true true false f g h rest p k = absurd cc
in_seventh true true true false e f g h rest p k = absurd cc
in_seventh true true false d e f g h rest p k = absurd cc
in_seventh true false c d e f g h rest p k = absurd cc
in_seventh false b c d e f g h rest p k = absurd cc

signed_formed : (info : SubjectPublicKeyInfo) (t : TbsCertificate) → HasTree subject_public_key_info info → HasTree tbs_certificate t
    → HasTree tbs_certificate (with_info info t)
unfolding tbs_certificate_fields
signed_formed info t h k =
    in_seventh ((explicitly (context 0) version).has_tree t.version || same_version t.version v1) (integer.has_tree t.serial_number)
    (algorithm_identifier.has_tree t.signature) (name.has_tree t.issuer) (validity.has_tree t.validity) (name.has_tree t.subject)
    (subject_public_key_info.has_tree t.subject_public_key_info) (subject_public_key_info.has_tree info) _ h k

-- ---- what is signed for the stand-in, the parameters being those with the identifier given

pub identified_is : (params copy : ParamsView) (octets id : List ℕ) → copy ≡ params → id ≡ key_id params.key_identifier_method octets
    → record copy { key_identifier_method = pre_specified id } ≡ identified params octets
identified_is params copy octets id e f = λ i. record (e i) { key_identifier_method = pre_specified (f i) }

same_cause : (params copy : ParamsView) (octets : List ℕ) (issuer : Option Name) → copy ≡ identified params octets
    → first_cause copy issuer ≡ first_cause params issuer
same_cause params copy octets issuer e = ap (λ (p : ParamsView). first_cause p issuer) e

pub no_cause : (params copy : ParamsView) (octets : List ℕ) (issuer : Option Name) → copy ≡ identified params octets
    → first_cause copy issuer ≡ None → first_cause params issuer ≡ None
no_cause params copy octets issuer e h = sym (same_cause params copy octets issuer e) ∙ h

pub same_refusal : (params copy : ParamsView) (octets : List ℕ) (issuer : Option Name) (o : Origin) → copy ≡ identified params octets
    → Explains (first_cause copy issuer) ⊥ o → Explains (first_cause params issuer) ⊥ o
same_refusal params copy octets issuer o e h = subst (λ (f : Option Cause). Explains f ⊥ o) (same_cause params copy octets issuer e) h

pub of_stand_in : (params copy : ParamsView) (info : SubjectPublicKeyInfo) (subject : Key) (issuer : IssuerView) (t : TbsCertificate) (octets : List ℕ)
    → IsDerOf subject_public_key_info info octets → copy ≡ identified params octets → subject ≡ stand_in info
    → IsToBeSigned copy subject issuer t → IsOfStandIn params info issuer t
of_stand_in params copy info subject issuer t octets form view same signed =
    let for_it = subst (λ (k : Key). IsToBeSigned copy k issuer t) same signed in
    record {
      info_octets = octets;
      info_form = form;
      base_is = subst (λ (p : ParamsView). IsToBeSigned p (stand_in info) issuer t) view for_it;
    }

-- the info in its place
pub info_value : (params : ParamsView) (info : SubjectPublicKeyInfo) (issuer : IssuerView) (base t : TbsCertificate) → IsOfStandIn params info issuer base
    → t ≡ with_info info base → IsToBeSignedWith params info issuer t
info_value params info issuer base t h e = record {
  info_octets = h.info_octets;
  info_form = h.info_form;
  base = base;
  base_is = h.base_is;
  replaced = e;
}

pub still_formed : (info : SubjectPublicKeyInfo) (base t : TbsCertificate) → HasTree subject_public_key_info info → HasTree tbs_certificate base
    → t ≡ with_info info base → HasTree tbs_certificate t
still_formed info base t h k e = subst (λ (x : TbsCertificate). HasTree tbs_certificate x) (sym e) (signed_formed info base h k)
