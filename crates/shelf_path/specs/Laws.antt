-- What a verdict says of the revocation lists, and of the anchor.
use Rattle.std.specs.Prelude.{ℕ, zero, suc, ◌≡◌, ◌⊎◌, ◌*◌, List, [], ◌∷◌, ◌++◌, Ok, Some, false, length, nat_lt, true}
use Rattle.std.specs.List.{Contains}
use Rattle.jiff.specs.Types.{DateTime}
use Rattle.jiff.specs.Words.{civil_nanos}
use Rattle.der_tree.specs.Form.{IsDerOf}
use Rattle.path_names.specs.NameMatching.{names_match}
use Rattle.path_revocation.specs.Lists.{is_issuer_of}
use Rattle.path_revocation.specs.Search.{revocation}
use Rattle.path_revocation.specs.declared.given.GivenList.{GivenList}
use Rattle.path_revocation.specs.declared.given.ListIssuer.{ListIssuer}
use Rattle.path_revocation.specs.declared.status.RevocationStatus.TheVariants.{Good}
use Rattle.path_validation.specs.Outcomes.{outcome}
use Rattle.path_validation.specs.declared.inputs.PathInputs.{PathInputs}
use Rattle.pem.specs.Encoding.{Encoding}
use Rattle.pkix_cert.specs.Certificates.{certificate}
use Rattle.pkix_cert.specs.Views.{CertificateParts}
use Rattle.pkix_cert.specs.declared.certificate.Certificate.{Certificate}
use Rattle.pkix_cert.specs.declared.revocation.CertificateList.{CertificateList}
use Rattle.shelf_path.specs.Asked.{Asked, asked_behind, inputs_at}
use Rattle.shelf_path.specs.Certificates.{is_certificate}
use Rattle.shelf_path.specs.ListIssuers.{accepts_signature, anchor_as_issuer, as_issuer, has_crl_sign, is_valid_outcome, issuer_inputs, key_usage_of, lists_of, most_pairs, path_to, revocation_inputs}
use Rattle.shelf_path.specs.RevocationLists.{list_blocks}
use Rattle.shelf_path.specs.Verdicts.{IsVerdict, is_valid}
use Rattle.shelf_path.specs.declared.question.PathQuestion.{PathQuestion}
use Rattle.shelf_path.specs.declared.verdict.Verdict.{Verdict}

-- ---- who signed the lists

-- the list is one of these, as one of one of these issuers: it has that name, and the key may sign lists (6.3.3 (f))
pub record IsListOf (ls : List CertificateList) (known : List ListIssuer) (g : GivenList) : Type 0 where
  pub issuer : ListIssuer
  pub is_it : g.issuer ≡ Some issuer
  pub is_known : Contains known issuer
  pub given : Contains ls g.list
  pub named : is_issuer_of g.list issuer ≡ true

-- each list that is asked of a certificate is so
abbrev pub ListsAreOfIssuers : Type 0
ListsAreOfIssuers =
    (ls : List CertificateList) (known : List ListIssuer) (p : CertificateParts) (c : Certificate) (g : GivenList) → Contains (lists_of ls known p c) g
    → IsListOf ls known g

-- each list of the certificate's issuer is so, under each of these issuers that it names, unless they are more than are compared
abbrev pub IssuersListsAreAsked : Type 0
IssuersListsAreAsked =
    (ls : List CertificateList) (known : List ListIssuer) (p : CertificateParts) (c : Certificate) (l : CertificateList) (i : ListIssuer) → Contains ls l
    → Contains known i → is_issuer_of l i ≡ true → names_match l.tbs_cert_list.issuer c.tbs_certificate.issuer ≡ true
    → nat_lt most_pairs (length ls * length known) ≡ false → Contains (lists_of ls known p c) (record { list = l; issuer = Some i })

-- the certificate is good by the lists of these issuers
abbrev pub IsGoodBy : PathInputs → List CertificateList → List ListIssuer → CertificateParts → Certificate → Type 0
IsGoodBy x ls known p c = revocation accepts_signature (revocation_inputs x.at (lists_of ls known p c)) c ≡ Good

-- the issuer is the subject of one of these certificates
abbrev pub IsSubject : List CertificateParts → ListIssuer → Type 0
IsSubject ps i = (p : CertificateParts) × (c : Certificate) × Contains ps p × IsDerOf certificate c p.whole × (i ≡ as_issuer p c)

-- the anchor, or a certificate above
abbrev pub IsPathIssuer : PathInputs → List CertificateParts → ListIssuer → Type 0
IsPathIssuer x above i = (i ≡ anchor_as_issuer x.anchor) ⊎ IsSubject above i

-- it is the subject of one of the certificates of other issuers: with cRLSign (4.2.1.3), the end of a valid path whose other certificates are the first of those
-- above, and good by the lists of issuers of this kind, among them the anchor and each of those certificates
pub record IsOtherIssuer (x : PathInputs) (ls : List CertificateList) (ks above : List CertificateParts) (IsKnown : List CertificateParts → ListIssuer → Type 0)
    (i : ListIssuer) : Type 0 where
  pub parts : CertificateParts
  pub holder : Certificate
  pub given : Contains ks parts
  pub form : IsDerOf certificate holder parts.whole
  pub is_it : i ≡ as_issuer parts holder
  pub signs_lists : has_crl_sign (key_usage_of parts) ≡ true
  pub front : List CertificateParts
  pub others : List CertificateParts
  pub is_front : above ≡ front ++ others
  pub path : List CertificateParts
  pub is_path : path_to front parts ≡ Some path
  pub valid_path : is_valid_outcome (outcome accepts_signature x path) ≡ true
  pub known : List ListIssuer
  pub each_known : (j : ListIssuer) → Contains known j → IsKnown front j
  pub path_known : (j : ListIssuer) → IsPathIssuer x front j → Contains known j
  pub good : IsGoodBy x ls known parts holder

-- 6.3.3 (f): an issuer of the path, or another one whose certificate is good by lists of issuers of the path, by lists of such ones, and so on
abbrev pub IsIssuer : ℕ → PathInputs → List CertificateList → List CertificateParts → List CertificateParts → ListIssuer → Type 0
IsIssuer zero x ls ks above i = IsPathIssuer x above i
IsIssuer (suc n) x ls ks above i = IsPathIssuer x above i ⊎ IsOtherIssuer x ls ks above (IsIssuer n x ls ks) i

-- ---- a valid path

-- each of the certificates below those above is good by the lists of such issuers, among them the anchor and each certificate above
abbrev pub AreGood : PathInputs → List CertificateList → List CertificateParts → List CertificateParts → List CertificateParts → Type 0
AreGood x ls ks above [] = Unit {0}
AreGood x ls ks above (p ∷ ps) =
    (c : Certificate) × (known : List ListIssuer) × (n : ℕ) × IsDerOf certificate c p.whole × ((i : ListIssuer) → Contains known i → IsIssuer n x ls ks above i)
    × ((i : ListIssuer) → IsPathIssuer x above i → Contains known i) × IsGoodBy x ls known p c × AreGood x ls ks (above ++ p ∷ []) ps

-- a path is valid, where revocation is asked, only if each of its certificates is good (6.1.3 (a) (3))
abbrev pub ValidIsGood : Type 0
ValidIsGood =
    (a : Asked) (v : Verdict) → IsVerdict a v → is_valid v ≡ true → a.question.revocation ≡ true
    → (at : DateTime) × (civil_nanos at ≡ a.question.at) × AreGood (issuer_inputs (inputs_at at a)) a.lists a.issuers [] a.path

-- ---- whom the user trusts

-- no block after the certificates of the path is a certificate by its label: the anchor's is the last that is, whatever lists come before it
abbrev pub AnchorIsLast : Type 0
AnchorIsLast =
    (q : PathQuestion) (blocks : List Encoding) (a : Asked) (e : Encoding) → asked_behind q blocks ≡ Ok a → Contains (list_blocks q.revocation blocks) e
    → is_certificate e ≡ false
