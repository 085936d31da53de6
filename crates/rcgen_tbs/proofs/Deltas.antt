-- The delta CRL indicator after the extensions of a complete list.
use Rattle.std.proofs.Common.{arith, cond, length, ◌≡◌, ◌∙◌, ℕ, Bool, true, false, ◌&&◌, ◌++◌, List, [], ◌∷◌, Option, Some, None, refl, sym, ap, subst}
use Rattle.std.specs.Prelude.{map}
use Rattle.std.proofs.lemmas.Bool.{ne_eqb}
use Rattle.std.specs.List.{AllZip}
use Rattle.std.specs.Option.{IfSome, option_map}
use Rattle.asn1_core.specs.Binds.{some_is}
use Rattle.asn1_core.specs.Bits.{bits}
use Rattle.asn1_core.specs.Twos.{unsigned}
use Rattle.der_tree.proofs.FormLaws.{same_form}
use Rattle.der_tree.specs.AnyElement.{is_one}
use Rattle.der_tree.specs.Form.{IsDerOf}
use Rattle.der_tree.specs.Grammar.{explicitly, sequence_of}
use Rattle.der_tree.specs.HasTree.{HasTree}
use Rattle.der_tree.specs.Default.{if_not_empty}
use Rattle.der_tree.specs.Optional.{if_there}
use Rattle.der_tree.specs.PrimitiveTypes.{integer}
use Rattle.der_tree.specs.Tags.{context}
use Rattle.der_tree.specs.Tree.{PlainTree}
use Rattle.pkix_cert.specs.Algorithms.{algorithm_identifier}
use Rattle.pkix_cert.specs.Distributions.{issuing_distribution_point}
use Rattle.pkix_cert.specs.ExtensionIds.{ce_authority_key_identifier, ce_crl_number, ce_issuing_distribution_point, id_ce}
use Rattle.pkix_cert.specs.Extensions.{extensions}
use Rattle.pkix_cert.specs.KeyIdentifiers.{authority_key_identifier}
use Rattle.pkix_cert.specs.Revocations.{certificate_list, certificate_list_fields, revoked_certificate, tbs_cert_list, tbs_cert_list_fields}
use Rattle.pkix_cert.specs.Times.{time}
use Rattle.pkix_cert.specs.Versions.{version}
use Rattle.pkix_cert.specs.declared.extension.Extensions.{Extensions}
use Rattle.pkix_cert.specs.declared.revocation.CertificateList.{CertificateList}
use Rattle.pkix_cert.specs.declared.revocation.RevokedCertificate.{RevokedCertificate}
use Rattle.pkix_cert.specs.declared.revocation.TbsCertList.{TbsCertList}
use Rattle.pkix_name.specs.Names.{name}
use Rattle.rcgen_certificate.proofs.Once.{one_field, one_signature}
use Rattle.rcgen_certificate.proofs.Rows.{both_named, row_named}
use Rattle.rcgen_certificate.proofs.SignedOctets.{form_is_one, stands_as_it_is}
use Rattle.rcgen_certificate.specs.ExtensionRows.{ExtensionRow, IsField, are_named, extension_row, row_of_extension, unless_empty}
use Rattle.rcgen_certificate.specs.Issuers.{IssuerView}
use Rattle.rcgen_certificate.specs.KeyIdentifiers.{authority_key_if}
use Rattle.rcgen_certificate.specs.KeyValues.{signature_identifier}
use Rattle.rcgen_certificate.specs.Signed.{FitsOnce, IsAssembled, signed, signed_fields, signed_value}
use Rattle.rcgen_issue.specs.CrlView.{CrlView}
use Rattle.rcgen_issue.specs.Lists.{IsCrlToBeSigned, IssuesCrl, crl_extension_rows, crl_key_id, issuing_point_value, without_entries}
use Rattle.rcgen_sign.specs.declared.sign_algo.SignatureAlgorithm.{SignatureAlgorithm}
use Rattle.rcgen_tbs.proofs.Assembled.{crl_assembled, crl_is_one}
use Rattle.rcgen_tbs.proofs.Frames.{list_form, list_message}
use Rattle.rcgen_tbs.proofs.Once.{OneTbsList, one_crl_message}
use Rattle.rcgen_tbs.specs.Deltas.{IsDeltaOver, IsDeltaToBeSigned, IsListMessage, IsListOver, delta_extension_rows, indicator_row, rows_of, with_extensions}
use Rattle.rcgen_tbs.specs.Frames.{AreEntries, framed, framed_value, octets_in}

-- ---- the field

no_some : {A : Type 0} (a : A) → Some a ≡ None → ⊥
no_some a h = cc

not_empty : {A : Type 0} (x : A) (xs : List A) → unless_empty (x ∷ xs) ≡ Some (x ∷ xs)
not_empty {A} x xs = ap (λ (b : Bool). let o : Option (List A) = cond b None (Some (x ∷ xs)) in o) (ne_eqb (length (x ∷ xs)) 0 (λ e. omega arith))

-- the rows of a field are those that it is of
field_rows : (rows : List ExtensionRow) (field : Option Extensions) → IsField rows field → rows_of field ≡ rows
field_rows [] None h = refl
field_rows (r ∷ rs) None h = absurd (no_some (r ∷ rs) (sym (h ∙ not_empty r rs)))
field_rows [] (Some es) h = absurd (no_some (map row_of_extension es.0) h)
field_rows (r ∷ rs) (Some es) h = some_is (map row_of_extension es.0) (r ∷ rs) (h ∙ not_empty r rs)

abbrev key_row : CrlView → IssuerView → List ExtensionRow
key_row p issuer = extension_row (id_ce ce_authority_key_identifier) false authority_key_identifier (authority_key_if true (crl_key_id p.key_identifier_method issuer))

abbrev number_row : CrlView → List ExtensionRow
number_row p = extension_row (id_ce ce_crl_number) false integer (Some (unsigned p.crl_number))

abbrev point_row : CrlView → List ExtensionRow
point_row p = extension_row (id_ce ce_issuing_distribution_point) true issuing_distribution_point (option_map issuing_point_value p.issuing_distribution_point)

crl_rows_named : (p : CrlView) (issuer : IssuerView) → are_named (crl_extension_rows p issuer) ≡ true
crl_rows_named p issuer =
    both_named (key_row p issuer) (number_row p ++ point_row p)
    (row_named (id_ce ce_authority_key_identifier) false authority_key_identifier (authority_key_if true (crl_key_id p.key_identifier_method issuer)) refl)
    (both_named (number_row p) (point_row p)
    (row_named (id_ce ce_crl_number) false integer (Some (unsigned p.crl_number)) refl)
    (row_named (id_ce ce_issuing_distribution_point) true issuing_distribution_point (option_map issuing_point_value p.issuing_distribution_point) refl))

pub are_rows_named : (p : CrlView) (issuer : IssuerView) (t : TbsCertList) (field : Option Extensions) → IsCrlToBeSigned (without_entries p) issuer t
    → field ≡ t.crl_extensions → are_named (rows_of field) ≡ true
are_rows_named p issuer t field h e =
    ap (λ (x : Option Extensions). are_named (rows_of x)) e
    ∙ ap are_named (field_rows (crl_extension_rows p issuer) t.crl_extensions h.extensions) ∙ crl_rows_named p issuer

-- ---- the frame with another field

in_seventh : (a b c d e f g rest : Bool) → g ≡ true → (a && (b && (c && (d && (e && (f && rest)))))) ≡ true
    → (a && (b && (c && (d && (e && (f && g)))))) ≡ true
in_seventh true true true true true true g rest p k = p
in_seventh true true true true true false g rest p k = absurd cc
in_seventh true true true true false f g rest p k = absurd cc
in_seventh true true true false e f g rest p k = absurd cc
in_seventh true true false d e f g rest p k = absurd cc
in_seventh true false c d e f g rest p k = absurd cc
in_seventh false b c d e f g rest p k = absurd cc

field_has : (field : Option Extensions) → IfSome field (HasTree extensions) → if_there (explicitly (context 0) extensions) field ≡ true
field_has None h = refl
field_has (Some es) h = h

still_formed : (field : Option Extensions) (t : TbsCertList) → IfSome field (HasTree extensions) → HasTree tbs_cert_list t
    → HasTree tbs_cert_list (with_extensions field t)
unfolding tbs_cert_list_fields
still_formed field t h k =
    in_seventh (if_there version t.version) (algorithm_identifier.has_tree t.signature) (name.has_tree t.issuer) (time.has_tree t.this_update)
    (if_there time t.next_update) (if_not_empty (sequence_of revoked_certificate 0 None refl) t.revoked_certificates)
    (if_there (explicitly (context 0) extensions) field) (if_there (explicitly (context 0) extensions) t.crl_extensions) (field_has field h) k

pub frame_formed : (field : Option Extensions) (t u : TbsCertList) → IfSome field (HasTree extensions) → HasTree tbs_cert_list t
    → u ≡ with_extensions field t → HasTree tbs_cert_list u
frame_formed field t u h k e = subst (λ (x : TbsCertList). HasTree tbs_cert_list x) (sym e) (still_formed field t h k)

pub delta_frame : (base : List ℕ) (p : CrlView) (issuer : IssuerView) (t u : TbsCertList) (old new : Option Extensions)
    → IsCrlToBeSigned (without_entries p) issuer t → old ≡ t.crl_extensions → IsField (rows_of old ++ indicator_row base) new
    → u ≡ with_extensions new t → IsDeltaToBeSigned base (without_entries p) issuer u
delta_frame base p issuer t u old new h e f g =
    let rows : rows_of old ≡ crl_extension_rows p issuer = ap rows_of e ∙ field_rows (crl_extension_rows p issuer) t.crl_extensions h.extensions in
    let field = subst (λ (x : List ExtensionRow). IsField (x ++ indicator_row base) new) rows f in
    subst (λ (x : TbsCertList). IsDeltaToBeSigned base (without_entries p) issuer x) (sym g)
    (record { complete = t; complete_is = h; extensions = field; replaced = refl })

-- ---- the message

abbrev with_entries : TbsCertList → List RevokedCertificate → TbsCertList
with_entries t es = record t { revoked_certificates = es }

pub delta_message : (base : List ℕ) (p : CrlView) (issuer : IssuerView) (t : TbsCertList) (ts : List PlainTree) (m : List ℕ)
    → IsDeltaToBeSigned base (without_entries p) issuer t → AreEntries p.revoked_certs ts
    → IsDerOf framed (framed_value t (map octets_in ts)) m → IsListMessage (Some base) p issuer m
delta_message base p issuer t ts m frame are form = (
  with_entries t are.entries,
  record {
    complete = with_entries frame.complete are.entries;
    complete_is = record {
      version = frame.complete_is.version;
      signature = frame.complete_is.signature;
      issuer_name = frame.complete_is.issuer_name;
      this_update = frame.complete_is.this_update;
      next_update = frame.complete_is.next_update;
      entries = are.each;
      extensions = frame.complete_is.extensions;
    };
    extensions = frame.extensions;
    replaced = ap (λ (x : TbsCertList). with_entries x are.entries) frame.replaced;
  },
  list_form t are.entries ts m are.written form,
)

-- ---- there is one message, and one list over it

one_delta : OneTbsList → (base : List ℕ) (p : CrlView) (issuer : IssuerView) (s t : TbsCertList) → IsDeltaToBeSigned base p issuer s
    → IsDeltaToBeSigned base p issuer t → s ≡ t
one_delta once base p issuer s t h k =
    let complete = once p issuer h.complete k.complete h.complete_is k.complete_is in
    let field = one_field (delta_extension_rows base p issuer) s.crl_extensions t.crl_extensions h.extensions k.extensions in
    h.replaced ∙ ap (λ (x : TbsCertList). with_extensions s.crl_extensions x) complete
    ∙ ap (λ (x : Option Extensions). with_extensions x k.complete) field ∙ sym k.replaced

pub one_list_message : OneTbsList → (base : Option (List ℕ)) (p : CrlView) (issuer : IssuerView) (m n : List ℕ) → IsListMessage base p issuer m
    → IsListMessage base p issuer n → m ≡ n
one_list_message once None p issuer m n h k = one_crl_message once p issuer m n h k
one_list_message once (Some base) p issuer m n h k =
    let same = one_delta once base p issuer h.0 k.0 h.1 k.1 in
    same_form tbs_cert_list k.0 m n (subst (λ (t : TbsCertList). IsDerOf tbs_cert_list t m) same h.2) k.2

one_over_delta : OneTbsList → (base : List ℕ) (p : CrlView) (issuer : IssuerView) (fits : List ℕ → List ℕ → Type 0) → FitsOnce fits
    → (m n a b : List ℕ) → IsDeltaOver base p issuer fits m a → IsDeltaOver base p issuer fits n b → a ≡ b
one_over_delta once base p issuer fits one m n a b v w =
    let c = v.list in
    let d = w.list in
    let tbs = one_delta once base p issuer c.tbs_cert_list d.tbs_cert_list v.to_be_signed w.to_be_signed in
    let message = same_form tbs_cert_list d.tbs_cert_list m n (subst (λ (t : TbsCertList). IsDerOf tbs_cert_list t m) tbs v.message_form)
    w.message_form in
    let signature = one_signature fits one m n c.signature.bytes d.signature.bytes message v.signed w.signed in
    let unused = v.no_unused_bits ∙ sym w.no_unused_bits in
    let algorithm = v.signature_algorithm ∙ sym w.signature_algorithm in
    let same : c ≡ d = λ i. record {
      tbs_cert_list = tbs i;
      signature_algorithm = algorithm i;
      signature = record { bytes = signature i; unused = unused i };
    } in
    same_form certificate_list d a b (subst (λ (x : CertificateList). IsDerOf certificate_list x a) same v.form) w.form

pub one_over : OneTbsList → (fits : List ℕ → List ℕ → Type 0)
    → ((p : CrlView) (issuer : IssuerView) (a b : List ℕ) → IssuesCrl p issuer fits a → IssuesCrl p issuer fits b → a ≡ b) → FitsOnce fits
    → (base : Option (List ℕ)) (p : CrlView) (issuer : IssuerView) (m n a b : List ℕ) → IsListOver base p issuer fits m a
    → IsListOver base p issuer fits n b → a ≡ b
one_over once fits issued one None p issuer m n a b v w = issued p issuer a b (v.list, v.issued) (w.list, w.issued)
one_over once fits issued one (Some base) p issuer m n a b v w = one_over_delta once base p issuer fits one m n a b v w

-- ---- a message is one element, and what is assembled over it is issued

pub list_is_one : (base : Option (List ℕ)) (p : CrlView) (issuer : IssuerView) (m : List ℕ) → IsListMessage base p issuer m → is_one m ≡ true
list_is_one None p issuer m h = crl_is_one p issuer m h
list_is_one (Some base) p issuer m h = form_is_one tbs_cert_list h.0 m h.2

crl_form : (t : TbsCertList) (a : SignatureAlgorithm) (g der : List ℕ)
    → IsDerOf (signed tbs_cert_list) (signed_value t (signature_identifier a) (bits 0 g)) der
    → IsDerOf certificate_list (record { tbs_cert_list = t; signature_algorithm = signature_identifier a; signature = bits 0 g }) der
unfolding signed_fields certificate_list_fields
crl_form t a g der w = w

pub list_assembled : OneTbsList → (base : Option (List ℕ)) (p : CrlView) (issuer : IssuerView) (s message der : List ℕ)
    → IsListMessage base p issuer message → IsAssembled message issuer.algorithm s der → IsListOver base p issuer (λ m t. t ≡ s) message der
list_assembled once None p issuer s message der h k = crl_assembled once p issuer s message der h k
list_assembled once (Some base) p issuer s message der h k =
    let a = signature_identifier issuer.algorithm in
    let c : CertificateList = record { tbs_cert_list = h.0; signature_algorithm = a; signature = bits 0 s } in
    record {
      list = c;
      form = crl_form h.0 issuer.algorithm s der (stands_as_it_is tbs_cert_list h.0 a (bits 0 s) message der h.2 k);
      to_be_signed = h.1;
      signature_algorithm = refl;
      no_unused_bits = refl;
      message_form = h.2;
      signed = refl;
    }
