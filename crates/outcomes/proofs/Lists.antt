-- The message of a list exists.
use Rattle.std.specs.Prelude.{◌≡◌, ℕ, ◌+◌, ◌≤◌, ◌<◌, ◌^◌, true, false, List, [], ◌∷◌, ◌++◌, length, Option, Some, None, Ok, option_and_then, refl}
use Rattle.std.specs.List.{sum_by}
use Rattle.std.specs.Option.{IfSome, option_map, option_map_or}
use Rattle.std.proofs.Common.{arith, subst, sym}
use Rattle.asn1_core.specs.Twos.{unsigned}
use Rattle.asn1_core.specs.Unsigned.{unsigned_64_contents}
use Rattle.der_tree.specs.Codec.{Codec}
use Rattle.der_tree.specs.Form.{IsDerOf}
use Rattle.der_tree.specs.HasTree.{HasShortTree}
use Rattle.asn1_core.specs.declared.tag.Tag.{Tag}
use Rattle.asn1_core.specs.declared.time.generalized_time.GeneralizedTime.{GeneralizedTime}
use Rattle.der_tree.specs.Grammar.{beq, beq_exact, explicitly, implicitly, optional, required, sequence_of, unwritten_if_empty, with_default, ◌&◌}
use Rattle.der_tree.specs.PrimitiveTypes.{bit_string, boolean, generalized_time, integer}
use Rattle.der_tree.specs.Tags.{context, universal}
use Rattle.der_tree.specs.Tree.{leaf}
use Rattle.der_tree.specs.TreeBytes.{made}
use Rattle.pkix_cert.specs.Algorithms.{algorithm_identifier}
use Rattle.pkix_cert.specs.Distributions.{distribution_point_name, issuing_distribution_point, issuing_distribution_point_fields}
use Rattle.pkix_cert.specs.Extensions.{extensions}
use Rattle.pkix_cert.specs.KeyIdentifiers.{authority_key_identifier}
use Rattle.pkix_cert.specs.ExtensionIds.{ce_authority_key_identifier, ce_crl_number, ce_crl_reason, ce_delta_crl_indicator, ce_invalidity_date, ce_issuing_distribution_point, id_ce}
use Rattle.pkix_cert.specs.Revocations.{crl_reason, revoked_certificate, revoked_certificate_fields, tbs_cert_list, tbs_cert_list_fields}
use Rattle.pkix_cert.specs.Times.{time}
use Rattle.pkix_cert.specs.Versions.{version}
use Rattle.pkix_cert.specs.declared.extension.Extensions.{Extensions}
use Rattle.pkix_cert.specs.declared.revocation.CrlReason.{CrlReason}
use Rattle.pkix_cert.specs.declared.revocation.CrlReason.TheVariants as reason
use Rattle.pkix_cert.specs.declared.revocation.RevokedCertificate.{RevokedCertificate}
use Rattle.pkix_cert.specs.declared.revocation.TbsCertList.{TbsCertList}
use Rattle.pkix_cert.specs.declared.algorithm.AlgorithmIdentifier.{AlgorithmIdentifier}
use Rattle.pkix_cert.specs.declared.certificate.Version.{Version}
use Rattle.pkix_cert.specs.declared.time.Time.{Time}
use Rattle.pkix_name.specs.Names.{name as name_codec}
use Rattle.pkix_name.specs.declared.name.Name.{Name}
use Rattle.rcgen_certificate.specs.DistributionPoints.{full_name}
use Rattle.rcgen_certificate.specs.ExtensionRows.{ExtensionRow, IsField, extension_row}
use Rattle.rcgen_certificate.specs.Issuers.{IssuerView}
use Rattle.rcgen_certificate.specs.KeyIdentifiers.{authority_key, authority_key_row}
use Rattle.rcgen_certificate.proofs.Trees.{TreeOf, form_there, short_tree}
use Rattle.rcgen_issue.specs.CrlView.{CrlView, RevokedView}
use Rattle.rcgen_issue.specs.Entries.{IsEntry, entry_extension_rows, written_reason}
use Rattle.rcgen_issue.specs.ListTable.{CrlFitsIn64Bits}
use Rattle.rcgen_issue.specs.Lists.{HasNoCrlCause, IsCrlToBeSigned, crl_extension_rows, crl_key_id, first_crl_cause, issuing_point_value, of_authorities_only, of_users_only, v2}
use Rattle.rcgen_issue.proofs.Lists.{no_list_cause}
use Rattle.rcgen_sign.specs.KeyIds.{Method}
use Rattle.rcgen_sign.specs.Keys.{Key}
use Rattle.rcgen_sign.proofs.ElementCounts.{element_octets_count}
use Rattle.rcgen_tbs.specs.Deltas.{IsListMessage, delta_extension_rows, indicator_row, with_extensions}
use Rattle.rcgen_text.specs.declared.crl_scope.CrlScope.{CrlScope}
use Rattle.rcgen_text.specs.declared.revocation_reason.RevocationReason.{RevocationReason}
use Rattle.shelf_fault.specs.Faults.{no_cause}
use Rattle.shelf_job.specs.Issuers.{certified, with_key}
use Rattle.shelf_job.specs.Jobs.{list_issuer, list_issuer_in}
use Rattle.outcomes.specs.Lists.{ListsHaveMessages}
use Rattle.outcomes.specs.Sizes.{entry_size, method_size, point_size, uri_size}
use Rattle.outcomes.proofs.Issuers.{id_size, read_there}
use Rattle.outcomes.proofs.ListTrees.{delta_extensions_there, list_there}
use Rattle.outcomes.proofs.Rows.{algorithm_within, field_within, general_within, number_within, row_within, rows_joined, rows_size, time_within}
use Rattle.outcomes.proofs.Texts.{point_name_within}
use Rattle.outcomes.proofs.Views.{IsSmall, authority_key_within, causeless, ok_same, short_of, small_there, then_ok}
use Rattle.outcomes.proofs.Within.{Within, boolean_within, computed, field, field_by_default, field_if, field_unless_empty, fields_both, in_explicit, in_implicit, in_list, in_sequence, widened}

-- ---- entries

reason_of : (n : ℕ) (v : CrlReason) → crl_reason.tree_of v ≡ Ok (leaf (universal 10) (n ∷ [])) → Within crl_reason v 30
reason_of n v e = computed crl_reason v (leaf (universal 10) (n ∷ [])) 30 e (omega (arith, element_octets_count (made (universal 10) false (n ∷ []))))

reason_within : (r : CrlReason) → Within crl_reason r 30
unfolding unsigned_64_contents
reason_within reason.Unspecified = reason_of 0 reason.Unspecified refl
reason_within reason.KeyCompromise = reason_of 1 reason.KeyCompromise refl
reason_within reason.CaCompromise = reason_of 2 reason.CaCompromise refl
reason_within reason.AffiliationChanged = reason_of 3 reason.AffiliationChanged refl
reason_within reason.Superseded = reason_of 4 reason.Superseded refl
reason_within reason.CessationOfOperation = reason_of 5 reason.CessationOfOperation refl
reason_within reason.CertificateHold = reason_of 6 reason.CertificateHold refl
reason_within reason.RemoveFromCRL = reason_of 8 reason.RemoveFromCRL refl
reason_within reason.PrivilegeWithdrawn = reason_of 9 reason.PrivilegeWithdrawn refl
reason_within reason.AaCompromise = reason_of 10 reason.AaCompromise refl

each_if : {A : Type 0} (P : A → Type 0) (o : Option A) → ((x : A) → P x) → IfSome o P
each_if P None h = tt
each_if P (Some x) h = h x

entry_rows_within : (r : Option RevocationReason) (date : Option GeneralizedTime) → rows_size (entry_extension_rows r date) ≤ 500
entry_rows_within r date =
    let reasons = row_within (id_ce ce_crl_reason) false crl_reason (option_and_then written_reason r) 30
    (each_if (λ (x : CrlReason). Within crl_reason x 30) (option_and_then written_reason r) reason_within) in
    let dates = row_within (id_ce ce_invalidity_date) false generalized_time date 45
    (each_if (λ (x : GeneralizedTime). Within generalized_time x 45) date general_within) in
    let both = rows_joined (extension_row (id_ce ce_crl_reason) false crl_reason (option_and_then written_reason r))
    (extension_row (id_ce ce_invalidity_date) false generalized_time date) 200 200 (omega arith) (omega arith) in
    omega arith

-- of a field of extensions
pub widened_field : (rows : List ExtensionRow) (o : Option Extensions) (n : ℕ) → IsField rows o → rows_size rows ≤ n → IfSome o (λ x. Within extensions x (20 + n))
widened_field rows None n h l = tt
widened_field rows (Some x) n h l = widened extensions x (20 + rows_size rows) (20 + n) (omega arith) (field_within rows (Some x) h)

entry_within : (r : RevokedView) (e : RevokedCertificate) → IsEntry r e → Within revoked_certificate e (entry_size r)
unfolding revoked_certificate_fields
entry_within r e h t g =
    let serial = field integer e.user_certificate (21 + length r.serial_number)
    (subst (λ (v : List ℕ). Within integer v (21 + length r.serial_number)) (sym h.user_certificate) (number_within r.serial_number)) in
    let date = field time e.revocation_date 45 (time_within e.revocation_date) in
    let given = field_if extensions e.crl_entry_extensions (20 + 500)
    (widened_field (entry_extension_rows r.reason_code h.date) e.crl_entry_extensions 500 h.extensions (entry_rows_within r.reason_code h.date)) in
    let two = fields_both (required time) (optional extensions) e.revocation_date e.crl_entry_extensions 45 (20 + 500) date given in
    let all = fields_both (required integer) (required time & optional extensions) e.user_certificate (e.revocation_date, e.crl_entry_extensions)
    (21 + length r.serial_number) (45 + (20 + 500)) serial two in
    let whole = in_sequence (universal 16) revoked_certificate_fields e (21 + length r.serial_number + (45 + (20 + 500))) all t g in
    omega arith

-- ---- the issuing point

point_of_within : (p : List (List ℕ) × Option CrlScope) → Within issuing_distribution_point (issuing_point_value p) (500 + sum_by uri_size p.0)
unfolding issuing_distribution_point_fields
point_of_within p t e =
    let n = sum_by uri_size p.0 in
    let name = field_if (explicitly (context 0) distribution_point_name) (Some (full_name p.0)) (20 + (40 + n))
    (in_explicit (context 0) distribution_point_name (full_name p.0) (40 + n) (point_name_within p.0)) in
    let users = field_by_default (implicitly (context 1) boolean refl) beq false (of_users_only p.1) 41
    (in_implicit (context 1) boolean refl (of_users_only p.1) 21 (boolean_within (of_users_only p.1))) in
    let authorities = field_by_default (implicitly (context 2) boolean refl) beq false (of_authorities_only p.1) 41
    (in_implicit (context 2) boolean refl (of_authorities_only p.1) 21 (boolean_within (of_authorities_only p.1))) in
    let reasons = field_if (implicitly (context 3) bit_string refl) None 0 tt in
    let indirect = field_by_default (implicitly (context 4) boolean refl) beq false false 41 (in_implicit (context 4) boolean refl false 21 (boolean_within false)) in
    let attributes = field_by_default (implicitly (context 5) boolean refl) beq false false 41 (in_implicit (context 5) boolean refl false 21 (boolean_within false)) in
    let f5 = with_default (implicitly (context 5) boolean refl) beq beq_exact false in
    let f4 = with_default (implicitly (context 4) boolean refl) beq beq_exact false in
    let f3 = optional (implicitly (context 3) bit_string refl) in
    let f2 = with_default (implicitly (context 2) boolean refl) beq beq_exact false in
    let f1 = with_default (implicitly (context 1) boolean refl) beq beq_exact false in
    let f0 = optional (explicitly (context 0) distribution_point_name) in
    let a = fields_both f4 f5 false false 41 41 indirect attributes in
    let b = fields_both f3 (f4 & f5) None (false, false) 0 82 reasons a in
    let c = fields_both f2 (f3 & (f4 & f5)) (of_authorities_only p.1) (None, (false, false)) 41 82 authorities b in
    let d = fields_both f1 (f2 & (f3 & (f4 & f5))) (of_users_only p.1) (of_authorities_only p.1, (None, (false, false))) 41 123 users c in
    let all = fields_both f0 (f1 & (f2 & (f3 & (f4 & f5)))) (Some (full_name p.0)) (of_users_only p.1, (of_authorities_only p.1, (None, (false, false))))
    (20 + (40 + n)) 164 name d in
    let whole = in_sequence (universal 16) issuing_distribution_point_fields (issuing_point_value p) (20 + (40 + n) + 164) all t e in
    omega arith

point_within : (o : Option (List (List ℕ) × Option CrlScope))
    → IfSome (option_map issuing_point_value o) (λ x. Within issuing_distribution_point x (500 + point_size o))
point_within None = tt
point_within (Some p) = point_of_within p

-- ---- the list

key_size : (m : Option Method) (i : IssuerView) (n : ℕ) → length i.key_identifier ≤ 20 + n → length (crl_key_id m i) ≤ 20 + n + option_map_or method_size m 0
key_size None i n h = omega arith
key_size (Some m) i n h = omega (arith, id_size m i.info)

abbrev extensions_size : CrlView → ℕ → ℕ
extensions_size p n = 1500 + n + option_map_or method_size p.key_identifier_method 0 + length p.crl_number + point_size p.issuing_distribution_point

list_rows_within : (p : CrlView) (i : IssuerView) (n : ℕ) → IsSmall n i → rows_size (crl_extension_rows p i) ≤ extensions_size p n
list_rows_within p i n s =
    let id = crl_key_id p.key_identifier_method i in
    let size = key_size p.key_identifier_method i n s.id in
    let own = row_within (id_ce ce_authority_key_identifier) false authority_key_identifier (Some (authority_key id)) (60 + length id) (authority_key_within id) in
    let number = row_within (id_ce ce_crl_number) false integer (Some (unsigned p.crl_number)) (21 + length p.crl_number) (number_within p.crl_number) in
    let point = row_within (id_ce ce_issuing_distribution_point) true issuing_distribution_point (option_map issuing_point_value p.issuing_distribution_point)
    (500 + point_size p.issuing_distribution_point) (point_within p.issuing_distribution_point) in
    let first = authority_key_row true id in
    let second = extension_row (id_ce ce_crl_number) false integer (Some (unsigned p.crl_number)) in
    let third = extension_row (id_ce ce_issuing_distribution_point) true issuing_distribution_point (option_map issuing_point_value p.issuing_distribution_point) in
    let two = rows_joined first second (210 + length id) (171 + length p.crl_number) (omega arith) (omega arith) in
    let three = rows_joined (first ++ second) third (381 + length id + length p.crl_number) (650 + point_size p.issuing_distribution_point) (omega arith) (omega arith) in
    omega arith

delta_rows_within : (base : List ℕ) (p : CrlView) (i : IssuerView) (n : ℕ) → IsSmall n i
    → rows_size (delta_extension_rows base p i) ≤ extensions_size p n + (200 + length base)
delta_rows_within base p i n s =
    let indicator = row_within (id_ce ce_delta_crl_indicator) true integer (Some (unsigned base)) (21 + length base) (number_within base) in
    rows_joined (crl_extension_rows p i) (indicator_row base) (extensions_size p n) (200 + length base) (list_rows_within p i n s) (omega arith)

-- with extensions of m octets
abbrev tbs_size : CrlView → ℕ → ℕ → ℕ
tbs_size p n m = 1000 + n + sum_by entry_size p.revoked_certs + m

version_within : (v : Option Version) → v ≡ Some v2 → IfSome v (λ x. Within version x 30)
unfolding unsigned_64_contents
version_within v e =
    subst (λ (o : Option Version). IfSome o (λ x. Within version x 30)) (sym e)
    (computed version v2 (leaf (universal 2) (1 ∷ [])) 30 refl (omega (arith, element_octets_count (made (universal 2) false (1 ∷ [])))))

named_within : (o : Option Name) (x : Name) (n : ℕ) → o ≡ Some x → IfSome o (λ y. Within name_codec y n) → Within name_codec x n
named_within o x n e h = subst (λ (p : Option Name). IfSome p (λ y. Within name_codec y n)) e h

wrapped : {A : Type 0} (g : Tag) (c : Codec A) (o : Option A) (n : ℕ) → IfSome o (λ x. Within c x n) → IfSome o (λ x. Within (explicitly g c) x (20 + n))
wrapped g c None n h = tt
wrapped g c (Some x) n h = in_explicit g c x n h

-- the values of the fields from the signature on, and of those after each
abbrev V5 : Type 0
V5 = List RevokedCertificate × Option Extensions

abbrev V4 : Type 0
V4 = Option Time × V5

abbrev V3 : Type 0
V3 = Time × V4

abbrev V2 : Type 0
V2 = Name × V3

abbrev V1 : Type 0
V1 = AlgorithmIdentifier × V2

tbs_within : (p : CrlView) (i : IssuerView) (n x : ℕ) (t : TbsCertList) (extensions_field : Option Extensions) → IsSmall n i → IsCrlToBeSigned p i t
    → IfSome extensions_field (λ y. Within extensions y (20 + x)) → Within tbs_cert_list (with_extensions extensions_field t) (tbs_size p n x)
unfolding tbs_cert_list_fields
tbs_within p i n x t extensions_field s h w u e =
    let m = sum_by entry_size p.revoked_certs in
    let ver = field_if version t.version 30 (version_within t.version h.version) in
    let algorithm = field algorithm_identifier t.signature 400
    (subst (λ (y : AlgorithmIdentifier). Within algorithm_identifier y 400) (sym h.signature) (algorithm_within i.algorithm)) in
    let issuer = field name_codec t.issuer n (named_within i.name t.issuer n h.issuer_name s.name_within) in
    let this = field time t.this_update 45 (time_within t.this_update) in
    let next = field_if time t.next_update 45 (each_if (λ (y : Time). Within time y 45) t.next_update time_within) in
    let entries = field_unless_empty (sequence_of revoked_certificate 0 None refl) t.revoked_certificates (20 + m)
    (in_list revoked_certificate 0 None refl IsEntry entry_size entry_within p.revoked_certs t.revoked_certificates h.entries) in
    let given = field_if (explicitly (context 0) extensions) extensions_field (20 + (20 + x))
    (wrapped (context 0) extensions extensions_field (20 + x) w) in
    let f6 = optional (explicitly (context 0) extensions) in
    let f5 = unwritten_if_empty (sequence_of revoked_certificate 0 None refl) in
    let f4 = optional time in
    let f3 = required time in
    let f2 = required name_codec in
    let f1 = required algorithm_identifier in
    let v5 : V5 = (t.revoked_certificates, extensions_field) in
    let v4 : V4 = (t.next_update, v5) in
    let v3 : V3 = (t.this_update, v4) in
    let v2 : V2 = (t.issuer, v3) in
    let v1 : V1 = (t.signature, v2) in
    let k6 = 20 + (20 + x) in
    let k5 = 20 + m + k6 in
    let k4 = 45 + k5 in
    let k3 = 45 + k4 in
    let k2 = n + k3 in
    let k1 = 400 + k2 in
    let a = fields_both f5 f6 t.revoked_certificates extensions_field (20 + m) k6 entries given in
    let b = fields_both f4 (f5 & f6) t.next_update v5 45 k5 next a in
    let c = fields_both f3 (f4 & (f5 & f6)) t.this_update v4 45 k4 this b in
    let d = fields_both f2 (f3 & (f4 & (f5 & f6))) t.issuer v3 n k3 issuer c in
    let f = fields_both f1 (f2 & (f3 & (f4 & (f5 & f6)))) t.signature v2 400 k2 algorithm d in
    let all = fields_both (optional version) (f1 & (f2 & (f3 & (f4 & (f5 & f6))))) t.version v1 30 k1 ver f in
    let whole = in_sequence (universal 16) tbs_cert_list_fields (with_extensions extensions_field t) (30 + k1) all u e in
    omega arith

-- ---- the law

issuer_there : (issuer : List ℕ) (key : Key) (i : IssuerView) → list_issuer issuer key ≡ Ok i → IsSmall (length issuer) i
unfolding list_issuer
issuer_there issuer key i e =
    let c = then_ok (certified issuer) (λ c. Ok (with_key c key)) i e in
    small_there issuer c.0 key i (read_there issuer c.0 c.1) (ok_same (with_key c.0 key) i _ refl c.2)

point_short : (o : Option (List (List ℕ) × Option CrlScope)) → point_size o < 2 ^ 60
    → IfSome (option_map issuing_point_value o) (HasShortTree issuing_distribution_point)
point_short None l = tt
point_short (Some p) l = short_of issuing_distribution_point (issuing_point_value p) (500 + sum_by uri_size p.0) (point_of_within p) (omega arith)

form_of_size : {A : Type 0} (c : Codec A) (v : A) (n : ℕ) → TreeOf c v → Within c v n → n < 2 ^ 64 → (b : List ℕ) × IsDerOf c v b
form_of_size c v n h w l = form_there c v (short_tree c v h (short_of c v n w l))

message_there : (base : Option (List ℕ)) (p : CrlView) (i : IssuerView) (n : ℕ) → IsSmall n i → HasNoCrlCause p i → CrlFitsIn64Bits p i
    → tbs_size p n (extensions_size p n) + (200 + option_map_or length base 0) < 2 ^ 64 → (message : List ℕ) × IsListMessage base p i message
message_there None p i n small none short l =
    let h = list_there p i None none short tt in
    let t = h.complete in
    let x = extensions_size p n in
    let given = widened_field (crl_extension_rows p i) t.crl_extensions x h.is_complete.extensions (list_rows_within p i n small) in
    let form = form_of_size tbs_cert_list t (tbs_size p n x) h.tree (tbs_within p i n x t t.crl_extensions small h.is_complete given) (omega arith) in
    (form.0, (t, h.is_complete, form.1))
message_there (Some base) p i n small none short l =
    let number = short_of integer (unsigned base) (21 + length base) (number_within base) (omega arith) in
    let rows = delta_extensions_there base p i none short number in
    let h = list_there p i rows.field none short rows.tree in
    let t = with_extensions rows.field h.complete in
    let x = extensions_size p n + (200 + length base) in
    let given = widened_field (delta_extension_rows base p i) rows.field x rows.is_field (delta_rows_within base p i n small) in
    let form = form_of_size tbs_cert_list t (tbs_size p n x) h.other_tree (tbs_within p i n x h.complete rows.field small h.is_complete given) (omega arith) in
    (form.0, (t, record { complete = h.complete; complete_is = h.is_complete; extensions = rows.is_field; replaced = refl }, form.1))

pub list_messages : ListsHaveMessages
list_messages a r l =
    let p : CrlView = a.params in
    let issued = then_ok (list_issuer_in a) (λ issuer. no_cause (first_crl_cause p issuer)) tt r in
    let i : IssuerView = issued.0 in
    let none = no_list_cause p i (causeless (first_crl_cause p i) tt issued.2) in
    let n = length a.issuer in
    let small = issuer_there a.issuer a.key i issued.1 in
    let id = crl_key_id p.key_identifier_method i in
    let size = key_size p.key_identifier_method i n small.id in
    let short : CrlFitsIn64Bits p i = record {
      issuer_name = small.name_tree;
      authority_key_id = short_of authority_key_identifier (authority_key id) (60 + length id) (authority_key_within id) (omega arith);
      number = short_of integer (unsigned p.crl_number) (21 + length p.crl_number) (number_within p.crl_number) (omega arith);
      point = point_short p.issuing_distribution_point (omega arith);
    } in
    let m = message_there a.base p i n small none short (omega arith) in
    (m.0, (i, issued.1, m.1))
