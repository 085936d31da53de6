-- An issuer that is read from its own certificate is the issuer that it was.
use Rattle.std.specs.Prelude.{◌≡◌, ◌⊎◌, ℕ, Bool, true, false, cond, ◌==◌, List, [], ◌∷◌, ◌++◌, length, map, Option, Some, None, Result, Ok, ok_or, refl}
use Rattle.std.specs.List.{cons_option, list_all}
use Rattle.std.specs.Option.{option_map}
use Rattle.std.proofs.Common.{ap, inl, inr, sym, ◌∙◌}
use Rattle.asn1_core.specs.Binds.{bind_is}
use Rattle.der_tree.specs.Codec.{Codec}
use Rattle.der_tree.specs.Form.{IsDerOf}
use Rattle.der_tree.specs.PrimitiveTypes.{bit_string, octet_string}
use Rattle.pkix_cert.specs.Certificates.{certificate}
use Rattle.pkix_cert.specs.Held.{extensions_in}
use Rattle.pkix_cert.specs.declared.certificate.Certificate.{Certificate}
use Rattle.pkix_cert.specs.declared.extension.Extension.{Extension}
use Rattle.pkix_name.specs.declared.name.Name.{Name}
use Rattle.rcgen_text.specs.Causes.{Cause, not_certificate}
use Rattle.rcgen_text.specs.Names.{Entry}
use Rattle.rcgen_text.proofs.DnTypes.{keeps_arcs}
use Rattle.rcgen_text.specs.DnTypes.{type_arcs}
use Rattle.rcgen_sign.specs.KeyIds.{Method, by_sha256, key_id}
use Rattle.rcgen_sign.specs.Keys.{key_info_octets}
use Rattle.rcgen_certificate.specs.ExtensionRows.{ExtensionRow, extension_row, form_of, row_of_extension}
use Rattle.pkix_cert.specs.ExtensionIds.{ce_key_usage, ce_subject_key_identifier, id_ce}
use Rattle.rcgen_certificate.specs.IssuedExtensions.{extension_rows}
use Rattle.rcgen_certificate.specs.KeyIdentifiers.{subject_key, subject_key_if}
use Rattle.rcgen_certificate.specs.KeyUsages.{named_bits}
use Rattle.rcgen_certificate.specs.NameValues.{has_types, issuer_name, name_value}
use Rattle.rcgen_certificate.specs.Issuers.{IssuerView, own_view}
use Rattle.rcgen_text.specs.declared.basic_constraints.IsCa.{IsCa}
use Rattle.rcgen_text.specs.declared.basic_constraints.IsCa.TheVariants.{NoCa, ExplicitNoCa, Ca}
use Rattle.rcgen_text.specs.declared.key_usage.KeyUsagePurpose.{KeyUsagePurpose}
use Rattle.rcgen_certificate.specs.ParamsView.{ParamsView}
use Rattle.rcgen_issue.specs.SameIssuers.{SignTheSame}
use Rattle.rcgen_read.specs.ExtensionReading.{usages_of_bits}
use Rattle.rcgen_read.specs.IssuerReading.{RestoredIssuer, certificate_at, method_by, restored, stated_key_ids, stated_usages, with_id}
use Rattle.rcgen_read.specs.NameReading.{read_name}
use Rattle.rcgen_read.specs.NamesReadBack.{HasDistinctOids, by_arcs, is_held}
use Rattle.rcgen_read.specs.Reading.{read_exactly}
use Rattle.rcgen_read.specs.ReceivedRequests.{front_at}
use Rattle.rcgen_read.specs.RequestLaws.{usages_in_order}
use Rattle.rcgen_read.specs.RestoredIssuers.{IsRestored, view_of_restored}
use Rattle.rcgen_read.proofs.AskedRows.{by_tree}
use Rattle.rcgen_read.proofs.EachRead.{and_then_is}
use Rattle.rcgen_read.proofs.KeptUsages.{same_signing}
use Rattle.rcgen_read.proofs.NamesReadBack.{same_parts}
use Rattle.rcgen_read.proofs.PickedRows.{given_rows, key_id_rows, not_given, picked, rows_with, stated_are, usage_rows}
use Rattle.rcgen_read.proofs.ReadParts.{form_in_front}
use Rattle.rcgen_read.proofs.ReadUsages.{BitsAreSet, bits_read, form_read, no_usage}
use Rattle.der_tree.proofs.FormLaws.{value_again}

-- ---- what an extension of a row says

contents_of : List ExtensionRow → Option (List ℕ)
contents_of [] = None
contents_of (r ∷ rs) = r.contents

first_form : {A : Type 0} (c : Codec A) (v : A) (oid : List ℕ) (critical : Bool) (e : Extension) (es : List Extension) (rest : List ExtensionRow)
    → map row_of_extension (e ∷ es) ≡ extension_row oid critical c (Some v) ++ rest → IsDerOf c v e.extn_value
unfolding contents_of
first_form c v oid critical e es rest h =
    let contents : Some e.extn_value ≡ form_of c v = ap contents_of h in
    by_tree c v e.extn_value (c.tree_of v) refl (sym contents)

none_stated : (es : List Extension) → map row_of_extension es ≡ [] → es ≡ []
none_stated [] h = refl
none_stated (e ∷ es) h = absurd cc

-- ---- key usage

one_stated : BitsAreSet → (us : List KeyUsagePurpose) (es : List Extension) → (length us == 0) ≡ false
    → map row_of_extension es ≡ extension_row (id_ce ce_key_usage) true bit_string (Some (named_bits us)) → stated_usages es ≡ Ok (usages_in_order us)
one_stated set us [] some h = absurd cc
one_stated set us (e ∷ []) some h =
    and_then_is (read_exactly bit_string not_certificate e.extn_value) (λ b. Ok (usages_of_bits b)) (named_bits us) (Ok (usages_in_order us))
    (form_read bit_string (named_bits us) e.extn_value not_certificate (first_form bit_string (named_bits us) (id_ce ce_key_usage) true e [] [] h))
    (ap (λ (vs : List KeyUsagePurpose). let r : Result (List KeyUsagePurpose) Cause = Ok vs in r) (bits_read set us some))
one_stated set us (e ∷ another ∷ more) some h = absurd cc

usages_by : BitsAreSet → (us : List KeyUsagePurpose) (es : List Extension) (empty : Bool) → (length us == 0) ≡ empty
    → map row_of_extension es ≡ extension_row (id_ce ce_key_usage) true bit_string (option_map named_bits (cond empty None (Some us)))
    → stated_usages es ≡ Ok (usages_in_order us)
usages_by set us es true e h =
    ap stated_usages (none_stated es h) ∙ ap (λ (vs : List KeyUsagePurpose). let r : Result (List KeyUsagePurpose) Cause = Ok vs in r) (no_usage us e)
usages_by set us es false e h = one_stated set us es e h

-- ---- the identifier of the key

first_id : (id : List ℕ) (es : List Extension) (rest : List ExtensionRow)
    → map row_of_extension es ≡ extension_row (id_ce ce_subject_key_identifier) false octet_string (Some id) ++ rest
    → (more : List (List ℕ)) × (stated_key_ids es ≡ id ∷ more)
first_id id [] rest h = absurd cc
first_id id (e ∷ es) rest h =
    let read = value_again octet_string e.extn_value id (first_form octet_string id (id_ce ce_subject_key_identifier) false e es rest h) in
    (stated_key_ids es, ap (λ (o : Option (List ℕ)). cons_option o (stated_key_ids es)) read)

-- the identifier that is given is the key's
given_back : (method : Method) (info : List ℕ) (es : List Extension) (rest : List ExtensionRow)
    → map row_of_extension es ≡ extension_row (id_ce ce_subject_key_identifier) false octet_string (Some (subject_key method info)) ++ rest
    → key_id (method_by (stated_key_ids es)) info ≡ key_id method info
given_back method info es rest h =
    ap (λ (ids : List (List ℕ)). key_id (method_by ids) info) (first_id (subject_key method info) es rest h).1

by_digest : (method : Method) → ¬ (NoCa ≡ NoCa) ⊎ (method ≡ by_sha256) → method ≡ by_sha256
by_digest method (inl h) = absurd (h refl)
by_digest method (inr h) = h

key_id_by : (method : Method) (info : List ℕ) (c : IsCa) (es : List Extension) (rest : List ExtensionRow)
    → ¬ (c ≡ NoCa) ⊎ (method ≡ by_sha256) → (c ≡ NoCa → rest ≡ [])
    → map row_of_extension es ≡ extension_row (id_ce ce_subject_key_identifier) false octet_string (subject_key_if c (subject_key method info)) ++ rest
    → key_id (method_by (stated_key_ids es)) info ≡ key_id method info
key_id_by method info NoCa es rest either none h =
    ap (λ (xs : List Extension). key_id (method_by (stated_key_ids xs)) info) (none_stated es (h ∙ none refl))
    ∙ ap (λ (m : Method). key_id m info) (sym (by_digest method either))
key_id_by method info ExplicitNoCa es rest either none h = given_back method info es rest h
key_id_by method info (Ca c) es rest either none h = given_back method info es rest h

-- ---- the name

same_types : (es : List Entry) → has_types (map by_arcs es) ≡ has_types es
same_types [] = refl
same_types (e ∷ es) = rw (keeps_arcs (type_arcs e.dn_type), same_types es) refl

same_name : (es : List Entry) → issuer_name (map by_arcs es) ≡ issuer_name es
same_name es =
    ap (λ (b : Bool). cond b (Some (name_value (map by_arcs es))) None) (same_types es)
    ∙ ap (λ (n : Name). cond (has_types es) (Some n) None) (same_parts es)

-- names are read back whose identifiers are distinct
abbrev pub DistinctAreRead : Type 0
DistinctAreRead =
    (es : List Entry) → list_all is_held es ≡ true → HasDistinctOids (name_value es) → read_name (name_value es) ≡ Ok (map by_arcs es)

-- ---- the certificate

in_front : (c : Certificate) (der rest : List ℕ) → IsDerOf certificate c der → certificate_at (der ++ rest) ≡ Some c
in_front c der rest f =
    bind_is (front_at (der ++ rest)) certificate.read_of f.1 (Some c) (form_in_front certificate c der rest f) (certificate.again c f.0 f.1 f.2 f.3)

abbrev issuer_of : List Entry → List (List ℕ) → List KeyUsagePurpose → RestoredIssuer
issuer_of name ids usages = record { name = name; method = method_by ids; usages = usages }

restored_is : (c : Certificate) (name : List Entry) (usages : List KeyUsagePurpose)
    → stated_usages (with_id (id_ce ce_key_usage) (extensions_in c.tbs_certificate.extensions)) ≡ Ok usages → read_name c.tbs_certificate.subject ≡ Ok name
    → restored c ≡ Ok (issuer_of name (stated_key_ids (with_id (id_ce ce_subject_key_identifier) (extensions_in c.tbs_certificate.extensions))) usages)
restored_is c name usages e h = rw (e, h) refl

-- under one view the same is signed
abbrev pub SameUnderOneView : Type 0
SameUnderOneView = (one other : IssuerView) → one ≡ other → SignTheSame one other

pub issuers_back : (params : ParamsView) → DistinctAreRead → BitsAreSet → SameUnderOneView → list_all is_held params.distinguished_name ≡ true
    → IsRestored params
issuers_back params read set same held can key issuer c der rest issued form =
    let t = issued.to_be_signed in
    let info : List ℕ = key_info_octets key in
    let method : Method = params.key_identifier_method in
    let es : List Extension = extensions_in c.tbs_certificate.extensions in
    let rows : map row_of_extension es ≡ extension_rows params key issuer =
    stated_are (extension_rows params key issuer) c.tbs_certificate.extensions t.extensions in
    let usages : stated_usages (with_id (id_ce ce_key_usage) es) ≡ Ok (usages_in_order params.key_usages) =
    usages_by set params.key_usages (with_id (id_ce ce_key_usage) es) (length params.key_usages == 0) refl
    (picked (id_ce ce_key_usage) es ∙ ap (rows_with (id_ce ce_key_usage)) rows ∙ usage_rows params key issuer can.key_usage) in
    let name : read_name c.tbs_certificate.subject ≡ Ok (map by_arcs params.distinguished_name) =
    ap read_name t.subject_name ∙ read params.distinguished_name held can.name in
    let key_identifier : key_id (method_by (stated_key_ids (with_id (id_ce ce_subject_key_identifier) es))) info ≡ key_id method info =
    key_id_by method info params.is_ca (with_id (id_ce ce_subject_key_identifier) es) (rows_with (id_ce ce_subject_key_identifier) (given_rows params)) can.method
    (λ n. not_given params.custom_extensions (id_ce ce_subject_key_identifier) (can.key_id n))
    (picked (id_ce ce_subject_key_identifier) es ∙ ap (rows_with (id_ce ce_subject_key_identifier)) rows ∙ key_id_rows params key issuer) in
    let r : RestoredIssuer =
    issuer_of (map by_arcs params.distinguished_name) (stated_key_ids (with_id (id_ce ce_subject_key_identifier) es)) (usages_in_order params.key_usages) in
    let view : view_of_restored r key ≡ own_view params key =
    rw (same_name params.distinguished_name, key_identifier, same_signing params.key_usages) refl in (
      r,
      and_then_is (ok_or (certificate_at (der ++ rest)) not_certificate) restored c _
          (ap (λ (o : Option Certificate). ok_or o not_certificate) (in_front c der rest form))
          (restored_is c (map by_arcs params.distinguished_name) (usages_in_order params.key_usages) usages name),
      record { view = view; signs = same (own_view params key) (view_of_restored r key) (sym view) },
    )
