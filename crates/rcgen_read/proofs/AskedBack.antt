-- What the extensions of a request ask for that was written for parameters.
use Rattle.std.specs.Prelude.{◌≡◌, ℕ, Bool, true, false, ◌<◌, ◌==◌, List, [], ◌++◌, length, map, None, Some, Ok, Result, refl}
use Rattle.std.specs.List.{list_all}
use Rattle.std.proofs.Common.{ap, subst, sym, ◌∙◌}
use Rattle.std.proofs.lemmas.Bool.{eqb-true, lt-ltb}
use Rattle.std.proofs.lemmas.List.{nil_from_length}
use Rattle.rcgen_certificate.specs.SubjectAltNames.{general_name_value, subject_alt_name}
use Rattle.der_tree.specs.Form.{IsDerOf}
use Rattle.der_tree.specs.Grammar.{sequence_of}
use Rattle.der_tree.specs.PrimitiveTypes.{bit_string, object_identifier}
use Rattle.pkix_cert.specs.Constraints.{basic_constraints}
use Rattle.pkix_cert.specs.declared.constraint.BasicConstraints.{BasicConstraints as Constraints}
use Rattle.pkix_cert.specs.declared.extension.Extension.{Extension}
use Rattle.pkix_name.specs.GeneralNames.{general_name}
use Rattle.rcgen_text.specs.AlternativeNames.{AlternativeName}
use Rattle.rcgen_text.specs.Causes.{Cause}
use Rattle.rcgen_certificate.specs.BasicConstraints.{constraints}
use Rattle.rcgen_certificate.specs.ExtendedKeyUsages.{Purpose, ext_key_usage, purpose_oid}
use Rattle.rcgen_certificate.specs.ExtensionRows.{ExtensionRow, extension_row, row_of_extension}
use Rattle.pkix_cert.specs.ExtensionIds.{ce_basic_constraints, ce_ext_key_usage, ce_key_usage, ce_subject_alt_name, id_ce}
use Rattle.rcgen_certificate.specs.KeyUsages.{key_usage, named_bits}
use Rattle.rcgen_text.specs.declared.basic_constraints.BasicConstraints.TheVariants.{Unconstrained, Constrained}
use Rattle.rcgen_text.specs.declared.basic_constraints.IsCa.{IsCa}
use Rattle.rcgen_text.specs.declared.basic_constraints.IsCa.TheVariants.{NoCa, ExplicitNoCa, Ca}
use Rattle.rcgen_text.specs.declared.key_usage.KeyUsagePurpose.{KeyUsagePurpose}
use Rattle.rcgen_certificate.specs.ParamsView.{ParamsView}
use Rattle.rcgen_read.specs.AlternativeNameReading.{read_names}
use Rattle.rcgen_read.specs.ExtensionReading.{Asked, is_ca_of, nothing_asked, purposes_listed, read_constraints, read_extensions, read_purposes, read_usages}
use Rattle.rcgen_read.specs.NamesReadBack.{is_held_name}
use Rattle.rcgen_read.specs.RequestLaws.{asked_by, constraints_row, names_row, purposes_in_order, purposes_row, requested}
use Rattle.rcgen_read.specs.RequestLaws.{usages_in_order, usages_row}
use Rattle.rcgen_read.proofs.AskedRows.{after, all_have, ask_rows, asked_by_rows, has_contents, list_asked, parts_have, row_asked}
use Rattle.rcgen_read.proofs.EachRead.{and_then_is}
use Rattle.rcgen_read.proofs.InsertedPurposes.{inserted_first}
use Rattle.rcgen_read.proofs.ReadUsages.{BitsAreSet, constraints_read, length_read, no_usage, purposes_read, usages_read}

abbrev asking : List AlternativeName → List KeyUsagePurpose → List Purpose → IsCa → Asked
asking ns us ps c = record { names = ns; usages = us; purposes = ps; is_ca = c }

abbrev Has : List ExtensionRow → Type 0
Has rows = list_all has_contents rows ≡ true

-- ---- a row of each kind

usages_asked : BitsAreSet → (us : List KeyUsagePurpose) → Has (extension_row (id_ce ce_key_usage) true bit_string (key_usage us))
    → ask_rows nothing_asked (extension_row (id_ce ce_key_usage) true bit_string (key_usage us)) ≡ Ok (asking [] (usages_in_order us) [] NoCa)
usages_asked set us h =
    list_asked bit_string (id_ce ce_key_usage) true nothing_asked (asking [] (usages_in_order us) [] NoCa) us named_bits
    (λ e. ap (λ (vs : List KeyUsagePurpose). asking [] vs [] NoCa) (no_usage us e))
    (λ some b f. and_then_is (read_usages b) _ (usages_in_order us) (Ok (asking [] (usages_in_order us) [] NoCa)) (usages_read set us some b f) refl) h

-- alternative names in their form, as the law on them says
abbrev pub NamesAreRead : Type 0
NamesAreRead =
    (ns : List AlternativeName) (b : List ℕ) → list_all is_held_name ns ≡ true → IsDerOf (sequence_of general_name 0 None refl) (map general_name_value ns) b
    → read_names b ≡ Ok ns

no_item : {A : Type 0} (xs : List A) → (length xs == 0) ≡ true → xs ≡ []
no_item xs e = nil_from_length xs (eqb-true (length xs) 0 e)

names_asked : NamesAreRead → (us : List KeyUsagePurpose) (critical : Bool) (xs : List AlternativeName) → list_all is_held_name xs ≡ true
    → Has (extension_row (id_ce ce_subject_alt_name) critical (sequence_of general_name 0 None refl) (subject_alt_name xs))
    → ask_rows (asking [] us [] NoCa) (extension_row (id_ce ce_subject_alt_name) critical (sequence_of general_name 0 None refl) (subject_alt_name xs))
    ≡ Ok (asking xs us [] NoCa)
names_asked read us critical xs held h =
    list_asked (sequence_of general_name 0 None refl) (id_ce ce_subject_alt_name) critical (asking [] us [] NoCa) (asking xs us [] NoCa) xs
    (map general_name_value) (λ e. ap (λ (ys : List AlternativeName). asking ys us [] NoCa) (sym (no_item xs e)))
    (λ some b f. and_then_is (read_names b) _ xs (Ok (asking xs us [] NoCa)) (read xs b held f) refl) h

purposes_asked : (ns : List AlternativeName) (us : List KeyUsagePurpose) (ps : List Purpose)
    → Has (extension_row (id_ce ce_ext_key_usage) false (sequence_of object_identifier 0 None refl) (ext_key_usage ps))
    → ask_rows (asking ns us [] NoCa) (extension_row (id_ce ce_ext_key_usage) false (sequence_of object_identifier 0 None refl) (ext_key_usage ps))
    ≡ Ok (asking ns us (purposes_in_order (map purpose_oid ps)) NoCa)
purposes_asked ns us ps h =
    let listed : List Purpose = purposes_listed (map purpose_oid ps) in
    let there : List Purpose = purposes_in_order (map purpose_oid ps) in
    list_asked (sequence_of object_identifier 0 None refl) (id_ce ce_ext_key_usage) false (asking ns us [] NoCa) (asking ns us there NoCa) ps (map purpose_oid)
    (λ e. ap (λ (qs : List Purpose). asking ns us (purposes_in_order (map purpose_oid qs)) NoCa) (sym (no_item ps e)))
    (λ some b f. and_then_is (read_purposes b) _ listed (Ok (asking ns us there NoCa)) (purposes_read (map purpose_oid ps) b f)
    (ap (λ (qs : List Purpose). let r : Result Asked Cause = Ok (asking ns us qs NoCa) in r) (inserted_first listed))) h

-- a path length is below 256
abbrev pub IsShort : IsCa → Type 0
IsShort c = (n : ℕ) → c ≡ Ca (Constrained n) → n < 256

ca_read : (ns : List AlternativeName) (us : List KeyUsagePurpose) (ps : List Purpose) (v : Constraints) (c : IsCa) → is_ca_of v ≡ Ok c
    → Has (extension_row (id_ce ce_basic_constraints) true basic_constraints (Some v))
    → ask_rows (asking ns us ps NoCa) (extension_row (id_ce ce_basic_constraints) true basic_constraints (Some v)) ≡ Ok (asking ns us ps c)
ca_read ns us ps v c e h =
    row_asked basic_constraints v (id_ce ce_basic_constraints) true (asking ns us ps NoCa) (asking ns us ps c) h
    (λ b f. and_then_is (read_constraints b) _ c (Ok (asking ns us ps c)) (constraints_read v b f ∙ e) refl)

constraints_asked : (ns : List AlternativeName) (us : List KeyUsagePurpose) (ps : List Purpose) (c : IsCa) → IsShort c
    → Has (extension_row (id_ce ce_basic_constraints) true basic_constraints (constraints c))
    → ask_rows (asking ns us ps NoCa) (extension_row (id_ce ce_basic_constraints) true basic_constraints (constraints c)) ≡ Ok (asking ns us ps c)
constraints_asked ns us ps NoCa short h = refl
constraints_asked ns us ps ExplicitNoCa short h = ca_read ns us ps _ ExplicitNoCa refl h
constraints_asked ns us ps (Ca Unconstrained) short h = ca_read ns us ps _ (Ca Unconstrained) refl h
constraints_asked ns us ps (Ca (Constrained n)) short h = ca_read ns us ps _ (Ca (Constrained n)) (length_read n (lt-ltb n 256 (short n refl))) h

-- ---- all rows

pub all_asked : (params : ParamsView) → BitsAreSet → NamesAreRead
    → list_all is_held_name params.subject_alt_names ≡ true → IsShort params.is_ca → (es : List Extension)
    → map row_of_extension es ≡ requested params → read_extensions es ≡ Ok (asked_by params)
all_asked params set read held short es e =
    let us : List KeyUsagePurpose = usages_in_order params.key_usages in
    let ns : List AlternativeName = params.subject_alt_names in
    let ps : List Purpose = purposes_in_order (map purpose_oid params.extended_key_usages) in
    let has : Has (requested params) = subst Has e (all_have es) in
    let three = parts_have (usages_row params ++ names_row params ++ purposes_row params) (constraints_row params) has in
    let two = parts_have (usages_row params ++ names_row params) (purposes_row params) three.0 in
    let one = parts_have (usages_row params) (names_row params) two.0 in
    asked_by_rows es (requested params) e
    ∙ after nothing_asked (asking ns us ps NoCa) (usages_row params ++ names_row params ++ purposes_row params) (constraints_row params) (Ok (asked_by params))
    (after nothing_asked (asking ns us [] NoCa) (usages_row params ++ names_row params) (purposes_row params) (Ok (asking ns us ps NoCa))
    (after nothing_asked (asking [] us [] NoCa) (usages_row params) (names_row params) (Ok (asking ns us [] NoCa))
    (usages_asked set params.key_usages one.0)
    (names_asked read us (length params.distinguished_name == 0) params.subject_alt_names held one.1))
    (purposes_asked ns us params.extended_key_usages two.1))
    (constraints_asked ns us ps params.is_ca short three.1)
