-- The field of the extensions, for the issue table.
use Rattle.std.specs.Prelude.{◌==◌, ◌≡◌, true, length}
use Rattle.std.specs.List.{list_all}
use Rattle.rcgen_sign.specs.Keys.{Key}
use Rattle.rcgen_certificate.specs.Issue.{FitIn64Bits, HasNoCause}
use Rattle.rcgen_certificate.specs.IssuedExtensions.{extension_rows, subject_id}
use Rattle.rcgen_certificate.specs.Issuers.{IssuerView}
use Rattle.rcgen_certificate.specs.ParamsView.{ParamsView}
use Rattle.rcgen_certificate.specs.SubjectAltNames.{is_ascii_name}
use Rattle.rcgen_certificate.proofs.KindTrees.{authority_key_there, basic_constraints_there, crl_distribution_points_there, ext_key_usage_there}
use Rattle.rcgen_certificate.proofs.KindTrees.{key_usage_there, name_constraints_there, subject_alt_name_there, subject_key_there}
use Rattle.rcgen_certificate.proofs.RowTrees.{HasField, HasRows, customs_there, field_there, rows_then}

rows_there : (p : ParamsView) (subject : Key) (issuer : IssuerView) → HasNoCause p issuer.name → list_all is_ascii_name p.subject_alt_names ≡ true
    → FitIn64Bits p subject issuer → HasRows (extension_rows p subject issuer)
rows_there p subject issuer none ascii short =
    let authority_key = authority_key_there p.use_authority_key_identifier_extension issuer.key_identifier short.authority_key_id in
    let alternative_names = subject_alt_name_there (length p.distinguished_name == 0) p.subject_alt_names none.name_types ascii short.other_names
    short.alternative_names in
    let key_usage = key_usage_there p.key_usages in
    let purposes = ext_key_usage_there p.extended_key_usages none.purposes short.purposes in
    let subtrees = name_constraints_there p.name_constraints none.subtree_types none.subtree_texts short.directory_names short.subtrees in
    let points = crl_distribution_points_there p.crl_distribution_points none.uris short.points in
    let subject_key = subject_key_there p.is_ca (subject_id p subject) short.subject_key in
    let constraints = basic_constraints_there p.is_ca in
    let given = customs_there p.custom_extensions none.given in
    let front = rows_then (rows_then (rows_then (rows_then authority_key alternative_names) key_usage) purposes) subtrees in
    rows_then (rows_then (rows_then (rows_then front points) subject_key) constraints) given

pub extensions_there : (p : ParamsView) (subject : Key) (issuer : IssuerView) → HasNoCause p issuer.name
    → list_all is_ascii_name p.subject_alt_names ≡ true → FitIn64Bits p subject issuer → HasField (extension_rows p subject issuer)
extensions_there p subject issuer none ascii short = field_there (extension_rows p subject issuer) (rows_there p subject issuer none ascii short)
