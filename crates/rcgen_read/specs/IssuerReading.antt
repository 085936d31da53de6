-- How an issuer is read from its own certificate (RFC 5280, 4.1.2.6, 4.2.1.2 and 4.2.1.3).
use Rattle.std.specs.Prelude.{ℕ, List, [], ◌∷◌, Option, Some, Result, Ok, Err, filter, filter_map, nat_eq, ok_or}
use Rattle.std.specs.Cmp.Lexicographic.{pointwise}
use Rattle.der_tree.specs.PrimitiveTypes.{bit_string, octet_string}
use Rattle.pkix_cert.specs.Certificates.{certificate}
use Rattle.pkix_cert.specs.Held.{extensions_in}
use Rattle.pkix_cert.specs.declared.certificate.Certificate.{Certificate}
use Rattle.pkix_cert.specs.declared.extension.Extension.{Extension}
use Rattle.pkix_name.specs.declared.name.Name.{Name}
use Rattle.rcgen_text.specs.Causes.{Cause, not_certificate}
use Rattle.rcgen_text.specs.Names.{Entry}
use Rattle.rcgen_sign.specs.KeyIds.{Method, by_sha256, pre_specified}
use Rattle.pkix_cert.specs.ExtensionIds.{ce_key_usage, ce_subject_key_identifier, id_ce}
use Rattle.rcgen_certificate.specs.Issuers.{id_method_of, issuer_field_of, name_of, usages_of}
use Rattle.rcgen_certificate.specs.declared.issuer.Issuer.{Issuer}
use Rattle.rcgen_text.specs.declared.key_usage.KeyUsagePurpose.{KeyUsagePurpose}
use Rattle.rcgen_read.specs.ExtensionReading.{usages_of_bits}
use Rattle.rcgen_read.specs.NameReading.{read_name}
use Rattle.der_tree.specs.Form.{value_of}
use Rattle.rcgen_read.specs.Reading.{and_then, read_exactly}
use Rattle.rcgen_read.specs.ReceivedRequests.{front_value}

-- what a certificate says of its subject as an issuer
pub record RestoredIssuer : Type 0 where
  pub name : List Entry
  pub method : Method
  pub usages : List KeyUsagePurpose

-- those with the identifier, in order
abbrev pub with_id : List ℕ → List Extension → List Extension
with_id id es = filter (λ e. pointwise nat_eq e.extn_id id) es

-- The usages of the one extension on key usage: those whose bits are set, in the order of the bits. Without one there are none, and there
-- may not be two.
abbrev pub stated_usages : List Extension → Result (List KeyUsagePurpose) Cause
stated_usages [] = Ok []
stated_usages (e ∷ []) = and_then (read_exactly bit_string not_certificate e.extn_value) (λ b. Ok (usages_of_bits b))
stated_usages (e ∷ another ∷ more) = Err not_certificate

-- the method that gives the first of the identifiers, or that of SHA-256 where there is none
abbrev pub method_by : List (List ℕ) → Method
method_by [] = by_sha256
method_by (id ∷ more) = pre_specified id

-- the identifiers of the key: the contents that are exactly one OCTET STRING, in order
abbrev pub stated_key_ids : List Extension → List (List ℕ)
stated_key_ids es = filter_map (λ e. value_of octet_string e.extn_value) es

-- what the certificate says, or the first fault: of its key usage, then of its subject
abbrev pub restored : Certificate → Result RestoredIssuer Cause
restored c =
    let es : List Extension = extensions_in c.tbs_certificate.extensions in
    and_then (stated_usages (with_id (id_ce ce_key_usage) es)) (λ usages.
    and_then (read_name c.tbs_certificate.subject) (λ name.
    Ok (record { name = name; method = method_by (stated_key_ids (with_id (id_ce ce_subject_key_identifier) es)); usages = usages })))

-- the same, but for the name, which is the subject unchanged
pub record CertifiedIssuer : Type 0 where
  pub field : Option Name
  pub method : Method
  pub usages : List KeyUsagePurpose

abbrev pub certified : Certificate → Result CertifiedIssuer Cause
certified c =
    let es : List Extension = extensions_in c.tbs_certificate.extensions in
    and_then (stated_usages (with_id (id_ce ce_key_usage) es)) (λ usages.
    Ok (record {
      field = Some c.tbs_certificate.subject;
      method = method_by (stated_key_ids (with_id (id_ce ce_subject_key_identifier) es));
      usages = usages;
    }))

-- the certificate at the start of the bytes, whatever follows it
abbrev pub certificate_at : List ℕ → Option Certificate
certificate_at der = front_value certificate der

abbrev pub read_issuer : List ℕ → Result RestoredIssuer Cause
read_issuer der = and_then (ok_or (certificate_at der) not_certificate) restored

abbrev pub read_certified : List ℕ → Result CertifiedIssuer Cause
read_certified der = and_then (ok_or (certificate_at der) not_certificate) certified

-- ---- the same, as the code has it

abbrev pub restored_view : {S : Type 0} → Issuer S → RestoredIssuer
restored_view i = record { name = name_of i; method = id_method_of i; usages = usages_of i }

abbrev pub certified_view : {S : Type 0} → Issuer S → CertifiedIssuer
certified_view i = record { field = issuer_field_of i; method = id_method_of i; usages = usages_of i }
