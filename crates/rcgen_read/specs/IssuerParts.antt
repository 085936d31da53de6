-- How an issuer is read from the parts of its certificate in the input (RFC 5280, 4.1.2.6, 4.2.1.2 and 4.2.1.3).
use Rattle.std.specs.Prelude.{ℕ, List, [], ◌∷◌, Some, Result, Ok, Err, filter, filter_map, map, nat_eq}
use Rattle.std.specs.Cmp.Lexicographic.{pointwise}
use Rattle.der_tree.specs.Form.{value_of}
use Rattle.der_tree.specs.PrimitiveTypes.{bit_string, octet_string}
use Rattle.pkix_cert.specs.ExtensionIds.{ce_key_usage, ce_subject_key_identifier, id_ce_der}
use Rattle.pkix_cert.specs.Views.{CertificateParts, ExtensionParts}
use Rattle.pkix_name.specs.Names.{name}
use Rattle.rcgen_text.specs.Causes.{Cause, not_certificate}
use Rattle.rcgen_text.specs.Names.{Entry}
use Rattle.rcgen_text.specs.declared.key_usage.KeyUsagePurpose.{KeyUsagePurpose}
use Rattle.rcgen_read.specs.ExtensionReading.{usages_of_bits}
use Rattle.rcgen_read.specs.IssuerReading.{CertifiedIssuer, RestoredIssuer, method_by}
use Rattle.rcgen_read.specs.NameReading.{read_name}
use Rattle.rcgen_read.specs.Reading.{and_then, read_exactly}

-- the contents of the extensions whose identifier has these octets, in order
abbrev pub contents_by : List ℕ → List ExtensionParts → List (List ℕ)
contents_by id ps = map (λ p. p.contents) (filter (λ p. pointwise nat_eq p.id id) ps)

-- of the contents of the extensions on key usage
abbrev pub usages_in : List (List ℕ) → Result (List KeyUsagePurpose) Cause
usages_in [] = Ok []
usages_in (contents ∷ []) = and_then (read_exactly bit_string not_certificate contents) (λ b. Ok (usages_of_bits b))
usages_in (contents ∷ another ∷ more) = Err not_certificate

-- those of the contents that are exactly one OCTET STRING
abbrev pub key_ids_in : List (List ℕ) → List (List ℕ)
key_ids_in contents = filter_map (value_of octet_string) contents

-- the name whose element these octets are
abbrev pub name_in : List ℕ → Result (List Entry) Cause
name_in octets = and_then (read_exactly name not_certificate octets) read_name

abbrev pub issuer_in : CertificateParts → Result RestoredIssuer Cause
issuer_in p =
    and_then (usages_in (contents_by (id_ce_der ce_key_usage) p.extensions)) (λ usages.
    and_then (name_in p.subject) (λ name.
    Ok (record { name = name; method = method_by (key_ids_in (contents_by (id_ce_der ce_subject_key_identifier) p.extensions)); usages = usages })))

abbrev pub certified_in : CertificateParts → Result CertifiedIssuer Cause
certified_in p =
    and_then (usages_in (contents_by (id_ce_der ce_key_usage) p.extensions)) (λ usages.
    and_then (read_exactly name not_certificate p.subject) (λ subject.
    Ok (record {
      field = Some subject;
      method = method_by (key_ids_in (contents_by (id_ce_der ce_subject_key_identifier) p.extensions));
      usages = usages;
    })))
