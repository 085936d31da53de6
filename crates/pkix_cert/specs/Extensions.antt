-- Extensions (RFC 5280, 4.1.2.9).
use Rattle.std.specs.Prelude.{false, None, refl}
use Rattle.der_tree.specs.Codec.{Codec, Struct}
use Rattle.der_tree.specs.Grammar.{as_struct, as_type, beq, beq_exact, defaulted, required, sequence, sequence_of, ◌&◌, ◌⊗◌}
use Rattle.der_tree.specs.PrimitiveTypes.{boolean, object_identifier, octet_string}
use Rattle.der_tree.specs.Tags.{universal}
use Rattle.pkix_cert.specs.declared.extension.Extension.{Extension}
use Rattle.pkix_cert.specs.declared.extension.Extensions.{Extensions}

unfoldable pub extension_fields : Struct Extension
extension_fields = as_struct (
    required object_identifier
    & defaulted boolean beq beq_exact false
    & required octet_string
    ) refl
    (λ v. v.extn_id ⊗ v.critical ⊗ v.extn_value)
    (λ extn_id critical extn_value. record { extn_id = extn_id; critical = critical; extn_value = extn_value }) (λ v. refl) (λ f. refl)

abbrev pub extension : Codec Extension
extension = sequence (universal 16) extension_fields

abbrev pub extensions : Codec Extensions
extensions = as_type (sequence_of extension 1 None refl) (λ v. v.0) (λ l. record { 0 = l }) (λ v. refl) (λ l. refl)
