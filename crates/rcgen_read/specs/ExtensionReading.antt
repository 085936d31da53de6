-- What the extensions of a request ask for (RFC 5280, 4.2.1).
use Rattle.std.specs.Prelude.{ℕ, Bool, not, ◌&&◌, cond, nat_lt, List, [], ◌∷◌, ◌++◌, map, filter, fold, nat_eq, Option, Some, None, Result, Ok, Err, refl}
use Rattle.std.specs.Cmp.Lexicographic.{pointwise}
use Rattle.std.specs.List.{list_any}
use Rattle.asn1_core.specs.Bits.{Bits, has_bit}
use Rattle.asn1_core.specs.Twos.{is_negative, number}
use Rattle.der_tree.specs.Grammar.{sequence_of}
use Rattle.der_tree.specs.PrimitiveTypes.{bit_string, object_identifier}
use Rattle.pkix_cert.specs.Constraints.{basic_constraints}
use Rattle.pkix_cert.specs.declared.constraint.BasicConstraints.{BasicConstraints as Constraints}
use Rattle.pkix_cert.specs.declared.extension.Extension.{Extension}
use Rattle.rcgen_text.specs.AlternativeNames.{AlternativeName, alternative_name}
use Rattle.rcgen_text.specs.Causes.{Cause, not_certificate, unsupported_extension}
use Rattle.rcgen_certificate.specs.ExtendedKeyUsages.{Purpose, any_purpose, server_auth, client_auth, code_signing, email_protection, time_stamping, ocsp_signing}
use Rattle.rcgen_certificate.specs.ExtendedKeyUsages.{other, purpose_oid, purpose_of, same_purpose}
use Rattle.pkix_cert.specs.ExtensionIds.{ce_basic_constraints, ce_ext_key_usage, ce_key_usage, ce_subject_alt_name, id_ce}
use Rattle.rcgen_certificate.specs.KeyUsages.{bit_of}
use Rattle.rcgen_text.specs.declared.basic_constraints.BasicConstraints.TheVariants.{Unconstrained, Constrained}
use Rattle.rcgen_text.specs.declared.basic_constraints.IsCa.{IsCa}
use Rattle.rcgen_text.specs.declared.basic_constraints.IsCa.TheVariants.{NoCa, ExplicitNoCa, Ca}
use Rattle.rcgen_text.specs.declared.key_usage.KeyUsagePurpose.{KeyUsagePurpose}
use Rattle.rcgen_text.specs.declared.key_usage.KeyUsagePurpose.TheVariants as usage
use Rattle.rcgen_read.specs.AlternativeNameReading.{read_names}
use Rattle.rcgen_read.specs.Reading.{and_then, read_exactly, try_fold}
use Rattle.rcgen_read.specs.declared.extensions.Asked.{Asked as AskedParts}
use Rattle.rcgen_read.specs.declared.extensions.Kind.{Kind}
use Rattle.rcgen_read.specs.declared.extensions.Kind.TheVariants as kind
use Rattle.rcgen_read.specs.declared.extended_key_usage.NamedPurpose.{NamedPurpose}
use Rattle.rcgen_read.specs.declared.extended_key_usage.NamedPurpose.TheVariants as named

-- ---- key usage (RFC 5280, 4.2.1.3)

-- in the order of their bits
abbrev pub all_usages : List KeyUsagePurpose
all_usages =
    usage.DigitalSignature ∷ usage.ContentCommitment ∷ usage.KeyEncipherment ∷ usage.DataEncipherment ∷ usage.KeyAgreement ∷ usage.KeyCertSign
    ∷ usage.CrlSign ∷ usage.EncipherOnly ∷ usage.DecipherOnly ∷ []

-- those whose bits are set; a bit after the ninth has no meaning
abbrev pub usages_of_bits : Bits → List KeyUsagePurpose
usages_of_bits b = filter (λ u. has_bit b (bit_of u)) all_usages

unfoldable pub read_usages : List ℕ → Result (List KeyUsagePurpose) Cause
read_usages contents = and_then (read_exactly bit_string unsupported_extension contents) (λ b. Ok (usages_of_bits b))

-- ---- purposes (RFC 5280, 4.2.1.12)

-- those that have a name, in the order in which they are inserted
abbrev pub named_purposes : List Purpose
named_purposes = any_purpose ∷ server_auth ∷ client_auth ∷ code_signing ∷ email_protection ∷ time_stamping ∷ ocsp_signing ∷ []

abbrev pub has_name : List ℕ → Bool
has_name id = list_any (λ p. pointwise nat_eq (purpose_oid p) id) named_purposes

abbrev pub lists : List (List ℕ) → Purpose → Bool
lists ids p = list_any (pointwise nat_eq (purpose_oid p)) ids

-- of the listed identifiers: the purposes that have a name, then each other one by its arcs, as the list has them
abbrev pub purposes_listed : List (List ℕ) → List Purpose
purposes_listed ids = filter (lists ids) named_purposes ++ map other (filter (λ id. not (has_name id)) ids)

unfoldable pub read_purposes : List ℕ → Result (List Purpose) Cause
read_purposes contents =
    and_then (read_exactly (sequence_of object_identifier 0 None refl) unsupported_extension contents) (λ ids. Ok (purposes_listed ids))

abbrev pub holds : List Purpose → Purpose → Bool
holds ps p = list_any (λ q. same_purpose q p) ps

-- one that isn't there goes to the end
abbrev pub with_inserted : List Purpose → Purpose → List Purpose
with_inserted ps p = cond (holds ps p) ps (ps ++ p ∷ [])

-- one after the other
abbrev pub inserted : List Purpose → List Purpose → List Purpose
inserted ps more = fold with_inserted ps more

-- ---- basic constraints (RFC 5280, 4.2.1.9)

-- from 0 to 255
abbrev pub is_octet : List ℕ → Bool
is_octet n = not (is_negative n) && nat_lt (number n) 256

abbrev pub authority : Option (List ℕ) → Result IsCa Cause
authority None = Ok (Ca Unconstrained)
authority (Some n) = cond (is_octet n) (Ok (Ca (Constrained (number n)))) (Err not_certificate)

-- a length isn't looked at where the subject is no authority
abbrev pub is_ca_of : Constraints → Result IsCa Cause
is_ca_of c = cond c.ca (authority c.path_len_constraint) (Ok ExplicitNoCa)

unfoldable pub read_constraints : List ℕ → Result IsCa Cause
read_constraints contents = and_then (read_exactly basic_constraints unsupported_extension contents) is_ca_of

-- ---- all of them

-- what is asked for, as parameters have it
pub record Asked : Type 0 where
  pub names : List AlternativeName
  pub usages : List KeyUsagePurpose
  pub purposes : List Purpose
  pub is_ca : IsCa

abbrev pub nothing_asked : Asked
nothing_asked = record { names = []; usages = []; purposes = []; is_ca = NoCa }

abbrev pub kind_of : List ℕ → Kind
kind_of id =
    cond (pointwise nat_eq id (id_ce ce_key_usage)) kind.KeyUsage
    (cond (pointwise nat_eq id (id_ce ce_subject_alt_name)) kind.SubjectAltName
    (cond (pointwise nat_eq id (id_ce ce_ext_key_usage)) kind.ExtKeyUsage
    (cond (pointwise nat_eq id (id_ce ce_basic_constraints)) kind.BasicConstraints kind.Other)))

-- one more extension with these contents: usages and basic constraints take the place of those before, names and purposes are added
abbrev pub ask : Asked → Kind → List ℕ → Result Asked Cause
ask asked kind.KeyUsage contents = and_then (read_usages contents) (λ us. Ok (record asked { usages = us }))
ask asked kind.SubjectAltName contents = and_then (read_names contents) (λ ns. Ok (record asked { names = asked.names ++ ns }))
ask asked kind.ExtKeyUsage contents = and_then (read_purposes contents) (λ ps. Ok (record asked { purposes = inserted asked.purposes ps }))
ask asked kind.BasicConstraints contents = and_then (read_constraints contents) (λ c. Ok (record asked { is_ca = c }))
ask asked kind.Other contents = Err unsupported_extension

-- whether it is critical isn't looked at
unfoldable pub ask_for : Asked → Extension → Result Asked Cause
ask_for asked e = ask asked (kind_of e.extn_id) e.extn_value

-- in order, from nothing on
unfoldable pub read_extensions : List Extension → Result Asked Cause
read_extensions es = try_fold ask_for nothing_asked es

-- ---- the same, as the code has it

abbrev pub named_of : NamedPurpose → Purpose
named_of named.Any = any_purpose
named_of named.ServerAuth = server_auth
named_of named.ClientAuth = client_auth
named_of named.CodeSigning = code_signing
named_of named.EmailProtection = email_protection
named_of named.TimeStamping = time_stamping
named_of named.OcspSigning = ocsp_signing

abbrev pub asked_view : AskedParts → Asked
asked_view a = record {
  names = map alternative_name a.names.items;
  usages = a.usages.items;
  purposes = inserted [] (map purpose_of a.purposes.items);
  is_ca = a.is_ca;
}
