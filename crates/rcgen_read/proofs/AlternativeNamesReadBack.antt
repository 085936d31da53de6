-- Alternative names that are written are read again.
use Rattle.std.specs.Prelude.{◌≡◌, ℕ, true, List, [], ◌∷◌, length, map, None, Ok, ok_or, refl}
use Rattle.std.specs.List.{list_all}
use Rattle.std.specs.Str.{is_utf8}
use Rattle.std.proofs.Common.{ap, eqb-true, ◌∙◌}
use Rattle.rcgen_certificate.specs.SubjectAltNames.{general_name_value}
use Rattle.asn1_core.specs.Binds.{and_true}
use Rattle.der_tree.specs.Form.{IsDerOf}
use Rattle.der_tree.specs.Grammar.{sequence_of}
use Rattle.pkix_name.specs.GeneralNames.{general_name}
use Rattle.rcgen_text.specs.AlternativeNames.{AlternativeName, rfc822_name, dns_name, uri, ip_address, other_name}
use Rattle.rcgen_text.specs.Causes.{unsupported_extension}
use Rattle.rcgen_text.specs.DnValues.{utf8_string}
use Rattle.rcgen_text.specs.declared.ip.IpAddr.TheVariants as ip
use Rattle.rcgen_read.specs.AlternativeNameReading.{read_general_name, read_names}
use Rattle.rcgen_read.specs.NamesReadBack.{is_held_name, is_slice}
use Rattle.rcgen_read.specs.Reading.{read_each, read_exactly}
use Rattle.rcgen_read.proofs.EachRead.{and_then_is, each_read}
use Rattle.rcgen_read.proofs.TextElements.{text_again}
use Rattle.der_tree.proofs.FormLaws.{value_again}

name_again : (n : AlternativeName) → is_held_name n ≡ true → read_general_name (general_name_value n) ≡ Ok n
name_again (rfc822_name text) h = refl
name_again (dns_name text) h = refl
name_again (uri text) h = refl
name_again (ip_address (ip.V4 octets)) h = rw h refl
name_again (ip_address (ip.V6 octets)) h = rw (eqb-true (length octets) 16 h) refl
name_again (other_name arcs text) h =
    let p = and_true (is_utf8 text) (is_slice text) h in
    rw ((text_again (utf8_string text) p.0 p.1).0, p.0) refl

same_names : (ns : List AlternativeName) → map (λ n. n) ns ≡ ns
same_names [] = refl
same_names (n ∷ ns) = ap (λ (x : List AlternativeName). n ∷ x) (same_names ns)

pub names_read : (ns : List AlternativeName) (contents : List ℕ) → list_all is_held_name ns ≡ true
    → IsDerOf (sequence_of general_name 0 None refl) (map general_name_value ns) contents → read_names contents ≡ Ok ns
names_read ns contents h form =
    and_then_is (read_exactly (sequence_of general_name 0 None refl) unsupported_extension contents) (read_each read_general_name [])
    (map general_name_value ns) (Ok ns)
    (ap (λ o. ok_or o unsupported_extension) (value_again (sequence_of general_name 0 None refl) contents (map general_name_value ns) form))
    (each_read read_general_name general_name_value is_held_name (λ n. n) name_again [] ns h ∙ ap (λ (x : List AlternativeName). Ok x) (same_names ns))
