-- Alternative names, counted and looked through.
use Rattle.std.proofs.Common.{◌≡◌, ap, refl, ℕ, true, ◌||◌, List, [], ◌∷◌, length, map, Ok, Err}
use Rattle.std.specs.Char.{is_ascii}
use Rattle.std.specs.List.{list_all, list_any}
use Rattle.std.specs.Str.{IsUtf8}
use Rattle.std.proofs.lemmas.Str.{IsUtf8-from_is_utf8}
use Rattle.std.proofs.lemmas.List.{length-map}
use Rattle.rcgen_read.proofs.Ia5Texts.{utf8_of_ascii}
use Rattle.rcgen_text.specs.AlternativeNames.{AlternativeName, alternative_name, dns_name}
use Rattle.rcgen_text.specs.declared.san.SanType.{SanType}
use Rattle.shelf_fault.specs.declared.fault.Fault.{Fault}
use Rattle.shelf_params.specs.CommonNames.{is_same_host}

-- octets in ASCII are a text
pub is_text : (octets : List ℕ) (fault : Fault) → list_all is_ascii octets ≡ true → ¬ (IsUtf8 octets) → Ok (dns_name octets) ≡ Err fault
is_text octets fault h n = absurd (n (IsUtf8-from_is_utf8 octets (utf8_of_ascii octets h)))

pub length_seen : (names : List SanType) → length (map alternative_name names) ≡ length names
length_seen names = length-map names alternative_name

pub host_seen : (host : AlternativeName) (names : List SanType)
    → list_any (is_same_host host) (map alternative_name names) ≡ list_any (λ n. is_same_host host (alternative_name n)) names
host_seen host [] = refl
host_seen host (n ∷ names) = ap (λ b. is_same_host host (alternative_name n) || b) (host_seen host names)
