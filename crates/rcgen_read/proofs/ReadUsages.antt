-- Usages, purposes and basic constraints in their forms, read again.
use Rattle.std.specs.Prelude.{◌≡◌, ℕ, ◌+◌, Bool, true, false, ◌==◌, nat_lt, List, [], ◌∷◌, length, Option, Some, None, Ok, Result, ok_or}
use Rattle.std.specs.Prelude.{refl}
use Rattle.std.proofs.Common.{ap, arith, sym, ◌∙◌}
use Rattle.std.proofs.lemmas.Bool.{eqb-true, le-ltb, lt-ltb, ltb-true}
use Rattle.std.proofs.lemmas.List.{nil_from_length}
use Rattle.asn1_core.specs.Bits.{Bits, has_bit}
use Rattle.asn1_core.specs.Twos.{number, unsigned}
use Rattle.der_tree.specs.Codec.{Codec}
use Rattle.der_tree.specs.Form.{IsDerOf}
use Rattle.der_tree.specs.Grammar.{sequence_of}
use Rattle.der_tree.specs.PrimitiveTypes.{bit_string, object_identifier}
use Rattle.pkix_cert.specs.Constraints.{basic_constraints}
use Rattle.pkix_cert.specs.declared.constraint.BasicConstraints.{BasicConstraints as Constraints}
use Rattle.rcgen_text.specs.Causes.{Cause, unsupported_extension}
use Rattle.rcgen_certificate.specs.KeyUsages.{AreBitsOf, bit_of, is_listed, named_bits}
use Rattle.rcgen_text.specs.declared.basic_constraints.BasicConstraints.TheVariants.{Constrained}
use Rattle.rcgen_text.specs.declared.basic_constraints.IsCa.TheVariants.{Ca}
use Rattle.rcgen_text.specs.declared.key_usage.KeyUsagePurpose.{KeyUsagePurpose}
use Rattle.rcgen_read.specs.ExtensionReading.{all_usages, is_ca_of, is_octet, purposes_listed, read_constraints, read_purposes, read_usages, usages_of_bits}
use Rattle.rcgen_read.specs.Reading.{and_then, read_exactly}
use Rattle.rcgen_read.specs.RequestLaws.{usages_in_order}
use Rattle.rcgen_read.proofs.Kept.{filter_same}
use Rattle.der_tree.proofs.FormLaws.{value_again}

-- a form is read as its value
pub form_read : {A : Type 0} (c : Codec A) (v : A) (b : List ℕ) (why : Cause) → IsDerOf c v b → read_exactly c why b ≡ Ok v
form_read {A} c v b why f = ap (λ (o : Option A). ok_or o why) (value_again c b v f)

-- what the bits of purposes are, as rcgen_issue has it
abbrev pub BitsAreSet : Type 0
BitsAreSet = (us : List KeyUsagePurpose) → (length us == 0) ≡ false → AreBitsOf us (named_bits us)

-- the bits of usages are those usages in their order
pub bits_read : BitsAreSet → (us : List KeyUsagePurpose) → (length us == 0) ≡ false → usages_of_bits (named_bits us) ≡ usages_in_order us
bits_read set us some =
    filter_same (λ u. has_bit (named_bits us) (bit_of u)) (λ u. is_listed us (bit_of u)) all_usages (λ u. (set us some).set (bit_of u))

pub usages_read : BitsAreSet → (us : List KeyUsagePurpose) → (length us == 0) ≡ false → (b : List ℕ) → IsDerOf bit_string (named_bits us) b
    → read_usages b ≡ Ok (usages_in_order us)
unfolding read_usages
usages_read set us some b f =
    ap (λ (r : Result Bits Cause). and_then r (λ x. Ok (usages_of_bits x))) (form_read bit_string (named_bits us) b unsupported_extension f)
    ∙ ap (λ (vs : List KeyUsagePurpose). let r : Result (List KeyUsagePurpose) Cause = Ok vs in r)
    (bits_read set us some)

pub no_usage : (us : List KeyUsagePurpose) → (length us == 0) ≡ true → [] ≡ usages_in_order us
no_usage us e = ap usages_in_order (sym (nil_from_length us (eqb-true (length us) 0 e)))

-- ---- purposes

pub purposes_read : (ids : List (List ℕ)) (b : List ℕ) → IsDerOf (sequence_of object_identifier 0 None refl) ids b
    → read_purposes b ≡ Ok (purposes_listed ids)
unfolding read_purposes
purposes_read ids b f =
    ap (λ (r : Result (List (List ℕ)) Cause). and_then r (λ x. Ok (purposes_listed x)))
    (form_read (sequence_of object_identifier 0 None refl) ids b unsupported_extension f)

-- ---- basic constraints

abbrev octets_of : ℕ → List ℕ
octets_of n = unsigned (n ∷ [])

nothing_more : (n : ℕ) → 0 + n ≡ n
nothing_more n = omega arith

octet_back : (n : ℕ) (zero small : Bool) → (n == 0) ≡ zero → nat_lt n 128 ≡ small → nat_lt n 256 ≡ true
    → (is_octet (octets_of n) ≡ true) × (number (octets_of n) ≡ n)
octet_back n true small e l h = let z : n ≡ 0 = eqb-true n 0 e in (rw z refl, rw z refl)
octet_back n false true e l h =
    let under = ltb-true n 128 l in
    (rw (e, l, nothing_more n, le-ltb 127 n (omega arith), lt-ltb n 256 (omega arith)) refl, rw (e, l, nothing_more n) refl)
octet_back n false false e l h = (rw (e, l, nothing_more n, h) refl, rw (e, l, nothing_more n) refl)

pub length_read : (n : ℕ) → nat_lt n 256 ≡ true
    → is_ca_of (record { ca = true; path_len_constraint = Some (unsigned (n ∷ [])) }) ≡ Ok (Ca (Constrained n))
length_read n h =
    let k = octet_back n (n == 0) (nat_lt n 128) refl refl h in
    rw (k.0, k.1) refl

pub constraints_read : (c : Constraints) (b : List ℕ) → IsDerOf basic_constraints c b → read_constraints b ≡ is_ca_of c
unfolding read_constraints
constraints_read c b f =
    ap (λ (r : Result Constraints Cause). and_then r is_ca_of) (form_read basic_constraints c b unsupported_extension f)
