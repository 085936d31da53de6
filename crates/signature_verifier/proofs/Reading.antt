-- How public keys are read, in terms of elements.
use Rattle.std.specs.Prelude.{◌≡◌, ℕ, zero, suc, ◌-◌, ◌<◌, ◌≤◌, ◌==◌, Bool, true, false, ◌||◌, not, cond}
use Rattle.std.specs.Prelude.{nat_lt, List, [], ◌∷◌, length, take, drop, Option, Some, None, is_some, refl}
use Rattle.std.proofs.Common.{sym, ap, ◌∙◌, arith, eq-eqb, get_or}
use Rattle.std.proofs.lemmas.Grind.{common_steps}
use Rattle.std.proofs.lemmas.Bool.{false≢true, le-ltb, lt-ltb, ltb-false, ltb-true, ne_eqb}
use Rattle.asn1_core.specs.Binds.{◌>>=◌}
use Rattle.asn1_core.specs.Bits.{Bits, are_bits, bit_string_contents, bits, bits_of}
use Rattle.asn1_core.specs.Twos.{integer_contents, is_shortest, only_repeats_sign}
use Rattle.der_tree.specs.Element.{Element, element_octets, one_element}
use Rattle.der_tree.specs.Primitive.{contents_at}
use Rattle.der_tree.specs.PrimitiveTypes.{bit_string, integer}
use Rattle.der_tree.specs.Tags.{universal}
use Rattle.der_tree.specs.laws.Element.{one_element_again}
use Rattle.rcgen_sign.specs.KeyInfos.{key_algorithm, key_info_fields}
use Rattle.rcgen_sign.specs.declared.key_info.KeyAlgorithm.{KeyAlgorithm}
use Rattle.rcgen_sign.specs.declared.key_info.KeyInfo.{KeyInfo}
use Rattle.rcgen_sign.proofs.AlgorithmLemmas.{no_unused}
use Rattle.signature_verifier.specs.declared.key_kind.KeyKind.{KeyKind}
use Rattle.signature_verifier.specs.Keys.{Key, key}
use Rattle.signature_verifier.specs.Pairs.{pair_in}
use Rattle.signature_verifier.specs.PublicKeys.{key_in, key_of, octets_in, positive, positive_in, rsa_key, whole_octets}
use Rattle.signature_verifier.specs.Schemes.{kind_named, kind_of}
use Rattle.signature_verifier.proofs.Fields.{pair_encodable, pair_shows, shown_by}

abbrev no : (B : Type 0) → Option B
no B = None

nothing : {A : Type 0} (B : Type 0) (o : Option A) → (o >>= λ x. no B) ≡ no B
nothing B None = refl
nothing B (Some x) = refl

-- ---- SubjectPublicKeyInfo

abbrev info : KeyAlgorithm → Bits → KeyInfo
info a b = record { algorithm = a; subject_public_key = b }

-- the parts of a key, each of its element
abbrev parts : Element × Element → Option Key
parts p = kind_named (element_octets p.0) >>= λ kind. octets_in p.1 >>= λ octets. Some (key kind octets)

of_fields : (o : Option KeyAlgorithm) (b : Option Bits)
    → ((o >>= λ x. b >>= λ y. Some (info x y)) >>= key_of) ≡ ((o >>= kind_of) >>= λ kind. (b >>= whole_octets) >>= λ octets. Some (key kind octets))
unfolding key_of
of_fields None b = refl
of_fields (Some x) None = sym (nothing Key (kind_of x))
of_fields (Some x) (Some y) = refl

-- the octets of an element that has some are that element
kind_in : (s : Element) → one_element (element_octets s) ≡ Some s → kind_named (element_octets s) ≡ (key_algorithm.read_of s >>= kind_of)
unfolding kind_named
kind_in s e = ap (λ (o : Option Element). (o >>= key_algorithm.read_of) >>= kind_of) e

of_pair : (p : Element × Element) → one_element (element_octets p.0) ≡ Some p.0
    → (shown_by key_algorithm.read_of bit_string.read_of info p >>= key_of) ≡ parts p
unfolding octets_in
of_pair p e =
    of_fields (key_algorithm.read_of p.0) (bit_string.read_of p.1)
    ∙ ap (λ (k : Option KeyKind). k >>= λ kind. octets_in p.1 >>= λ octets. Some (key kind octets)) (sym (kind_in p.0 e))

key_of_pair : (b : List ℕ) (r : Option (Element × Element)) → pair_in b ≡ r
    → ((r >>= shown_by key_algorithm.read_of bit_string.read_of info) >>= key_of) ≡ (r >>= parts)
key_of_pair b None e = refl
key_of_pair b (Some p) e = of_pair p (one_element_again p.0 (pair_encodable b p e))

pub key_read : (b : List ℕ) → key_in b ≡ (pair_in b >>= parts)
unfolding key_in key_info_fields
key_read b =
    ap (λ (o : Option KeyInfo). o >>= key_of) (pair_shows key_algorithm.read_of bit_string.read_of info b)
    ∙ key_of_pair b (pair_in b) refl

-- ---- BIT STRING

-- the octets after a first one that is zero
abbrev pub behind_zero : List ℕ → Option (List ℕ)
behind_zero [] = None
behind_zero (unused ∷ bytes) = cond (unused == 0) (Some bytes) None

some_unused : (u : ℕ) (bytes : List ℕ) (t : Bool) → (u == 0) ≡ false
    → (cond t (Some (bits u bytes)) None >>= whole_octets) ≡ cond (u == 0) (Some bytes) None
some_unused u bytes true e = refl
some_unused u bytes false e = rw e refl

bits_read : (b : List ℕ) → (bits_of b >>= whole_octets) ≡ behind_zero b
bits_read [] = refl
bits_read (zero ∷ bytes) = rw (no_unused bytes) refl
bits_read (suc n ∷ bytes) =
    some_unused (suc n) bytes (are_bits (bits (suc n) bytes)) (ne_eqb (suc n) 0 (λ z. omega (arith, z)))

of_contents : (o : Option (List ℕ)) → ((o >>= bit_string_contents.of) >>= whole_octets) ≡ (o >>= behind_zero)
unfolding bit_string_contents
of_contents None = refl
of_contents (Some b) = bits_read b

pub octets_read : (s : Element) → octets_in s ≡ (contents_at (universal 3) s >>= behind_zero)
unfolding octets_in
octets_read s = of_contents (contents_at (universal 3) s)

-- those octets, as a slice after the first one
behind_first : (a : ℕ) (rest : List ℕ) → take (length (a ∷ rest) - 1) (drop 1 (a ∷ rest)) ≡ rest
behind_first a rest = grind (arith, common_steps)

zero_first : (xs : List ℕ) → 1 ≤ length xs → get_or xs 0 0 ≡ 0 → behind_zero xs ≡ Some (take (length xs - 1) (drop 1 xs))
zero_first [] l z = absurd (omega arith)
zero_first (a ∷ rest) l z = rw (eq-eqb a 0 z) (ap Some (sym (behind_first a rest)))

pub octets_behind : (s : Element) (xs : List ℕ) → Some xs ≡ contents_at (universal 3) s → 1 ≤ length xs → get_or xs 0 0 ≡ 0
    → Some (take (length xs - 1) (drop 1 xs)) ≡ octets_in s
octets_behind s xs e l z =
    sym (octets_read s ∙ ap (λ (o : Option (List ℕ)). o >>= behind_zero) (sym e) ∙ zero_first xs l z)

-- ---- INTEGER

-- the digits of a positive number, by the first octet of its two's complement
abbrev pub digits_of : List ℕ → Option (List ℕ)
digits_of [] = None
digits_of (a ∷ rest) = cond (a == 0) (cond (length rest == 0) None (Some rest)) (cond (nat_lt a 128) (Some (a ∷ rest)) None)

sign_at : (a : ℕ) (o : Option (List ℕ)) (t : Bool) → nat_lt a 128 ≡ t → cond (nat_lt 127 a) (no (List ℕ)) o ≡ cond (nat_lt a 128) o (no (List ℕ))
sign_at a o true e =
    let small : a < 128 = ltb-true a 128 e in
    let f : nat_lt 127 a ≡ false = le-ltb 127 a (omega arith) in
    rw (e, f) refl
sign_at a o false e =
    let large : 128 ≤ a = ltb-false a 128 e in
    let f : nat_lt 127 a ≡ true = lt-ltb 127 a (omega arith) in
    rw (e, f) refl

-- an octet that a zero one doesn't only repeat the sign of
after_zero : (b : ℕ) (t : Bool) → nat_lt b 128 ≡ t → not (nat_lt b 128 || false) ≡ true → (b == 0) ≡ false
after_zero b true e h = let k : false ≡ true = rw e at h in absurd (false≢true k)
after_zero b false e h = let large : 128 ≤ b = ltb-false b 128 e in ne_eqb b 0 (λ z. omega (arith, z))

not_repeated : (b : ℕ) → not (only_repeats_sign 0 b) ≡ true → (b == 0) ≡ false
not_repeated b h = after_zero b (nat_lt b 128) refl h

pub number_read : (b : List ℕ) → is_shortest b ≡ true → positive b ≡ digits_of b
number_read [] h = absurd cc
number_read (zero ∷ []) h = refl
number_read (zero ∷ b ∷ rest) h =
    let e = not_repeated b h in
    let f : (length (b ∷ rest) == 0) ≡ false = ne_eqb (length (b ∷ rest)) 0 (λ z. omega (arith, z)) in
    rw (e, f) refl
number_read (suc a ∷ rest) h =
    let e : (suc a == 0) ≡ false = ne_eqb (suc a) 0 (λ z. omega (arith, z)) in
    rw e (sign_at (suc a) (Some (suc a ∷ rest)) (nat_lt (suc a) 128) refl)

if_shortest : (b : List ℕ) (t : Bool) → is_shortest b ≡ t → (cond t (Some b) None >>= positive) ≡ cond t (digits_of b) None
if_shortest b true e = number_read b e
if_shortest b false e = refl

of_number : (o : Option (List ℕ)) → ((o >>= integer_contents.of) >>= positive) ≡ (o >>= λ b. cond (is_shortest b) (digits_of b) None)
unfolding integer_contents
of_number None = refl
of_number (Some b) = if_shortest b (is_shortest b) refl

pub positive_read : (s : Element) → positive_in s ≡ (contents_at (universal 2) s >>= λ b. cond (is_shortest b) (digits_of b) None)
unfolding positive_in
positive_read s = of_number (contents_at (universal 2) s)

-- those digits, as a slice after a zero octet
shortest_is : (xs : List ℕ) (t : Bool) → is_shortest xs ≡ t → is_some (cond t (Some xs) None) ≡ true → is_shortest xs ≡ true
shortest_is xs true e h = e
shortest_is xs false e h = absurd (false≢true h)

pub are_shortest : (xs : List ℕ) → is_some (integer_contents.of xs) ≡ true → is_shortest xs ≡ true
unfolding integer_contents
are_shortest xs h = shortest_is xs (is_shortest xs) refl h

zero_digit : (xs : List ℕ) → 1 ≤ length xs → get_or xs 0 0 ≡ 0 → (length (take (length xs - 1) (drop 1 xs)) == 0) ≡ false
    → digits_of xs ≡ Some (take (length xs - 1) (drop 1 xs))
zero_digit [] l z k = absurd (omega arith)
zero_digit (a ∷ rest) l z k =
    let same = behind_first a rest in
    let f : (length rest == 0) ≡ false = ap (λ (x : List ℕ). length x == 0) (sym same) ∙ k in
    rw (eq-eqb a 0 z, f) (ap Some (sym same))

pub digits_behind : (s : Element) (xs : List ℕ) → Some xs ≡ contents_at (universal 2) s → is_shortest xs ≡ true → 1 ≤ length xs → get_or xs 0 0 ≡ 0
    → (length (take (length xs - 1) (drop 1 xs)) == 0) ≡ false → Some (take (length xs - 1) (drop 1 xs)) ≡ positive_in s
digits_behind s xs e h l z k =
    sym (positive_read s ∙ ap (λ (o : Option (List ℕ)). o >>= λ b. cond (is_shortest b) (digits_of b) None) (sym e)
    ∙ rw h (zero_digit xs l z k))

-- ---- RSAPublicKey

abbrev numbers : Option (List ℕ) → Option (List ℕ) → Option (List ℕ × List ℕ)
numbers o p = o >>= λ modulus. p >>= λ exponent. Some (modulus, exponent)

abbrev pair : List ℕ → List ℕ → List ℕ × List ℕ
pair a b = (a, b)

both_positive : (o p : Option (List ℕ))
    → ((o >>= λ a. p >>= λ b. Some (pair a b)) >>= λ k. numbers (positive k.0) (positive k.1)) ≡ numbers (o >>= positive) (p >>= positive)
both_positive None p = refl
both_positive (Some a) None = sym (nothing (List ℕ × List ℕ) (positive a))
both_positive (Some a) (Some b) = refl

key_of_numbers : (r : Option (Element × Element))
    → ((r >>= shown_by integer.read_of integer.read_of pair) >>= λ k. numbers (positive k.0) (positive k.1))
    ≡ (r >>= λ p. numbers (positive_in p.0) (positive_in p.1))
unfolding positive_in
key_of_numbers None = refl
key_of_numbers (Some p) = both_positive (integer.read_of p.0) (integer.read_of p.1)

pub rsa_key_read : (b : List ℕ) → rsa_key b ≡ (pair_in b >>= λ p. numbers (positive_in p.0) (positive_in p.1))
unfolding rsa_key
rsa_key_read b =
    ap (λ (o : Option (List ℕ × List ℕ)). o >>= λ k. numbers (positive k.0) (positive k.1))
    (pair_shows integer.read_of integer.read_of pair b)
    ∙ key_of_numbers (pair_in b)
