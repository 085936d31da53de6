-- The texts of one line have no line break, and those of algorithms no comma.
use Rattle.std.proofs.Common.{◌≡◌, ℕ, ◌+◌, ◌/◌, ◌%◌, ◌<◌, ◌==◌, Bool, true, false, not, cond, List, [], ◌∷◌, ◌++◌, codes, decimal, length, reverse, nat_eq, nat_le, nat_lt, find, option_map, Option, Some, None, refl, ap, sym, ◌∙◌, arith}
use Rattle.std.specs.Char.{encode_utf8, is_ascii}
use Rattle.std.specs.Cmp.Lexicographic.{pointwise}
use Rattle.std.specs.Int.Digits.{number_from_digits}
use Rattle.std.specs.List.{list_all}
use Rattle.std.specs.Str.{chars}
use Rattle.std.proofs.lemmas.Bool.{both_ways, cond_both, eqb-true, false_from_ne_true, ne_eqb}
use Rattle.asn1_core.specs.Binds.{and_true, some_is}
use Rattle.asn1_core.specs.Bits.{Bits}
use Rattle.asn1_core.specs.StringTypes.{pairs, quads}
use Rattle.asn1_core.specs.Twos.{is_negative}
use Rattle.asn1_core.specs.Unsigned.{number_64}
use Rattle.der_tree.specs.CharacterStrings.{ia5_string}
use Rattle.der_tree.specs.Form.{value_of}
use Rattle.der_tree.specs.PrimitiveTypes.{object_identifier}
use Rattle.hex.specs.Hex.{encode_lower, lower_digits}
use Rattle.pkix_alg.specs.Algorithms.{rsa_public_key}
use Rattle.pkix_alg.specs.declared.algorithms.RsaPublicKey.{RsaPublicKey}
use Rattle.pkix_cert.specs.Versions.{raw_value}
use Rattle.pkix_cert.specs.declared.algorithm.AlgorithmIdentifier.{AlgorithmIdentifier}
use Rattle.pkix_cert.specs.declared.algorithm.SubjectPublicKeyInfo.{SubjectPublicKeyInfo}
use Rattle.pkix_cert.specs.declared.certificate.Version.{Version}
use Rattle.pkix_name.specs.DirectoryStrings.{directory_string}
use Rattle.pkix_name.specs.declared.directory_string.DirectoryString.{DirectoryString}
use Rattle.pkix_name.specs.declared.directory_string.DirectoryString.TheVariants.{Teletex, Printable, Universal, Utf8, Bmp}
use Rattle.pkix_name.specs.declared.name.AttributeTypeAndValue.{AttributeTypeAndValue}
use Rattle.pkix_name.specs.declared.name.Name.{Name}
use Rattle.pkix_name.specs.declared.name.Name.TheVariants.{RdnSequence}
use Rattle.pkix_name.specs.declared.name.RelativeDistinguishedName.{RelativeDistinguishedName}
use Rattle.shelf_explain.specs.BitNames.{bits_text, unused_text}
use Rattle.shelf_explain.specs.Blocks.{version_text}
use Rattle.shelf_explain.specs.Characters.{hex_pair, hex_pairs, is_special, shown, unicode}
use Rattle.shelf_explain.specs.Keys.{algorithm_text, key_text, parameter_text, parameters_or_none, parameters_text, size_text, unless_null}
use Rattle.shelf_explain.specs.Known.{attribute_names, identifier_text, known_names, name_in, named}
use Rattle.shelf_explain.specs.Lines.{dotted, hex_text, labelled}
use Rattle.shelf_explain.specs.Names.{attribute_named, attribute_text, attribute_value_text, directory_string_text, hex_value, ia5_or_hex, ia5_text, name_text, relative_name_text, string_text, teletex_text}
use Rattle.shelf_explain.specs.Numbers.{counted, hex_number, in_decimal, in_parentheses, integer_text, serial_text, short_decimal}
use Rattle.shelf_explain.specs.RsaKeys.{exponent_in, exponent_of, exponent_text, is_rsa, rsa_length}
use Rattle.shelf_explain.specs.Values.{is_marked, marked, value_from, value_text}
use Rattle.shown_text.specs.Hidden.{is_hidden, is_right_to_left, is_shown}
use Rattle.explained_whole.proofs.Texts.{Ends, all_append, all_cond, all_flat, all_joined, decimal_passes, hex_passes, one_more, passes_digits}

abbrev pub no_break : ℕ → Bool
no_break c = not (c == 10)

abbrev pub no_comma : ℕ → Bool
no_comma c = not (c == 44)

-- ---- identifiers and algorithms

abbrev row_name : List ℕ × List ℕ → List ℕ
row_name row = row.1

abbrev all_names : (ℕ → Bool) → List (List ℕ × List ℕ) → Bool
all_names p rows = list_all (λ (row : List ℕ × List ℕ). list_all p row.1) rows

-- the test lets all pass that the text of an algorithm has
pub record IsWide (p : ℕ → Bool) : Type 0 where
  pub digits : passes_digits p ≡ true
  pub hex : list_all p lower_digits ≡ true
  pub nul : p 0 ≡ true
  pub point : p 46 ≡ true
  pub space : p 32 ≡ true
  pub sharp : p 35 ≡ true
  pub known : list_all (λ (row : List ℕ × List ℕ). list_all p row.1) known_names ≡ true

pub break_wide : IsWide no_break
unfolding known_names
break_wide = record { digits = refl; hex = refl; nul = refl; point = refl; space = refl; sharp = refl; known = refl }

pub comma_wide : IsWide no_comma
unfolding known_names
comma_wide = record { digits = refl; hex = refl; nul = refl; point = refl; space = refl; sharp = refl; known = refl }

found_at : (q test : List ℕ × List ℕ → Bool) (row : List ℕ × List ℕ) (more : Option (List ℕ × List ℕ)) (one : List ℕ × List ℕ) (b : Bool) → test row ≡ b → q row ≡ true
    → (more ≡ Some one → (q one ≡ true) × (test one ≡ true)) → cond b (Some row) more ≡ Some one → (q one ≡ true) × (test one ≡ true)
found_at q test row more one true t h k e =
    let same = some_is row one e in
    (ap q (sym same) ∙ h, ap test (sym same) ∙ t)
found_at q test row more one false t h k e = k e

-- what is so of each row, and the test, hold of the row that is found
found : (q test : List ℕ × List ℕ → Bool) (rows : List (List ℕ × List ℕ)) → list_all q rows ≡ true → (one : List ℕ × List ℕ) → find test rows ≡ Some one
    → (q one ≡ true) × (test one ≡ true)
found q test [] h one e = absurd cc
found q test (row ∷ rows) h one e =
    let s = and_true (q row) (list_all q rows) h in
    found_at q test row (find test rows) one (test row) refl s.0 (λ (f : find test rows ≡ Some one). found q test rows s.1 one f) e

some_row : (o : Option (List ℕ × List ℕ)) (name : List ℕ) → option_map row_name o ≡ Some name → (row : List ℕ × List ℕ) × (o ≡ Some row) × (row.1 ≡ name)
some_row None name e = absurd cc
some_row (Some row) name e = (row, refl, some_is row.1 name e)

-- the row of a name that a table has
pub row_of : (q : List ℕ × List ℕ → Bool) (table : List (List ℕ × List ℕ)) → list_all q table ≡ true → (arcs name : List ℕ) → name_in table arcs ≡ Some name
    → (row : List ℕ × List ℕ) × (q row ≡ true) × (pointwise nat_eq row.0 arcs ≡ true) × (row.1 ≡ name)
unfolding name_in
row_of q table h arcs name e =
    let r = some_row (find (λ (row : List ℕ × List ℕ). pointwise nat_eq row.0 arcs) table) name e in
    let s = found q (λ (row : List ℕ × List ℕ). pointwise nat_eq row.0 arcs) table h r.0 r.1 in
    (r.0, s.0, s.1, r.2)

-- the name that a table has passes
pub name_passes : (p : ℕ → Bool) (table : List (List ℕ × List ℕ)) → list_all (λ (row : List ℕ × List ℕ). list_all p row.1) table ≡ true
    → (arcs name : List ℕ) → name_in table arcs ≡ Some name → list_all p name ≡ true
name_passes p table h arcs name e =
    let r = row_of (λ (row : List ℕ × List ℕ). list_all p row.1) table h arcs name e in
    ap (list_all p) (sym r.3) ∙ r.1

pub dotted_passes : (p : ℕ → Bool) → passes_digits p ≡ true → p 46 ≡ true → (arcs : List ℕ) → list_all p (dotted arcs) ≡ true
unfolding dotted
dotted_passes p h k arcs = all_joined p decimal (codes ".") (decimal_passes p h) (one_more p 46 [] k refl) arcs

named_passes : (p : ℕ → Bool) → passes_digits p ≡ true → p 46 ≡ true → (arcs : List ℕ) (o : Option (List ℕ))
    → ((name : List ℕ) → o ≡ Some name → list_all p name ≡ true) → list_all p (named o arcs) ≡ true
unfolding named
named_passes p h k arcs (Some name) f = f name refl
named_passes p h k arcs None f = dotted_passes p h k arcs

-- the name of a table, or else the arcs
pub either_passes : (p : ℕ → Bool) → passes_digits p ≡ true → p 46 ≡ true → (table : List (List ℕ × List ℕ))
    → list_all (λ (row : List ℕ × List ℕ). list_all p row.1) table ≡ true → (arcs : List ℕ) → list_all p (named (name_in table arcs) arcs) ≡ true
either_passes p h k table t arcs = named_passes p h k arcs (name_in table arcs) (λ (name : List ℕ). name_passes p table t arcs name)

pub identifier_passes : (p : ℕ → Bool) → IsWide p → (arcs : List ℕ) → list_all p (identifier_text arcs) ≡ true
unfolding identifier_text
identifier_passes p w arcs = either_passes p w.digits w.point known_names w.known arcs

pub hex_value_passes : (p : ℕ → Bool) → p 35 ≡ true → p 0 ≡ true → list_all p lower_digits ≡ true → (octets : List ℕ) → list_all p (hex_value octets) ≡ true
unfolding hex_value hex_text
hex_value_passes p s z h octets = one_more p 35 (encode_lower octets) s (hex_passes p z h octets)

parameter_passes : (p : ℕ → Bool) → IsWide p → (o : Option (List ℕ)) (octets : List ℕ) → list_all p (parameter_text o octets) ≡ true
unfolding parameter_text
parameter_passes p w (Some arcs) octets = identifier_passes p w arcs
parameter_passes p w None octets = hex_value_passes p w.sharp w.nul w.hex octets

parameters_pass : (p : ℕ → Bool) → IsWide p → (octets : List ℕ) → list_all p (parameters_text octets) ≡ true
unfolding parameters_text
parameters_pass p w octets =
    one_more p 32 (parameter_text (value_of object_identifier octets) octets) w.space (parameter_passes p w (value_of object_identifier octets) octets)

some_parameters_pass : (p : ℕ → Bool) → IsWide p → (o : Option (List ℕ)) → list_all p (parameters_or_none o) ≡ true
unfolding parameters_or_none unless_null
some_parameters_pass p w None = refl
some_parameters_pass p w (Some octets) = all_cond p (pointwise nat_eq octets (5 ∷ 0 ∷ [])) [] (parameters_text octets) refl (parameters_pass p w octets)

pub algorithm_passes : (p : ℕ → Bool) → IsWide p → (a : AlgorithmIdentifier) → list_all p (algorithm_text a) ≡ true
unfolding algorithm_text
algorithm_passes p w a =
    all_append p (identifier_text a.algorithm) (parameters_or_none a.parameters) (identifier_passes p w a.algorithm) (some_parameters_pass p w a.parameters)

-- ---- numbers, bits

abbrev pub unbroken : List ℕ → Type 0
unbroken text = list_all no_break text ≡ true

pub decimal_unbroken : (n : ℕ) → unbroken (decimal n)
decimal_unbroken n = decimal_passes no_break refl n

pub hex_unbroken : (octets : List ℕ) → unbroken (hex_text octets)
unfolding hex_text
hex_unbroken octets = hex_passes no_break refl refl octets

pub hex_value_unbroken : (octets : List ℕ) → unbroken (hex_value octets)
hex_value_unbroken octets = hex_value_passes no_break refl refl refl octets

pub labelled_unbroken : (label text : List ℕ) → unbroken label → unbroken text → unbroken (labelled label text)
unfolding labelled
labelled_unbroken label text h k = all_append no_break label text h k

hex_number_unbroken : (octets : List ℕ) → unbroken (hex_number octets)
unfolding hex_number
hex_number_unbroken octets = all_append no_break (codes "0x") (hex_text octets) refl (hex_unbroken octets)

pub short_unbroken : (octets : List ℕ) → unbroken (short_decimal octets)
unfolding short_decimal
short_unbroken octets =
    all_cond no_break (nat_le (length octets) 26) (decimal (number_from_digits 256 octets)) (codes "long") (decimal_unbroken (number_from_digits 256 octets)) refl

in_decimal_unbroken : (octets : List ℕ) → unbroken (in_decimal octets)
unfolding in_decimal in_parentheses
in_decimal_unbroken octets =
    all_cond no_break (is_negative octets) [] (labelled (codes " (") (short_decimal octets) ++ codes ")") refl
    (all_append no_break (labelled (codes " (") (short_decimal octets)) (codes ")") (labelled_unbroken (codes " (") (short_decimal octets) refl (short_unbroken octets)) refl)

pub serial_unbroken : (octets : List ℕ) → unbroken (serial_text octets)
unfolding serial_text
serial_unbroken octets = all_append no_break (hex_number octets) (in_decimal octets) (hex_number_unbroken octets) (in_decimal_unbroken octets)

counted_unbroken : (o : Option ℕ) (octets : List ℕ) → unbroken (counted o octets)
unfolding counted
counted_unbroken (Some n) octets = decimal_unbroken n
counted_unbroken None octets = hex_number_unbroken octets

pub integer_unbroken : (octets : List ℕ) → unbroken (integer_text octets)
unfolding integer_text
integer_unbroken octets = counted_unbroken (cond (is_negative octets) None (number_64 octets)) octets

unused_unbroken : (unused : ℕ) → unbroken (unused_text unused)
unfolding unused_text
unused_unbroken unused =
    all_cond no_break (unused == 0) [] (labelled (codes ", unused bits ") (decimal unused)) refl
    (labelled_unbroken (codes ", unused bits ") (decimal unused) refl (decimal_unbroken unused))

pub bits_unbroken : (bits : Bits) → unbroken (bits_text bits)
unfolding bits_text
bits_unbroken bits = all_append no_break (hex_text bits.bytes) (unused_text bits.unused) (hex_unbroken bits.bytes) (unused_unbroken bits.unused)

pub version_unbroken : (v : Version) → unbroken (version_text v)
unfolding version_text
version_unbroken v =
    all_cond no_break (raw_value v == 0) (codes "1")
    (cond (raw_value v == 1) (codes "2") (cond (raw_value v == 2) (codes "3") (labelled (codes "number ") (decimal (raw_value v))))) refl
    (all_cond no_break (raw_value v == 1) (codes "2") (cond (raw_value v == 2) (codes "3") (labelled (codes "number ") (decimal (raw_value v)))) refl
    (all_cond no_break (raw_value v == 2) (codes "3") (labelled (codes "number ") (decimal (raw_value v))) refl
    (labelled_unbroken (codes "number ") (decimal (raw_value v)) refl (decimal_unbroken (raw_value v)))))

-- ---- keys

size_unbroken : (o : Option ℕ) → unbroken (size_text o)
unfolding size_text
size_unbroken None = refl
size_unbroken (Some bits) =
    all_append no_break (labelled (codes ", ") (decimal bits)) (codes " bits") (labelled_unbroken (codes ", ") (decimal bits) refl (decimal_unbroken bits)) refl

exponent_of_unbroken : (o : Option RsaPublicKey) → unbroken (exponent_of o)
unfolding exponent_of
exponent_of_unbroken None = refl
exponent_of_unbroken (Some key) =
    labelled_unbroken (codes ", exponent ") (integer_text key.public_exponent) refl (integer_unbroken key.public_exponent)

exponent_unbroken : (key : SubjectPublicKeyInfo) → unbroken (exponent_text key)
unfolding exponent_text exponent_in
exponent_unbroken key =
    all_cond no_break (is_rsa key) (exponent_of (value_of rsa_public_key key.subject_public_key.bytes)) []
    (exponent_of_unbroken (value_of rsa_public_key key.subject_public_key.bytes)) refl

pub key_unbroken : (key : SubjectPublicKeyInfo) → unbroken (key_text key)
unfolding key_text
key_unbroken key =
    all_append no_break (algorithm_text key.algorithm ++ size_text (rsa_length key)) (exponent_text key)
    (all_append no_break (algorithm_text key.algorithm) (size_text (rsa_length key)) (algorithm_passes no_break break_wide key.algorithm) (size_unbroken (rsa_length key)))
    (exponent_unbroken key)

-- what follows the algorithm of a key begins with a comma
exponent_of_ends : (o : Option RsaPublicKey) → Ends no_comma (exponent_of o)
unfolding exponent_of labelled
exponent_of_ends None = tt
exponent_of_ends (Some key) = refl

exponent_ends : (key : SubjectPublicKeyInfo) → Ends no_comma (exponent_text key)
unfolding exponent_text exponent_in
exponent_ends key =
    cond_both (is_rsa key) (exponent_of (value_of rsa_public_key key.subject_public_key.bytes)) [] (λ (t : List ℕ). Ends no_comma t)
    (λ _. exponent_of_ends (value_of rsa_public_key key.subject_public_key.bytes)) (λ _. tt)

size_ends : (o : Option ℕ) (t : List ℕ) → Ends no_comma t → Ends no_comma (size_text o ++ t)
unfolding size_text labelled
size_ends None t h = h
size_ends (Some bits) t h = refl

pub key_ends : (key : SubjectPublicKeyInfo) → Ends no_comma (size_text (rsa_length key) ++ exponent_text key)
key_ends key = size_ends (rsa_length key) (exponent_text key) (exponent_ends key)

-- ---- characters

above_ten : (c : ℕ) → 10 < c → no_break c ≡ true
above_ten c h = ap not (ne_eqb c 10 (λ (e : c ≡ 10). omega arith))

by_length : (a b c : Bool) (one two three four : List ℕ) → unbroken one → unbroken two → unbroken three → unbroken four
    → unbroken (cond a one (cond b two (cond c three four)))
by_length true b c one two three four h k l m = h
by_length false true c one two three four h k l m = k
by_length false false true one two three four h k l m = l
by_length false false false one two three four h k l m = m

-- the octets of another character than the line break are others
encoded_unbroken : (c : ℕ) → (c == 10) ≡ false → unbroken (encode_utf8 c)
unfolding encode_utf8
encoded_unbroken c h =
    by_length (nat_lt c 128) (nat_lt c 2048) (nat_lt c 65536) (c ∷ [])
    ((192 + c / 64) ∷ (128 + c % 64) ∷ [])
    ((224 + c / 4096) ∷ (128 + c / 64 % 64) ∷ (128 + c % 64) ∷ [])
    ((240 + c / 262144) ∷ (128 + c / 4096 % 64) ∷ (128 + c / 64 % 64) ∷ (128 + c % 64) ∷ [])
    (one_more no_break c [] (ap not h) refl)
    (one_more no_break (192 + c / 64) ((128 + c % 64) ∷ []) (above_ten (192 + c / 64) (omega arith)) last)
    (one_more no_break (224 + c / 4096) ((128 + c / 64 % 64) ∷ (128 + c % 64) ∷ []) (above_ten (224 + c / 4096) (omega arith)) last_two)
    (one_more no_break (240 + c / 262144) ((128 + c / 4096 % 64) ∷ (128 + c / 64 % 64) ∷ (128 + c % 64) ∷ []) (above_ten (240 + c / 262144) (omega arith))
    (one_more no_break (128 + c / 4096 % 64) ((128 + c / 64 % 64) ∷ (128 + c % 64) ∷ []) (above_ten (128 + c / 4096 % 64) (omega arith)) last_two))
  where
    last : unbroken ((128 + c % 64) ∷ [])
    last = one_more no_break (128 + c % 64) [] (above_ten (128 + c % 64) (omega arith)) refl

    last_two : unbroken ((128 + c / 64 % 64) ∷ (128 + c % 64) ∷ [])
    last_two = one_more no_break (128 + c / 64 % 64) ((128 + c % 64) ∷ []) (above_ten (128 + c / 64 % 64) (omega arith)) last

ten_hidden : is_shown 10 ≡ false
unfolding is_shown is_hidden is_right_to_left
ten_hidden = refl

shown_not_ten : (c : ℕ) → is_shown c ≡ true → (c == 10) ≡ false
shown_not_ten c h =
    false_from_ne_true (c == 10) (λ (e : (c == 10) ≡ true). both_ways (is_shown 10) ten_hidden (ap is_shown (sym (eqb-true c 10 e)) ∙ h))

pair_unbroken : (octet : ℕ) → unbroken (hex_pair octet)
unfolding hex_pair
pair_unbroken octet = one_more no_break 92 (hex_text (octet ∷ [])) refl (hex_unbroken (octet ∷ []))

pairs_unbroken : (octets : List ℕ) → unbroken (hex_pairs octets)
unfolding hex_pairs
pairs_unbroken octets = all_flat no_break hex_pair pair_unbroken octets

pub shown_unbroken : (code : ℕ) → unbroken (shown code)
unfolding shown
shown_unbroken code =
    cond_both (is_shown (unicode code)) (encode_utf8 (unicode code)) (hex_pairs (encode_utf8 (unicode code))) unbroken
    (λ (h : is_shown (unicode code) ≡ true). encoded_unbroken (unicode code) (shown_not_ten (unicode code) h)) (λ _. pairs_unbroken (encode_utf8 (unicode code)))

unicode_not_ten : (code : ℕ) → (code == 10) ≡ false → (unicode code == 10) ≡ false
unfolding unicode
unicode_not_ten code h = cond_both _ code 0xfffd (λ (c : ℕ). (c == 10) ≡ false) (λ _. h) (λ _. refl)

ten_unmarked : (is_first is_last : Bool) → is_marked is_first is_last 10 ≡ false
unfolding is_marked is_special
ten_unmarked is_first is_last = refl

marked_not_ten : (is_first is_last : Bool) (code : ℕ) → is_marked is_first is_last code ≡ true → (code == 10) ≡ false
marked_not_ten is_first is_last code h =
    false_from_ne_true (code == 10) (λ (e : (code == 10) ≡ true).
    both_ways (is_marked is_first is_last 10) (ten_unmarked is_first is_last) (ap (is_marked is_first is_last) (sym (eqb-true code 10 e)) ∙ h))

marked_unbroken : (is_first is_last : Bool) (code : ℕ) → unbroken (marked is_first is_last code)
unfolding marked
marked_unbroken is_first is_last code =
    cond_both (is_marked is_first is_last code) (codes "\\" ++ encode_utf8 (unicode code)) (shown code) unbroken
    (λ (h : is_marked is_first is_last code ≡ true).
    one_more no_break 92 (encode_utf8 (unicode code)) refl (encoded_unbroken (unicode code) (unicode_not_ten code (marked_not_ten is_first is_last code h))))
    (λ _. shown_unbroken code)

-- ---- names

from_unbroken : (is_first : Bool) (code : ℕ) (rest : List ℕ) → unbroken (value_from is_first code rest)
unfolding value_from
from_unbroken is_first code [] = marked_unbroken is_first true code
from_unbroken is_first code (next ∷ rest) =
    all_append no_break (marked is_first false code) (value_from false next rest) (marked_unbroken is_first false code) (from_unbroken false next rest)

pub value_unbroken : (characters : List ℕ) → unbroken (value_text characters)
unfolding value_text
value_unbroken [] = refl
value_unbroken (first ∷ rest) = from_unbroken true first rest

directory_unbroken : (s : DirectoryString) (octets : List ℕ) → unbroken (directory_string_text s octets)
unfolding directory_string_text teletex_text
directory_unbroken (Teletex contents) octets =
    all_cond no_break (list_all is_ascii contents) (value_text contents) (hex_value octets) (value_unbroken contents) (hex_value_unbroken octets)
directory_unbroken (Printable contents) octets = value_unbroken contents
directory_unbroken (Universal contents) octets = value_unbroken (quads contents)
directory_unbroken (Utf8 contents) octets = value_unbroken (chars contents)
directory_unbroken (Bmp contents) octets = value_unbroken (pairs contents)

ia5_unbroken : (o : Option (List ℕ)) (octets : List ℕ) → unbroken (ia5_text o octets)
unfolding ia5_text
ia5_unbroken (Some contents) octets = value_unbroken contents
ia5_unbroken None octets = hex_value_unbroken octets

string_unbroken : (o : Option DirectoryString) (octets : List ℕ) → unbroken (string_text o octets)
unfolding string_text ia5_or_hex
string_unbroken (Some text) octets = directory_unbroken text octets
string_unbroken None octets = ia5_unbroken (value_of ia5_string octets) octets

pub attribute_value_unbroken : (octets : List ℕ) → unbroken (attribute_value_text octets)
unfolding attribute_value_text
attribute_value_unbroken octets = string_unbroken (value_of directory_string octets) octets

pub dotted_unbroken : (arcs : List ℕ) → unbroken (dotted arcs)
dotted_unbroken arcs = dotted_passes no_break refl refl arcs

attribute_named_unbroken : (a : AttributeTypeAndValue) (o : Option (List ℕ)) → ((name : List ℕ) → o ≡ Some name → unbroken name) → unbroken (attribute_named o a)
unfolding attribute_named
attribute_named_unbroken a (Some name) f =
    all_append no_break (name ++ codes "=") (attribute_value_text a.value) (all_append no_break name (codes "=") (f name refl) refl) (attribute_value_unbroken a.value)
attribute_named_unbroken a None f =
    all_append no_break (dotted a.attr_type ++ codes "=") (hex_value a.value) (all_append no_break (dotted a.attr_type) (codes "=") (dotted_unbroken a.attr_type) refl)
    (hex_value_unbroken a.value)

attribute_names_unbroken : all_names no_break attribute_names ≡ true
unfolding attribute_names
attribute_names_unbroken = refl

attribute_unbroken : (a : AttributeTypeAndValue) → unbroken (attribute_text a)
unfolding attribute_text
attribute_unbroken a =
    attribute_named_unbroken a (name_in attribute_names a.attr_type) (λ (name : List ℕ). name_passes no_break attribute_names attribute_names_unbroken a.attr_type name)

pub relative_unbroken : (part : RelativeDistinguishedName) → unbroken (relative_name_text part)
unfolding relative_name_text
relative_unbroken part = all_joined no_break attribute_text (codes "+") attribute_unbroken refl part.0

pub name_unbroken : (n : Name) → unbroken (name_text n)
unfolding name_text
name_unbroken (RdnSequence []) = refl
name_unbroken (RdnSequence (part ∷ parts)) = all_joined no_break relative_name_text (codes ",") relative_unbroken refl (reverse (part ∷ parts))
