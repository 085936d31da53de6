-- How many octets the extensions of a table's rows have at most, and other values of certificates and lists.
use Rattle.std.specs.Prelude.{◌≡◌, ◌==◌, ℕ, ◌+◌, ◌*◌, ◌≤◌, ◌/◌, ◌%◌, ◌^◌, ◌&&◌, zero, suc, Bool, true, false, cond, nat_le, nat_lt, List, [], ◌∷◌, ◌++◌, length, map, Option, Some, None, Result, Ok, Err, refl}
use Rattle.std.specs.List.{AllZip, sum_by}
use Rattle.std.specs.Option.{IfSome}
use Rattle.std.proofs.Common.{arith, subst, sym}
use Rattle.std.proofs.lemmas.Bool.{leb-true}
use Rattle.std.proofs.lemmas.List.{length-append}
use Rattle.std.proofs.lemmas.List.Sums.{sum_by-cons, sum_by-append}
use Rattle.asn1_core.specs.Binds.{chosen, ◌>>=◌}
use Rattle.asn1_core.specs.GeneralizedTime.{fraction, fraction_digits, generalized_time_contents, is_four_digit_year}
use Rattle.asn1_core.specs.TwoDigits.{two_digits}
use Rattle.asn1_core.specs.Twos.{unsigned, with_sign, without_zeros}
use Rattle.asn1_core.specs.UtcTime.{is_utc_time_year, twelve_digits, utc_time_contents, year_of}
use Rattle.asn1_core.specs.declared.time.generalized_time.GeneralizedTime.{GeneralizedTime}
use Rattle.asn1_core.specs.declared.time.utc_time.UtcTime.{UtcTime}
use Rattle.der_tree.specs.Codec.{Codec}
use Rattle.der_tree.specs.Element.{Element, element_octets}
use Rattle.der_tree.specs.Grammar.{any, beq, beq_exact, defaulted, optional, required, ◌&◌}
use Rattle.der_tree.specs.PrimitiveTypes.{boolean, generalized_time, integer, object_identifier, octet_string}
use Rattle.der_tree.specs.Tags.{universal}
use Rattle.der_tree.specs.Tree.{PlainTree}
use Rattle.der_tree.specs.TreeBytes.{bytes}
use Rattle.der_tree.specs.TreeElement.{element_of}
use Rattle.der_tree.specs.declared.error.EncodeError.{EncodeError}
use Rattle.der_tree.specs.declared.error.EncodeError.TheVariants.{TimeNotCarried}
use Rattle.der_tree.proofs.Writing.{bytes_are}
use Rattle.pkix_cert.specs.Algorithms.{algorithm_identifier, algorithm_identifier_fields}
use Rattle.pkix_cert.specs.Extensions.{extension, extension_fields, extensions}
use Rattle.pkix_cert.specs.Times.{time}
use Rattle.pkix_cert.specs.declared.extension.Extension.{Extension}
use Rattle.pkix_cert.specs.declared.extension.Extensions.{Extensions}
use Rattle.pkix_cert.specs.declared.time.Time.{Time}
use Rattle.pkix_cert.specs.declared.time.Time.TheVariants.{Utc, General}
use Rattle.rcgen_certificate.specs.ExtensionRows.{ExtensionRow, IsField, extension_row, form_of, form_of_tree, row_of_extension}
use Rattle.rcgen_certificate.specs.KeyValues.{signature_identifier}
use Rattle.rcgen_sign.specs.Algorithms.{key_arcs, key_parameters, signature_arcs, signature_parameters}
use Rattle.rcgen_sign.specs.declared.sign_algo.SignatureAlgorithm.{SignatureAlgorithm}
use Rattle.rcgen_sign.proofs.AlgorithmLemmas.{every}
use Rattle.outcomes.specs.PartSizes.{parameters_size}
use Rattle.outcomes.proofs.Within.{Within, any_within, boolean_within, field, field_by_default, field_if, fields_both, identifier_within, in_leaf, in_list, in_sequence, integer_within, octets_within, widened}

-- ---- extensions

abbrev pub contents_size : Option (List ℕ) → ℕ
contents_size None = 0
contents_size (Some b) = length b

-- of the extension that a row is
abbrev pub row_size : ExtensionRow → ℕ
row_size r = 100 + 10 * length r.oid + contents_size r.contents

abbrev pub rows_size : List ExtensionRow → ℕ
rows_size rows = sum_by row_size rows

extension_within : (x : Extension) → Within extension x (row_size (row_of_extension x))
unfolding extension_fields
extension_within x t e =
    let value = field octet_string x.extn_value (20 + length x.extn_value) (octets_within x.extn_value) in
    let critical = field_by_default boolean beq false x.critical 21 (boolean_within x.critical) in
    let id = field object_identifier x.extn_id (20 + 10 * length x.extn_id) (identifier_within x.extn_id) in
    let rest = fields_both (defaulted boolean beq beq_exact false) (required octet_string) x.critical x.extn_value 21 (20 + length x.extn_value) critical value in
    let all = fields_both (required object_identifier) (defaulted boolean beq beq_exact false & required octet_string) x.extn_id (x.critical, x.extn_value)
    (20 + 10 * length x.extn_id) (21 + (20 + length x.extn_value)) id rest in
    let whole = in_sequence (universal 16) extension_fields x (20 + 10 * length x.extn_id + (21 + (20 + length x.extn_value))) all t e in
    omega arith

rows_zip : (es : List Extension) → AllZip (λ (r : ExtensionRow) (e : Extension). r ≡ row_of_extension e) (map row_of_extension es) es
rows_zip [] = tt
rows_zip (e ∷ es) = (refl, rows_zip es)

pub extensions_within : (x : Extensions) (rows : List ExtensionRow) → map row_of_extension x.0 ≡ rows → Within extensions x (20 + rows_size rows)
extensions_within x rows e =
    in_list extension 1 None refl (λ (r : ExtensionRow) (v : Extension). r ≡ row_of_extension v) row_size
    (λ r v p. subst (λ (q : ExtensionRow). Within extension v (row_size q)) (sym p) (extension_within v)) rows x.0
    (subst (λ (l : List ExtensionRow). AllZip (λ (r : ExtensionRow) (v : Extension). r ≡ row_of_extension v) l x.0) e (rows_zip x.0))

pub some_rows : (b : Bool) (xs rows : List ExtensionRow) → Some xs ≡ cond b None (Some rows) → xs ≡ rows
some_rows true xs rows e = absurd cc
some_rows false xs rows e = cc

pub field_within : (rows : List ExtensionRow) (o : Option Extensions) → IsField rows o → IfSome o (λ x. Within extensions x (20 + rows_size rows))
field_within rows None h = tt
field_within rows (Some x) h = extensions_within x rows (some_rows (length rows == 0) (map row_of_extension x.0) rows h)

-- ---- rows

octets_of : (o : Option Element) (t : PlainTree) (n : ℕ) → element_of t ≡ o → length (bytes t) ≤ n
    → contents_size (o >>= λ s. Some (element_octets s)) ≤ n
octets_of None t n e h = omega arith
octets_of (Some s) t n e h = subst (λ (b : List ℕ). length b ≤ n) (bytes_are t s e) h

form_size_by : (r : Result PlainTree EncodeError) (n : ℕ) → ((t : PlainTree) → r ≡ Ok t → length (bytes t) ≤ n) → contents_size (form_of_tree r) ≤ n
form_size_by (Ok t) n h = octets_of (element_of t) t n refl (h t refl)
form_size_by (Err d) n h = omega arith

form_size : {A : Type 0} (c : Codec A) (v : A) (n : ℕ) → Within c v n → contents_size (form_of c v) ≤ n
form_size c v n h = form_size_by (c.tree_of v) n h

pub row_within : {A : Type 0} (oid : List ℕ) (critical : Bool) (c : Codec A) (o : Option A) (n : ℕ) → IfSome o (λ v. Within c v n)
    → rows_size (extension_row oid critical c o) ≤ 100 + 10 * length oid + n
row_within oid critical c None n h = omega arith
row_within oid critical c (Some v) n h =
    let r : ExtensionRow = record { oid = oid; critical = critical; contents = form_of c v } in
    omega (arith, sum_by-cons row_size r [], form_size c v n h)

pub rows_joined : (a b : List ExtensionRow) (m n : ℕ) → rows_size a ≤ m → rows_size b ≤ n → rows_size (a ++ b) ≤ m + n
rows_joined a b m n h k = omega (arith, sum_by-append row_size a b)

-- ---- algorithms

abbrev is_small : SignatureAlgorithm → Type 0
is_small a = (nat_le (length (signature_arcs a)) 20 ≡ true) × (nat_le (parameters_size (signature_parameters a)) 100 ≡ true)

each_small : (a : SignatureAlgorithm) → is_small a
each_small =
    every is_small (refl, refl) (refl, refl) (refl, refl) (refl, refl) (refl, refl) (refl, refl) (refl, refl) (refl, refl) (refl, refl) (refl, refl) (refl, refl)
    (refl, refl) (refl, refl) (refl, refl) (refl, refl) (refl, refl) (refl, refl) (refl, refl) (refl, refl) (refl, refl) (refl, refl)

parameters_within : (o : Option (List ℕ)) → parameters_size o ≤ 100 → IfSome o (λ v. Within any v 100)
parameters_within None h = tt
parameters_within (Some b) h = widened any b (length b) 100 h (any_within b)

pub algorithm_within : (a : SignatureAlgorithm) → Within algorithm_identifier (signature_identifier a) 400
unfolding algorithm_identifier_fields
algorithm_within a t e =
    let small = each_small a in
    let arcs = leb-true (length (signature_arcs a)) 20 small.0 in
    let rest = field_if any (signature_parameters a) 100 (parameters_within (signature_parameters a) (leb-true (parameters_size (signature_parameters a)) 100 small.1)) in
    let id = field object_identifier (signature_arcs a) (20 + 10 * length (signature_arcs a)) (identifier_within (signature_arcs a)) in
    let both = fields_both (required object_identifier) (optional any) (signature_arcs a) (signature_parameters a) (20 + 10 * length (signature_arcs a)) 100 id rest in
    let whole = in_sequence (universal 16) algorithm_identifier_fields (signature_identifier a) (20 + 10 * length (signature_arcs a) + 100) both t e in
    omega arith

-- ---- times

utc_within : (t : UtcTime) → (b : List ℕ) → utc_time_contents.to t ≡ Some b → length b ≤ 13
unfolding utc_time_contents
utc_within t b e =
    let k = chosen (is_utc_time_year t.at && (t.at.time.subsec_nanosecond == 0)) (twelve_digits t.at ++ 90 ∷ []) b e in
    subst (λ (x : List ℕ). length x ≤ 13) k.1 (omega arith)

fraction_count : (k n : ℕ) → length (fraction_digits k n) ≤ k
unfolding fraction_digits
fraction_count zero n = omega arith
fraction_count (suc k) n =
    let rest = fraction_count k (n % 10 ^ k) in
    elim (n == 0) as (λ b. length (cond b [] ((48 + n / 10 ^ k) ∷ fraction_digits k (n % 10 ^ k))) ≤ suc k) [ true ↦ omega arith | false ↦ omega arith ]

point_count : (n : ℕ) → length (fraction n) ≤ 10
point_count n =
    let digits = fraction_count 9 n in
    elim (n == 0) as (λ b. length (cond b [] (46 ∷ fraction_digits 9 n)) ≤ 10) [ true ↦ omega arith | false ↦ omega arith ]

general_count : (t : GeneralizedTime) → (b : List ℕ) → generalized_time_contents.to t ≡ Some b → length b ≤ 25
unfolding generalized_time_contents
general_count t b e =
    let whole = two_digits (year_of t.at / 100) ++ twelve_digits t.at ++ fraction t.at.time.subsec_nanosecond ++ 90 ∷ [] in
    let k = chosen (is_four_digit_year t.at) whole b e in
    subst (λ (x : List ℕ). length x ≤ 25) k.1
    (omega (arith, point_count t.at.time.subsec_nanosecond, length-append (fraction t.at.time.subsec_nanosecond) (90 ∷ [])))

pub general_within : (t : GeneralizedTime) → Within generalized_time t 45
general_within t = in_leaf (universal 24) TimeNotCarried generalized_time_contents t 25 (λ b e. general_count t b e)

pub time_within : (t : Time) → Within time t 45
time_within (Utc u) t e = let k = in_leaf (universal 23) TimeNotCarried utc_time_contents u 13 (λ b f. utc_within u b f) t e in omega arith
time_within (General g) t e = general_within g t e

-- ---- numbers without a sign

zeros_count : (b : List ℕ) → length (without_zeros b) ≤ length b
zeros_count [] = omega arith
zeros_count (a ∷ rest) =
    let k = zeros_count rest in
    elim (a == 0) as (λ t. length (cond t (without_zeros rest) (a ∷ rest)) ≤ length (a ∷ rest)) [ true ↦ omega arith | false ↦ omega arith ]

sign_count : (b : List ℕ) → length (with_sign b) ≤ 1 + length b
sign_count [] = omega arith
sign_count (a ∷ rest) = elim (nat_lt a 128) as (λ t. length (cond t (a ∷ rest) (0 ∷ a ∷ rest)) ≤ 1 + length (a ∷ rest)) [ true ↦ omega arith | false ↦ omega arith ]

pub unsigned_count : (b : List ℕ) → length (unsigned b) ≤ 1 + length b
unsigned_count b = omega (arith, sign_count (without_zeros b), zeros_count b)

pub number_within : (b : List ℕ) → Within integer (unsigned b) (21 + length b)
number_within b = widened integer (unsigned b) (20 + length (unsigned b)) (21 + length b) (omega (arith, unsigned_count b)) (integer_within (unsigned b))

-- ---- the identifiers of keys

abbrev is_small_key : SignatureAlgorithm → Type 0
is_small_key a = (nat_le (length (key_arcs a)) 20 ≡ true) × (nat_le (parameters_size (key_parameters a)) 100 ≡ true)

each_small_key : (a : SignatureAlgorithm) → is_small_key a
each_small_key =
    every is_small_key (refl, refl) (refl, refl) (refl, refl) (refl, refl) (refl, refl) (refl, refl) (refl, refl) (refl, refl) (refl, refl) (refl, refl) (refl, refl)
    (refl, refl) (refl, refl) (refl, refl) (refl, refl) (refl, refl) (refl, refl) (refl, refl) (refl, refl) (refl, refl) (refl, refl)

pub key_info_small : (a : SignatureAlgorithm) → 10 * length (key_arcs a) + parameters_size (key_parameters a) ≤ 300
key_info_small a =
    let small = each_small_key a in
    let arcs = leb-true (length (key_arcs a)) 20 small.0 in
    let parameters = leb-true (parameters_size (key_parameters a)) 100 small.1 in
    omega arith
