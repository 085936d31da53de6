-- The texts of signed certificate timestamps are indented.
use Rattle.std.proofs.Common.{ℕ, ◌==◌, cond, List, [], ◌∷◌, ◌++◌, codes, length, take, drop, nat_eq, Option, Some, None, refl}
use Rattle.std.specs.Cmp.Lexicographic.{pointwise}
use Rattle.der_tree.specs.Form.{value_of}
use Rattle.der_tree.specs.PrimitiveTypes.{octet_string}
use Rattle.shelf_explain.specs.Lines.{below_line, hex_text, labelled, next_line}
use Rattle.shelf_explain.specs.Names.{hex_value}
use Rattle.shelf_explain.specs.Numbers.{short_decimal}
use Rattle.shelf_explain.specs.Parts.{in_front}
use Rattle.shelf_explain.specs.Timestamps.{extensions_in, extensions_line, extensions_text, first_and_more, list_or_unreadable, log_id, log_text, more_timestamps, none_or_other, octets_or_unreadable, of_next, other_text, parts_text, rest_text, scheme_text, signed_text, time_octets, time_text, timestamp_list_text, timestamp_text, timestamps_text, vector, whole_vector, with_extensions, with_signature}
use Rattle.explained_whole.proofs.Breaks.{hex_value_unbroken, short_unbroken}
use Rattle.explained_whole.proofs.Indents.{both, either, indented, of_unbroken}
use Rattle.explained_whole.proofs.PartTexts.{below_indented, hex_indented, labelled_indented, next_indented, unreadable_indented}

other_indented : (octets : List ℕ) → indented (other_text octets)
unfolding other_text
other_indented octets = labelled_indented (codes "timestamp ") (hex_value octets) refl (of_unbroken (hex_value octets) (hex_value_unbroken octets))

scheme_indented : (scheme : List ℕ) → indented (scheme_text scheme)
unfolding scheme_text
scheme_indented scheme =
    either (pointwise nat_eq scheme (4 ∷ 3 ∷ [])) (codes "ECDSA with SHA-256")
    (cond (pointwise nat_eq scheme (4 ∷ 1 ∷ [])) (codes "RSA with SHA-256") (labelled (codes "algorithm ") (hex_text scheme))) refl
    (either (pointwise nat_eq scheme (4 ∷ 1 ∷ [])) (codes "RSA with SHA-256") (labelled (codes "algorithm ") (hex_text scheme)) refl
    (labelled_indented (codes "algorithm ") (hex_text scheme) refl (hex_indented scheme)))

extensions_indented : (octets : List ℕ) → indented (extensions_text octets)
unfolding extensions_text extensions_line
extensions_indented octets =
    either (length octets == 0) [] (below_line ++ labelled (codes "extensions ") (hex_text octets)) refl
    (both below_line (labelled (codes "extensions ") (hex_text octets)) below_indented (labelled_indented (codes "extensions ") (hex_text octets) refl (hex_indented octets)))

log_indented : (octets : List ℕ) → indented (log_text octets)
unfolding log_text
log_indented octets = labelled_indented (codes "log ") (hex_text (log_id octets)) refl (hex_indented (log_id octets))

time_indented : (octets : List ℕ) → indented (time_text octets)
unfolding time_text
time_indented octets =
    both (below_line ++ labelled (codes "time ") (short_decimal (time_octets octets))) (codes " ms after 1970")
    (both below_line (labelled (codes "time ") (short_decimal (time_octets octets))) below_indented
    (labelled_indented (codes "time ") (short_decimal (time_octets octets)) refl
    (of_unbroken (short_decimal (time_octets octets)) (short_unbroken (time_octets octets))))) refl

signed_indented : (scheme signature : List ℕ) → indented (signed_text scheme signature)
unfolding signed_text
signed_indented scheme signature =
    both (below_line ++ scheme_text scheme) (labelled (codes ": ") (hex_text signature)) (both below_line (scheme_text scheme) below_indented (scheme_indented scheme))
    (labelled_indented (codes ": ") (hex_text signature) refl (hex_indented signature))

parts_indented : (octets extensions scheme signature : List ℕ) → indented (parts_text octets extensions scheme signature)
unfolding parts_text
parts_indented octets extensions scheme signature =
    both (log_text octets ++ time_text octets ++ extensions_text extensions) (signed_text scheme signature)
    (both (log_text octets ++ time_text octets) (extensions_text extensions) (both (log_text octets) (time_text octets) (log_indented octets) (time_indented octets))
    (extensions_indented extensions)) (signed_indented scheme signature)

with_signature_indented : (octets extensions signed : List ℕ) (o : Option (List ℕ)) → indented (with_signature octets extensions signed o)
unfolding with_signature
with_signature_indented octets extensions signed None = other_indented octets
with_signature_indented octets extensions signed (Some signature) = parts_indented octets extensions (take 2 signed) signature

with_extensions_indented : (octets : List ℕ) (o : Option (List ℕ × List ℕ)) → indented (with_extensions octets o)
unfolding with_extensions
with_extensions_indented octets None = other_indented octets
with_extensions_indented octets (Some (extensions, signed)) = with_signature_indented octets extensions signed (whole_vector (drop 2 signed))

timestamp_indented : (octets : List ℕ) → indented (timestamp_text octets)
unfolding timestamp_text
timestamp_indented octets = with_extensions_indented octets (extensions_in octets)

rest_indented : (octets : List ℕ) → indented (rest_text octets)
unfolding rest_text
rest_indented octets =
    either (length octets == 0) [] (next_line ++ other_text octets) refl (both next_line (other_text octets) next_indented (other_indented octets))

next_timestamps_indented : (more : List ℕ → List ℕ) → ((octets : List ℕ) → indented (more octets)) → (o : Option (List ℕ × List ℕ)) (octets : List ℕ)
    → indented (of_next more o octets)
next_timestamps_indented more h None octets = rest_indented octets
next_timestamps_indented more h (Some (next, left)) octets =
    both (next_line ++ timestamp_text next) (more left) (both next_line (timestamp_text next) next_indented (timestamp_indented next)) (h left)

more_indented : (steps octets : List ℕ) → indented (more_timestamps steps octets)
unfolding more_timestamps
more_indented [] octets = refl
more_indented (step ∷ steps) octets = next_timestamps_indented (more_timestamps steps) (more_indented steps) (vector octets) octets

none_indented : (octets : List ℕ) → indented (none_or_other octets)
unfolding none_or_other
none_indented octets = either (length octets == 0) (codes "none") (other_text octets) refl (other_indented octets)

first_indented : (o : Option (List ℕ × List ℕ)) (octets : List ℕ) → indented (first_and_more o octets)
unfolding first_and_more
first_indented None octets = none_indented octets
first_indented (Some (first, left)) octets = both (timestamp_text first) (more_timestamps left left) (timestamp_indented first) (more_indented left left)

timestamps_indented : (octets : List ℕ) → indented (timestamps_text octets)
unfolding timestamps_text
timestamps_indented octets = first_indented (vector octets) octets

list_indented : (o : Option (List ℕ)) (octets : List ℕ) → indented (list_or_unreadable o octets)
list_indented None octets = unreadable_indented (in_front octets)
list_indented (Some list) octets = timestamps_indented list

octets_indented : (o : Option (List ℕ)) (octets : List ℕ) → indented (octets_or_unreadable o octets)
octets_indented None octets = unreadable_indented (in_front octets)
octets_indented (Some inner) octets = list_indented (whole_vector inner) octets

pub timestamp_list_indented : (octets : List ℕ) → indented (timestamp_list_text octets)
unfolding timestamp_list_text
timestamp_list_indented octets = octets_indented (value_of octet_string octets) octets
