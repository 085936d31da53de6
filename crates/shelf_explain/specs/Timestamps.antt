-- Signed certificate timestamps in a certificate (RFC 6962, 3.2, 3.3).
use Rattle.std.specs.Prelude.{ℕ, ◌+◌, ◌*◌, cond, length, take, drop, List, [], ◌∷◌, ◌++◌, ◌==◌, codes, nat_eq, nat_le, Option, Some, None}
use Rattle.std.specs.Cmp.Lexicographic.{pointwise}
use Rattle.der_tree.specs.Form.{value_of}
use Rattle.der_tree.specs.PrimitiveTypes.{octet_string}
use Rattle.shelf_explain.specs.Lines.{below_line, hex_text, labelled, next_line}
use Rattle.shelf_explain.specs.Names.{hex_value}
use Rattle.shelf_explain.specs.Numbers.{short_decimal}
use Rattle.shelf_explain.specs.PartTexts.{unreadable_at}
use Rattle.shelf_explain.specs.Parts.{begins_with, in_front}

-- ---- vectors of TLS (RFC 5246, 4.3)

abbrev pub halves_at : ℕ → List ℕ → Option (List ℕ × List ℕ)
halves_at count octets = cond (nat_le count (length octets)) (Some (take count octets, drop count octets)) None

-- a vector whose length has two octets, and the octets after it
unfoldable pub vector : List ℕ → Option (List ℕ × List ℕ)
vector [] = None
vector (high ∷ []) = None
vector (high ∷ low ∷ octets) = halves_at (high * 256 + low) octets

abbrev pub if_last : Option (List ℕ × List ℕ) → Option (List ℕ)
if_last None = None
if_last (Some x) = cond (length x.1 == 0) (Some x.0) None

-- the vector that the octets are
unfoldable pub whole_vector : List ℕ → Option (List ℕ)
whole_vector octets = if_last (vector octets)

-- ---- a timestamp: its version, the log's identifier in 32 octets, the time in 8, extensions, the algorithm in 2 octets, the signature (3.2)

abbrev pub log_id : List ℕ → List ℕ
log_id octets = take 32 (drop 1 octets)

abbrev pub time_octets : List ℕ → List ℕ
time_octets octets = take 8 (drop 33 octets)

-- the extensions of a timestamp of version 1, and the octets after them
unfoldable pub extensions_in : List ℕ → Option (List ℕ × List ℕ)
extensions_in octets = cond (begins_with octets 0) (vector (drop 41 octets)) None

-- by the codes of TLS for the digest and the kind of key (RFC 5246, 7.4.1.4.1)
unfoldable pub scheme_text : List ℕ → List ℕ
scheme_text scheme =
    cond (pointwise nat_eq scheme (4 ∷ 3 ∷ [])) (codes "ECDSA with SHA-256")
    (cond (pointwise nat_eq scheme (4 ∷ 1 ∷ [])) (codes "RSA with SHA-256") (labelled (codes "algorithm ") (hex_text scheme)))

unfoldable pub extensions_line : List ℕ → List ℕ
extensions_line octets = below_line ++ labelled (codes "extensions ") (hex_text octets)

unfoldable pub extensions_text : List ℕ → List ℕ
extensions_text octets = cond (length octets == 0) [] (extensions_line octets)

unfoldable pub log_text : List ℕ → List ℕ
log_text octets = labelled (codes "log ") (hex_text (log_id octets))

-- in milliseconds after the start of 1970
unfoldable pub time_text : List ℕ → List ℕ
time_text octets = below_line ++ labelled (codes "time ") (short_decimal (time_octets octets)) ++ codes " ms after 1970"

unfoldable pub signed_text : List ℕ → List ℕ → List ℕ
signed_text scheme signature = below_line ++ scheme_text scheme ++ labelled (codes ": ") (hex_text signature)

unfoldable pub parts_text : List ℕ → List ℕ → List ℕ → List ℕ → List ℕ
parts_text octets extensions scheme signature = log_text octets ++ time_text octets ++ extensions_text extensions ++ signed_text scheme signature

unfoldable pub other_text : List ℕ → List ℕ
other_text octets = labelled (codes "timestamp ") (hex_value octets)

unfoldable pub with_signature : List ℕ → List ℕ → List ℕ → Option (List ℕ) → List ℕ
with_signature octets extensions signed None = other_text octets
with_signature octets extensions signed (Some signature) = parts_text octets extensions (take 2 signed) signature

unfoldable pub with_extensions : List ℕ → Option (List ℕ × List ℕ) → List ℕ
with_extensions octets None = other_text octets
with_extensions octets (Some (extensions, signed)) = with_signature octets extensions signed (whole_vector (drop 2 signed))

-- its parts, or else its octets
unfoldable pub timestamp_text : List ℕ → List ℕ
timestamp_text octets = with_extensions octets (extensions_in octets)

-- ---- a list of them (3.3)

unfoldable pub rest_text : List ℕ → List ℕ
rest_text octets = cond (length octets == 0) [] (next_line ++ other_text octets)

abbrev pub of_next : (List ℕ → List ℕ) → Option (List ℕ × List ℕ) → List ℕ → List ℕ
of_next more None octets = rest_text octets
of_next more (Some (next, left)) octets = next_line ++ timestamp_text next ++ more left

-- the next ones, each on lines of its own: at most as many as the steps
unfoldable pub more_timestamps : List ℕ → List ℕ → List ℕ
more_timestamps [] octets = []
more_timestamps (step ∷ steps) octets = of_next (more_timestamps steps) (vector octets) octets

unfoldable pub none_or_other : List ℕ → List ℕ
none_or_other octets = cond (length octets == 0) (codes "none") (other_text octets)

unfoldable pub first_and_more : Option (List ℕ × List ℕ) → List ℕ → List ℕ
first_and_more None octets = none_or_other octets
first_and_more (Some (first, left)) octets = timestamp_text first ++ more_timestamps left left

unfoldable pub timestamps_text : List ℕ → List ℕ
timestamps_text octets = first_and_more (vector octets) octets

abbrev pub list_or_unreadable : Option (List ℕ) → List ℕ → List ℕ
list_or_unreadable None octets = unreadable_at (in_front octets)
list_or_unreadable (Some list) octets = timestamps_text list

abbrev pub octets_or_unreadable : Option (List ℕ) → List ℕ → List ℕ
octets_or_unreadable None octets = unreadable_at (in_front octets)
octets_or_unreadable (Some inner) octets = list_or_unreadable (whole_vector inner) octets

-- the list within an OCTET STRING
unfoldable pub timestamp_list_text : List ℕ → List ℕ
timestamp_list_text octets = octets_or_unreadable (value_of octet_string octets) octets
