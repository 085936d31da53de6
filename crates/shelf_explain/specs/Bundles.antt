-- Certificates that come with other things: a bundle of certificates and lists (RFC 5652, 3, 5.1; RFC 2315, 7, 9.1), and OpenSSL's settings.
use Rattle.std.specs.Prelude.{ℕ, Bool, false, cond, length, List, [], ◌∷◌, ◌++◌, ◌==◌, ◌||◌, codes, nat_eq, Option, Some, None}
use Rattle.std.specs.Cmp.Lexicographic.{pointwise}
use Rattle.asn1_core.specs.Binds.{◌>>=◌}
use Rattle.der_tree.specs.Element.{Element, element_at, element_octets}
use Rattle.pkix_cert.specs.Certificates.{certificate}
use Rattle.pkix_cert.specs.Revocations.{certificate_list}
use Rattle.shelf_explain.specs.Blocks.{certificate_lines, not_explained, unread_octets}
use Rattle.shelf_explain.specs.Digests.{fingerprint_line}
use Rattle.shelf_explain.specs.FieldParts.{octets_at, part_line}
use Rattle.shelf_explain.specs.Lines.{hex_text, line}
use Rattle.shelf_explain.specs.Lists.{list_lines}
use Rattle.shelf_explain.specs.PartTexts.{parts_text, unreadable_part}
use Rattle.shelf_explain.specs.Partly.{by_rows, has_signed_form, is_signed, read_or_rows}
use Rattle.shelf_explain.specs.Parts.{Place, begins_with, in_front, inside, parts_of}
use Rattle.shelf_explain.specs.Tables.{Row, certificate_fields, list_fields}

-- ---- a certificate and OpenSSL's settings after it

abbrev pub certificate_in : List ℕ → List ℕ
certificate_in octets = read_or_rows certificate certificate_lines certificate_fields octets

abbrev pub list_in : List ℕ → List ℕ
list_in octets = read_or_rows certificate_list list_lines list_fields octets

unfoldable pub hex_or_none : List ℕ → List ℕ
hex_or_none octets = cond (length octets == 0) (codes "none") (hex_text octets)

unfoldable pub with_settings : List ℕ → List ℕ → List ℕ
with_settings octets settings = certificate_in octets ++ line (codes "  ") (codes "trust settings") (hex_or_none settings)

-- under a wrong label the octets may be a secret
unfoldable pub if_signed : List ℕ → List ℕ → List ℕ → List ℕ
if_signed octets settings whole = cond (has_signed_form (parts_of (in_front octets))) (with_settings octets settings) (unread_octets whole)

unfoldable pub settings_after : Option (Element × List ℕ) → List ℕ → List ℕ
settings_after None octets = unread_octets octets
settings_after (Some x) octets = if_signed (element_octets x.0) x.1 octets

unfoldable pub trusted_lines : List ℕ → List ℕ
trusted_lines octets = settings_after (element_at octets) octets

-- ---- a bundle

-- id-signedData, 1.2.840.113549.1.7.2 (RFC 5652, 5.1)
abbrev pub signed_data : List ℕ
signed_data = 6 ∷ 9 ∷ 42 ∷ 134 ∷ 72 ∷ 134 ∷ 247 ∷ 13 ∷ 1 ∷ 7 ∷ 2 ∷ []

abbrev pub is_signed_data : Place → Bool
is_signed_data p = pointwise nat_eq p.octets signed_data

unfoldable pub if_signed_data : List Place → Option Place
if_signed_data (kind ∷ content ∷ []) = cond (is_signed_data kind) (inside content) None
if_signed_data _ = None

-- the SignedData in a ContentInfo (RFC 5652, 3)
unfoldable pub bundle_of : List ℕ → Option Place
bundle_of octets = parts_of (in_front octets) >>= if_signed_data

-- certificates are under [0], lists under [1] (RFC 5652, 5.1)
unfoldable pub is_members : List ℕ → Bool
is_members octets = begins_with octets 160 || begins_with octets 161

-- another field: its octets
unfoldable pub other_field : Place → List ℕ
other_field p = cond (is_members p.octets) [] (part_line (codes "field") octets_at p)

unfoldable pub each_or_unreadable : (Place → List ℕ) → Option (List Place) → Place → List ℕ
each_or_unreadable text None p = unreadable_part (codes "  ") (codes "field") p
each_or_unreadable text (Some ps) p = parts_text [] text ps

-- the elements within the part
abbrev pub each_within : (Place → List ℕ) → Place → List ℕ
each_within text p = each_or_unreadable text (parts_of p) p

unfoldable pub certificate_block : Place → List ℕ
certificate_block p = codes "\nCERTIFICATE\n" ++ certificate_in p.octets ++ fingerprint_line p.octets

unfoldable pub list_block : Place → List ℕ
list_block p = codes "\nX509 CRL\n" ++ list_in p.octets ++ fingerprint_line p.octets

unfoldable pub members : Place → List ℕ
members p =
    cond (begins_with p.octets 160) (each_within certificate_block p) (cond (begins_with p.octets 161) (each_within list_block p) [])

-- the other fields, the digest of the whole, and then the certificates and lists
unfoldable pub bundle_lines : List ℕ → Place → List ℕ
bundle_lines octets p = each_within other_field p ++ fingerprint_line octets ++ each_within members p

-- ---- octets without a label that can't be read as a whole

-- the version of a certificate is under [0] (RFC 5280, 4.1)
unfoldable pub has_version : Option (List Place) → Bool
has_version (Some (first ∷ rest)) = begins_with first.octets 160
has_version _ = false

abbrev pub is_time : List ℕ → Bool
is_time octets = begins_with octets 23 || begins_with octets 24

-- an algorithm, a name and a time, as in a list (RFC 5280, 5.1)
unfoldable pub has_time : List Place → Bool
has_time (algorithm ∷ name ∷ time ∷ rest) = is_time time.octets
has_time _ = false

unfoldable pub has_update : Option (List Place) → Bool
has_update (Some (first ∷ rest)) = cond (begins_with first.octets 2) (has_time rest) (has_time (first ∷ rest))
has_update _ = false

abbrev pub shown_as : List Row → List ℕ → List ℕ
shown_as rows octets = by_rows rows (in_front octets) ++ fingerprint_line octets

-- a certificate or a list, by the first fields of the part that is signed
unfoldable pub guessed_lines : Place → List ℕ → List ℕ
guessed_lines signed octets =
    cond (has_version (parts_of signed)) (shown_as certificate_fields octets)
    (cond (has_update (parts_of signed)) (shown_as list_fields octets) (not_explained octets))

unfoldable pub guessed_or_not : Option (List Place) → List ℕ → List ℕ
guessed_or_not (Some (signed ∷ rest)) octets = cond (is_signed signed rest) (guessed_lines signed octets) (not_explained octets)
guessed_or_not _ octets = not_explained octets

unfoldable pub unlabelled_lines : List ℕ → List ℕ
unlabelled_lines octets = guessed_or_not (parts_of (in_front octets)) octets

-- ---- by the label

unfoldable pub bundle_or_not : Option Place → List ℕ → List ℕ
bundle_or_not None octets = not_explained octets
bundle_or_not (Some p) octets = bundle_lines octets p

unfoldable pub bundle_or_guessed : Option Place → List ℕ → List ℕ
bundle_or_guessed None octets = unlabelled_lines octets
bundle_or_guessed (Some p) octets = bundle_lines octets p
