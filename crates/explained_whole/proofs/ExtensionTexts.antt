-- The texts of extensions are indented.
use Rattle.std.proofs.Common.{◌≡◌, ℕ, zero, suc, ◌+◌, ◌==◌, Bool, true, false, cond, List, [], ◌∷◌, ◌++◌, codes, decimal, drop, take, length, nat_eq, nat_le, slice_get, Option, Some, None, refl}
use Rattle.std.specs.Cmp.Lexicographic.{pointwise}
use Rattle.std.specs.List.{join_by, list_all}
use Rattle.std.specs.Prelude.{unwrap_or}
use Rattle.std.specs.Str.{chars}
use Rattle.asn1_core.specs.Bits.{Bits, has_bit}
use Rattle.asn1_core.specs.Binds.{and_true}
use Rattle.asn1_core.specs.StringTypes.{pairs}
use Rattle.der_tree.specs.CharacterStrings.{ia5_string}
use Rattle.der_tree.specs.Codec.{Codec}
use Rattle.der_tree.specs.Form.{value_of}
use Rattle.der_tree.specs.PrimitiveTypes.{integer, object_identifier}
use Rattle.pkix_cert.specs.declared.constraint.BasicConstraints.{BasicConstraints}
use Rattle.pkix_cert.specs.declared.constraint.GeneralSubtree.{GeneralSubtree}
use Rattle.pkix_cert.specs.declared.constraint.NameConstraints.{NameConstraints}
use Rattle.pkix_cert.specs.declared.distribution.DistributionPoint.{DistributionPoint}
use Rattle.pkix_cert.specs.declared.distribution.DistributionPointName.{DistributionPointName}
use Rattle.pkix_cert.specs.declared.distribution.DistributionPointName.TheVariants.{FullName, NameRelativeToCrlIssuer}
use Rattle.pkix_cert.specs.declared.distribution.IssuingDistributionPoint.{IssuingDistributionPoint}
use Rattle.pkix_cert.specs.declared.key_identifier.AuthorityKeyIdentifier.{AuthorityKeyIdentifier}
use Rattle.pkix_cert.specs.declared.revocation.CrlReason.{CrlReason}
use Rattle.pkix_cert.specs.declared.revocation.CrlReason.TheVariants as reason
use Rattle.pkix_name.specs.GeneralNames.{edi_party_name}
use Rattle.pkix_name.specs.declared.general_name.GeneralName.{GeneralName}
use Rattle.pkix_name.specs.declared.general_name.GeneralName.TheVariants as names
use Rattle.pkix_trust.specs.Notices.{user_notice}
use Rattle.pkix_trust.specs.declared.access.AccessDescription.{AccessDescription}
use Rattle.pkix_trust.specs.declared.notice.DisplayText.{DisplayText}
use Rattle.pkix_trust.specs.declared.notice.DisplayText.TheVariants.{Ia5String, VisibleString, BmpString, Utf8String}
use Rattle.pkix_trust.specs.declared.notice.NoticeReference.{NoticeReference}
use Rattle.pkix_trust.specs.declared.notice.UserNotice.{UserNotice}
use Rattle.pkix_trust.specs.declared.policy.PolicyConstraints.{PolicyConstraints}
use Rattle.pkix_trust.specs.declared.policy.PolicyInformation.{PolicyInformation}
use Rattle.pkix_trust.specs.declared.policy.PolicyMapping.{PolicyMapping}
use Rattle.pkix_trust.specs.declared.policy.PolicyQualifierInfo.{PolicyQualifierInfo}
use Rattle.pkix_x400.specs.Addresses.{or_address}
use Rattle.shelf_explain.specs.Addresses.{address_text, eight_groups, four_groups, four_numbers, subnet_4, subnet_6, two_groups}
use Rattle.shelf_explain.specs.BitNames.{all_names, bit_name, key_usage_names, names_text, numbered_bits, or_none, reason_names, with_name, with_octets}
use Rattle.shelf_explain.specs.Characters.{plain, shown}
use Rattle.shelf_explain.specs.ConstraintTexts.{authority_word, basic_constraints_text, maximum_text, minimum_text, name_constraints_text, path_length_text, subtree_text, subtrees_text}
use Rattle.shelf_explain.specs.Elements.{element_at, feature_at, feature_or_unreadable, feature_text, identifier_or_other, number_or_value}
use Rattle.shelf_explain.specs.Encodings.{encoded_text, encoding_of, hex_or_nothing}
use Rattle.shelf_explain.specs.GeneralNames.{each_text, general_name_text, labelled_text, other_name_text}
use Rattle.shelf_explain.specs.Known.{identifier_text}
use Rattle.shelf_explain.specs.Lines.{below_line, each_below, hex_text, labelled, next_line}
use Rattle.shelf_explain.specs.Names.{attribute_value_text, hex_value, name_text, relative_name_text}
use Rattle.shelf_explain.specs.Notices.{display_text, notice_text, reference_text, some_reference, some_text}
use Rattle.shelf_explain.specs.Numbers.{integer_text, serial_text}
use Rattle.shelf_explain.specs.Parts.{Place}
use Rattle.shelf_explain.specs.Points.{authority_key_text, crl_reason_text, flag_text, flags_text, for_reasons_text, issuers_text, issuing_point_text, key_id_text, named_text, place_name_text, place_text, point_text, serial_of_text, some_reasons_text, some_serial_text}
use Rattle.shelf_explain.specs.PolicyTexts.{access_text, address_of_practices, both_text, constraints_text, notice_or_hex, other_notice, other_qualifier_text, plain_or_hex, policy_constraints_text, policy_mapping_text, policy_text, qualifier_text, qualifiers_text, some_notice}
use Rattle.shelf_explain.specs.Values.{plain_text}
use Rattle.explained_whole.proofs.Breaks.{attribute_value_unbroken, break_wide, decimal_unbroken, hex_unbroken, hex_value_unbroken, identifier_passes, integer_unbroken, labelled_unbroken, name_unbroken, no_break, relative_unbroken, serial_unbroken, shown_unbroken, unbroken}
use Rattle.explained_whole.proofs.Indents.{both, each, either, indented, joined, of_unbroken}
use Rattle.explained_whole.proofs.PartTexts.{below_indented, hex_indented, labelled_indented, next_indented, unreadable_indented}
use Rattle.explained_whole.proofs.Texts.{all_append, all_cond, all_flat, all_joined}

-- ---- texts of one line

plain_unbroken : (code : ℕ) → unbroken (plain code)
unfolding plain
plain_unbroken code = all_cond no_break (code == 92) (codes "\\\\") (shown code) refl (shown_unbroken code)

plain_text_unbroken : (characters : List ℕ) → unbroken (plain_text characters)
unfolding plain_text
plain_text_unbroken characters = all_flat no_break plain plain_unbroken characters

plain_indented : (characters : List ℕ) → indented (plain_text characters)
plain_indented characters = of_unbroken (plain_text characters) (plain_text_unbroken characters)

identifier_indented : (arcs : List ℕ) → indented (identifier_text arcs)
identifier_indented arcs = of_unbroken (identifier_text arcs) (identifier_passes no_break break_wide arcs)

integer_indented : (octets : List ℕ) → indented (integer_text octets)
integer_indented octets = of_unbroken (integer_text octets) (integer_unbroken octets)

hex_value_indented : (octets : List ℕ) → indented (hex_value octets)
hex_value_indented octets = of_unbroken (hex_value octets) (hex_value_unbroken octets)

value_indented : (octets : List ℕ) → indented (attribute_value_text octets)
value_indented octets = of_unbroken (attribute_value_text octets) (attribute_value_unbroken octets)

-- ---- bits

with_name_unbroken : (so_far : List ℕ) (b : Bool) (name : List ℕ) → unbroken so_far → unbroken name → unbroken (with_name so_far b name)
unfolding with_name
with_name_unbroken so_far false name h k = h
with_name_unbroken [] true name h k = k
with_name_unbroken (c ∷ more) true name h k = all_append no_break ((c ∷ more) ++ codes ", ") name (all_append no_break (c ∷ more) (codes ", ") h refl) k

abbrev all_unbroken : List (List ℕ) → Bool
all_unbroken texts = list_all (λ (t : List ℕ). list_all no_break t) texts

bit_unbroken : (table : List (List ℕ)) (i : ℕ) (number : List ℕ) → all_unbroken table ≡ true → unbroken number → unbroken (unwrap_or (slice_get table i) number)
bit_unbroken [] i number h k = k
bit_unbroken (t ∷ ts) zero number h k = (and_true (list_all no_break t) (all_unbroken ts) h).0
bit_unbroken (t ∷ ts) (suc i) number h k = bit_unbroken ts i number (and_true (list_all no_break t) (all_unbroken ts) h).1 k

bit_name_unbroken : (table : List (List ℕ)) (i : ℕ) (number : List ℕ) → all_unbroken table ≡ true → unbroken number → unbroken (bit_name table i number)
unfolding bit_name
bit_name_unbroken table i number h k = bit_unbroken table i number h k

all_names_unbroken : (bits : Bits) (table numbers : List (List ℕ)) (i : ℕ) (so_far : List ℕ) → all_unbroken table ≡ true → all_unbroken numbers ≡ true
    → unbroken so_far → unbroken (all_names bits table numbers i so_far)
unfolding all_names
all_names_unbroken bits table [] i so_far h k l = l
all_names_unbroken bits table (number ∷ more) i so_far h k l =
    let q = and_true (list_all no_break number) (all_unbroken more) k in
    all_names_unbroken bits table more (i + 1) (with_name so_far (has_bit bits i) (bit_name table i number)) h q.1
    (with_name_unbroken so_far (has_bit bits i) (bit_name table i number) l (bit_name_unbroken table i number h q.0))

or_none_unbroken : (x : List ℕ) → unbroken x → unbroken (or_none x)
unfolding or_none
or_none_unbroken [] h = refl
or_none_unbroken (c ∷ x) h = h

with_octets_unbroken : (x octets : List ℕ) → unbroken x → unbroken (with_octets x octets)
unfolding with_octets
with_octets_unbroken x octets h =
    all_cond no_break (nat_le (length octets) 4) x (with_name x true (codes "octets " ++ hex_text octets)) h
    (with_name_unbroken x true (codes "octets " ++ hex_text octets) h (all_append no_break (codes "octets ") (hex_text octets) refl (hex_unbroken octets)))

numbers_unbroken : all_unbroken numbered_bits ≡ true
unfolding numbered_bits
numbers_unbroken = refl

names_unbroken : (table : List (List ℕ)) (bits : Bits) → all_unbroken table ≡ true → unbroken (names_text table bits)
unfolding names_text
names_unbroken table bits h =
    or_none_unbroken (with_octets (all_names bits table numbered_bits 0 []) bits.bytes)
    (with_octets_unbroken (all_names bits table numbered_bits 0 []) bits.bytes (all_names_unbroken bits table numbered_bits 0 [] h numbers_unbroken refl))

usages_unbroken : all_unbroken key_usage_names ≡ true
unfolding key_usage_names
usages_unbroken = refl

reason_names_unbroken : all_unbroken reason_names ≡ true
unfolding reason_names
reason_names_unbroken = refl

pub key_usage_indented : (bits : Bits) → indented (names_text key_usage_names bits)
key_usage_indented bits = of_unbroken (names_text key_usage_names bits) (names_unbroken key_usage_names bits usages_unbroken)

reasons_indented : (bits : Bits) → indented (names_text reason_names bits)
reasons_indented bits = of_unbroken (names_text reason_names bits) (names_unbroken reason_names bits reason_names_unbroken)

-- ---- names

two_unbroken : (x : List ℕ) → unbroken (two_groups x)
unfolding two_groups
two_unbroken x =
    all_append no_break (hex_text (take 2 x) ++ codes ":") (hex_text (drop 2 x)) (all_append no_break (hex_text (take 2 x)) (codes ":") (hex_unbroken (take 2 x)) refl)
    (hex_unbroken (drop 2 x))

four_unbroken : (x : List ℕ) → unbroken (four_groups x)
unfolding four_groups
four_unbroken x =
    all_append no_break (two_groups (take 4 x) ++ codes ":") (two_groups (drop 4 x)) (all_append no_break (two_groups (take 4 x)) (codes ":") (two_unbroken (take 4 x)) refl)
    (two_unbroken (drop 4 x))

eight_unbroken : (x : List ℕ) → unbroken (eight_groups x)
unfolding eight_groups
eight_unbroken x =
    all_append no_break (four_groups (take 8 x) ++ codes ":") (four_groups (drop 8 x)) (all_append no_break (four_groups (take 8 x)) (codes ":") (four_unbroken (take 8 x)) refl)
    (four_unbroken (drop 8 x))

numbers_of_four_unbroken : (x : List ℕ) → unbroken (four_numbers x)
unfolding four_numbers
numbers_of_four_unbroken x = all_joined no_break decimal (codes ".") decimal_unbroken refl x

subnet_4_unbroken : (x : List ℕ) → unbroken (subnet_4 x)
unfolding subnet_4
subnet_4_unbroken x =
    all_append no_break (four_numbers (take 4 x) ++ codes "/") (four_numbers (drop 4 x))
    (all_append no_break (four_numbers (take 4 x)) (codes "/") (numbers_of_four_unbroken (take 4 x)) refl) (numbers_of_four_unbroken (drop 4 x))

subnet_6_unbroken : (x : List ℕ) → unbroken (subnet_6 x)
unfolding subnet_6
subnet_6_unbroken x =
    all_append no_break (eight_groups (take 16 x) ++ codes "/") (eight_groups (drop 16 x))
    (all_append no_break (eight_groups (take 16 x)) (codes "/") (eight_unbroken (take 16 x)) refl) (eight_unbroken (drop 16 x))

address_unbroken : (x : List ℕ) → unbroken (address_text x)
unfolding address_text
address_unbroken x =
    all_cond no_break (length x == 4) (four_numbers x)
    (cond (length x == 8) (subnet_4 x) (cond (length x == 16) (eight_groups x) (cond (length x == 32) (subnet_6 x) (hex_value x))))
    (numbers_of_four_unbroken x)
    (all_cond no_break (length x == 8) (subnet_4 x) (cond (length x == 16) (eight_groups x) (cond (length x == 32) (subnet_6 x) (hex_value x))) (subnet_4_unbroken x)
    (all_cond no_break (length x == 16) (eight_groups x) (cond (length x == 32) (subnet_6 x) (hex_value x)) (eight_unbroken x)
    (all_cond no_break (length x == 32) (subnet_6 x) (hex_value x) (subnet_6_unbroken x) (hex_value_unbroken x))))

hex_or_nothing_unbroken : (o : Option (List ℕ)) → unbroken (hex_or_nothing o)
unfolding hex_or_nothing
hex_or_nothing_unbroken None = refl
hex_or_nothing_unbroken (Some octets) = hex_value_unbroken octets

encoded_unbroken : {A : Type 0} (c : Codec A) (v : A) → unbroken (encoded_text c v)
unfolding encoded_text
encoded_unbroken c v = hex_or_nothing_unbroken (encoding_of c v)

labelled_text_unbroken : (label text : List ℕ) → unbroken label → unbroken (labelled_text label text)
unfolding labelled_text
labelled_text_unbroken label text h = all_append no_break label (plain_text text) h (plain_text_unbroken text)

other_unbroken : (arcs value : List ℕ) → unbroken (other_name_text arcs value)
unfolding other_name_text
other_unbroken arcs value =
    all_append no_break (labelled (codes "other:") (identifier_text arcs) ++ codes "=") (attribute_value_text value)
    (all_append no_break (labelled (codes "other:") (identifier_text arcs)) (codes "=")
    (labelled_unbroken (codes "other:") (identifier_text arcs) refl (identifier_passes no_break break_wide arcs)) refl) (attribute_value_unbroken value)

general_name_unbroken : (n : GeneralName) → unbroken (general_name_text n)
unfolding general_name_text
general_name_unbroken (names.OtherName name) = other_unbroken name.type_id name.value
general_name_unbroken (names.Rfc822Name text) = labelled_text_unbroken (codes "email:") text refl
general_name_unbroken (names.DnsName text) = labelled_text_unbroken (codes "DNS:") text refl
general_name_unbroken (names.X400Address address) =
    labelled_unbroken (codes "X.400 address:") (encoded_text or_address address) refl (encoded_unbroken or_address address)
general_name_unbroken (names.DirectoryName name) = labelled_unbroken (codes "directory:") (name_text name) refl (name_unbroken name)
general_name_unbroken (names.EdiPartyName name) =
    labelled_unbroken (codes "EDI party name:") (encoded_text edi_party_name name) refl (encoded_unbroken edi_party_name name)
general_name_unbroken (names.Uri text) = labelled_text_unbroken (codes "URI:") text refl
general_name_unbroken (names.IpAddress octets) = labelled_unbroken (codes "IP:") (address_text octets) refl (address_unbroken octets)
general_name_unbroken (names.RegisteredId arcs) =
    labelled_unbroken (codes "registered:") (identifier_text arcs) refl (identifier_passes no_break break_wide arcs)

pub general_name_indented : (n : GeneralName) → indented (general_name_text n)
general_name_indented n = of_unbroken (general_name_text n) (general_name_unbroken n)

pub each_text_indented : {A : Type 0} (text : A → List ℕ) → ((v : A) → indented (text v)) → (vs : List A) → indented (each_text text vs)
unfolding each_text
each_text_indented text h [] = refl
each_text_indented text h (v ∷ vs) = joined text next_line h next_indented (v ∷ vs)

each_below_indented : {A : Type 0} (text : A → List ℕ) → ((v : A) → indented (text v)) → (vs : List A) → indented (each_below text vs)
unfolding each_below
each_below_indented {A} text h vs = each (λ (v : A). below_line ++ text v) (λ (v : A). both below_line (text v) below_indented (h v)) vs

names_indented : (ns : List GeneralName) → indented (each_text general_name_text ns)
names_indented ns = each_text_indented general_name_text general_name_indented ns

-- ---- where something is found, and keys

issuers_indented : (label : List ℕ) (o : Option (List GeneralName)) → indented label → indented (issuers_text label o)
unfolding issuers_text named_text
issuers_indented label None h = refl
issuers_indented label (Some ns) h =
    both next_line (labelled label (each_text general_name_text ns)) next_indented
    (labelled_indented label (each_text general_name_text ns) h (names_indented ns))

key_id_indented : (o : Option (List ℕ)) → indented (key_id_text o)
unfolding key_id_text
key_id_indented None = refl
key_id_indented (Some id) = hex_indented id

some_serial_indented : (o : Option (List ℕ)) → indented (some_serial_text o)
unfolding some_serial_text serial_of_text
some_serial_indented None = refl
some_serial_indented (Some serial) =
    both next_line (labelled (codes "serial ") (serial_text serial)) next_indented
    (labelled_indented (codes "serial ") (serial_text serial) refl (of_unbroken (serial_text serial) (serial_unbroken serial)))

pub authority_key_indented : (a : AuthorityKeyIdentifier) → indented (authority_key_text a)
unfolding authority_key_text
authority_key_indented a =
    both (key_id_text a.key_identifier ++ issuers_text (codes "issuer ") a.authority_cert_issuer) (some_serial_text a.authority_cert_serial_number)
    (both (key_id_text a.key_identifier) (issuers_text (codes "issuer ") a.authority_cert_issuer) (key_id_indented a.key_identifier)
    (issuers_indented (codes "issuer ") a.authority_cert_issuer refl)) (some_serial_indented a.authority_cert_serial_number)

place_name_indented : (n : DistributionPointName) → indented (place_name_text n)
unfolding place_name_text
place_name_indented (FullName ns) = names_indented ns
place_name_indented (NameRelativeToCrlIssuer name) =
    labelled_indented (codes "below the issuer: ") (relative_name_text name) refl (of_unbroken (relative_name_text name) (relative_unbroken name))

place_indented : (o : Option DistributionPointName) → indented (place_text o)
unfolding place_text
place_indented None = refl
place_indented (Some name) = place_name_indented name

some_reasons_indented : (o : Option Bits) → indented (some_reasons_text o)
unfolding some_reasons_text for_reasons_text
some_reasons_indented None = refl
some_reasons_indented (Some reasons) =
    both next_line (labelled (codes "reasons ") (names_text reason_names reasons)) next_indented
    (labelled_indented (codes "reasons ") (names_text reason_names reasons) refl (reasons_indented reasons))

pub point_indented : (p : DistributionPoint) → indented (point_text p)
unfolding point_text
point_indented p =
    both (place_text p.distribution_point ++ some_reasons_text p.reasons) (issuers_text (codes "CRL issuer ") p.crl_issuer)
    (both (place_text p.distribution_point) (some_reasons_text p.reasons) (place_indented p.distribution_point) (some_reasons_indented p.reasons))
    (issuers_indented (codes "CRL issuer ") p.crl_issuer refl)

flag_indented : (b : Bool) (name : List ℕ) → indented name → indented (flag_text b name)
unfolding flag_text
flag_indented true name h = both next_line name next_indented h
flag_indented false name h = refl

flags_indented : (p : IssuingDistributionPoint) → indented (flags_text p)
unfolding flags_text
flags_indented p =
    let a : List ℕ = flag_text p.only_contains_user_certs (codes "only user certificates") in
    let b : List ℕ = flag_text p.only_contains_ca_certs (codes "only CA certificates") in
    let c : List ℕ = flag_text p.only_contains_attribute_certs (codes "only attribute certificates") in
    let d : List ℕ = flag_text p.indirect_crl (codes "indirect") in
    both (a ++ b ++ c) d
    (both (a ++ b) c
    (both a b (flag_indented p.only_contains_user_certs (codes "only user certificates") refl) (flag_indented p.only_contains_ca_certs (codes "only CA certificates") refl))
    (flag_indented p.only_contains_attribute_certs (codes "only attribute certificates") refl))
    (flag_indented p.indirect_crl (codes "indirect") refl)

pub issuing_point_indented : (p : IssuingDistributionPoint) → indented (issuing_point_text p)
unfolding issuing_point_text
issuing_point_indented p =
    both (place_text p.distribution_point ++ flags_text p) (some_reasons_text p.only_some_reasons)
    (both (place_text p.distribution_point) (flags_text p) (place_indented p.distribution_point) (flags_indented p)) (some_reasons_indented p.only_some_reasons)

pub reason_indented : (r : CrlReason) → indented (crl_reason_text r)
unfolding crl_reason_text
reason_indented reason.Unspecified = refl
reason_indented _ = refl

-- ---- constraints

path_length_indented : (o : Option (List ℕ)) → indented (path_length_text o)
unfolding path_length_text
path_length_indented None = refl
path_length_indented (Some n) = labelled_indented (codes ", path length ") (integer_text n) refl (integer_indented n)

word_indented : (b : Bool) → indented (authority_word b)
unfolding authority_word
word_indented true = refl
word_indented false = refl

pub basic_constraints_indented : (c : BasicConstraints) → indented (basic_constraints_text c)
unfolding basic_constraints_text
basic_constraints_indented c =
    both (authority_word c.ca) (path_length_text c.path_len_constraint) (word_indented c.ca) (path_length_indented c.path_len_constraint)

minimum_indented : (n : List ℕ) → indented (minimum_text n)
unfolding minimum_text
minimum_indented n =
    either (pointwise nat_eq n (0 ∷ [])) [] (labelled (codes ", minimum ") (integer_text n)) refl (labelled_indented (codes ", minimum ") (integer_text n) refl (integer_indented n))

maximum_indented : (o : Option (List ℕ)) → indented (maximum_text o)
unfolding maximum_text
maximum_indented None = refl
maximum_indented (Some n) = labelled_indented (codes ", maximum ") (integer_text n) refl (integer_indented n)

subtree_indented : (s : GeneralSubtree) → indented (subtree_text s)
unfolding subtree_text
subtree_indented s =
    both (general_name_text s.base ++ minimum_text s.minimum) (maximum_text s.maximum)
    (both (general_name_text s.base) (minimum_text s.minimum) (general_name_indented s.base) (minimum_indented s.minimum)) (maximum_indented s.maximum)

subtrees_indented : (without : List ℕ) (o : Option (List GeneralSubtree)) → indented without → indented (subtrees_text without o)
unfolding subtrees_text
subtrees_indented without None h = h
subtrees_indented without (Some subtrees) h = each_below_indented subtree_text subtree_indented subtrees

pub name_constraints_indented : (c : NameConstraints) → indented (name_constraints_text c)
unfolding name_constraints_text
name_constraints_indented c =
    let a : List ℕ = labelled (codes "permitted:") (subtrees_text (codes " any") c.permitted_subtrees) in
    let b : List ℕ = labelled (codes "excluded:") (subtrees_text (codes " none") c.excluded_subtrees) in
    both (a ++ next_line) b
    (both a next_line
    (labelled_indented (codes "permitted:") (subtrees_text (codes " any") c.permitted_subtrees) refl (subtrees_indented (codes " any") c.permitted_subtrees refl)) next_indented)
    (labelled_indented (codes "excluded:") (subtrees_text (codes " none") c.excluded_subtrees) refl (subtrees_indented (codes " none") c.excluded_subtrees refl))

-- ---- policies

plain_or_hex_indented : (o : Option (List ℕ)) (octets : List ℕ) → indented (plain_or_hex o octets)
unfolding plain_or_hex
plain_or_hex_indented (Some text) octets = plain_indented text
plain_or_hex_indented None octets = hex_value_indented octets

display_indented : (t : DisplayText) → indented (display_text t)
unfolding display_text
display_indented (Ia5String contents) = plain_indented contents
display_indented (VisibleString contents) = plain_indented contents
display_indented (BmpString contents) = plain_indented (pairs contents)
display_indented (Utf8String contents) = plain_indented (chars contents)

reference_indented : (r : NoticeReference) → indented (reference_text r)
unfolding reference_text
reference_indented r =
    both (display_text r.organisation ++ codes " number ") (join_by integer_text (codes ", ") r.notice_numbers)
    (both (display_text r.organisation) (codes " number ") (display_indented r.organisation) refl)
    (joined integer_text (codes ", ") integer_indented refl r.notice_numbers)

some_reference_indented : (o : Option NoticeReference) → indented (some_reference o)
unfolding some_reference
some_reference_indented None = refl
some_reference_indented (Some r) = labelled_indented (codes " of ") (reference_text r) refl (reference_indented r)

some_text_indented : (o : Option DisplayText) → indented (some_text o)
unfolding some_text
some_text_indented None = refl
some_text_indented (Some text) = labelled_indented (codes ": ") (display_text text) refl (display_indented text)

notice_indented : (n : UserNotice) → indented (notice_text n)
unfolding notice_text
notice_indented n = both (some_reference n.notice_ref) (some_text n.explicit_text) (some_reference_indented n.notice_ref) (some_text_indented n.explicit_text)

some_notice_indented : (o : Option UserNotice) (octets : List ℕ) → indented (some_notice o octets)
unfolding some_notice other_notice
some_notice_indented (Some notice) octets = notice_indented notice
some_notice_indented None octets = both (codes " ") (hex_value octets) refl (hex_value_indented octets)

other_qualifier_indented : (q : PolicyQualifierInfo) → indented (other_qualifier_text q)
unfolding other_qualifier_text
other_qualifier_indented q =
    both (identifier_text q.id ++ codes " ") (hex_value q.qualifier) (both (identifier_text q.id) (codes " ") (identifier_indented q.id) refl) (hex_value_indented q.qualifier)

qualifier_indented : (q : PolicyQualifierInfo) → indented (qualifier_text q)
unfolding qualifier_text address_of_practices notice_or_hex
qualifier_indented q =
    let cps : List ℕ = labelled (codes "CPS ") (plain_or_hex (value_of ia5_string q.qualifier) q.qualifier) in
    let notice : List ℕ = labelled (codes "notice") (some_notice (value_of user_notice q.qualifier) q.qualifier) in
    let is_notice : Bool = pointwise nat_eq q.id (1 ∷ 3 ∷ 6 ∷ 1 ∷ 5 ∷ 5 ∷ 7 ∷ 2 ∷ 2 ∷ []) in
    either (pointwise nat_eq q.id (1 ∷ 3 ∷ 6 ∷ 1 ∷ 5 ∷ 5 ∷ 7 ∷ 2 ∷ 1 ∷ [])) cps (cond is_notice notice (other_qualifier_text q))
    (labelled_indented (codes "CPS ") (plain_or_hex (value_of ia5_string q.qualifier) q.qualifier) refl (plain_or_hex_indented (value_of ia5_string q.qualifier) q.qualifier))
    (either is_notice notice (other_qualifier_text q)
    (labelled_indented (codes "notice") (some_notice (value_of user_notice q.qualifier) q.qualifier) refl (some_notice_indented (value_of user_notice q.qualifier) q.qualifier))
    (other_qualifier_indented q))

qualifiers_indented : (o : Option (List PolicyQualifierInfo)) → indented (qualifiers_text o)
unfolding qualifiers_text
qualifiers_indented None = refl
qualifiers_indented (Some qs) = each_below_indented qualifier_text qualifier_indented qs

pub policy_indented : (p : PolicyInformation) → indented (policy_text p)
unfolding policy_text
policy_indented p =
    both (identifier_text p.policy_identifier) (qualifiers_text p.policy_qualifiers) (identifier_indented p.policy_identifier) (qualifiers_indented p.policy_qualifiers)

required_indented : (n : List ℕ) → indented (labelled (codes "explicit policy required after ") (integer_text n))
required_indented n = labelled_indented (codes "explicit policy required after ") (integer_text n) refl (integer_indented n)

inhibited_indented : (n : List ℕ) → indented (labelled (codes "mapping inhibited after ") (integer_text n))
inhibited_indented n = labelled_indented (codes "mapping inhibited after ") (integer_text n) refl (integer_indented n)

constraints_indented : (a b : Option (List ℕ)) → indented (constraints_text a b)
unfolding constraints_text both_text
constraints_indented None None = refl
constraints_indented (Some n) None = required_indented n
constraints_indented None (Some m) = inhibited_indented m
constraints_indented (Some n) (Some m) =
    both (labelled (codes "explicit policy required after ") (integer_text n) ++ codes ", ") (labelled (codes "mapping inhibited after ") (integer_text m))
    (both (labelled (codes "explicit policy required after ") (integer_text n)) (codes ", ") (required_indented n) refl) (inhibited_indented m)

pub policy_constraints_indented : (c : PolicyConstraints) → indented (policy_constraints_text c)
unfolding policy_constraints_text
policy_constraints_indented c = constraints_indented c.require_explicit_policy c.inhibit_policy_mapping

pub policy_mapping_indented : (m : PolicyMapping) → indented (policy_mapping_text m)
unfolding policy_mapping_text
policy_mapping_indented m =
    both (identifier_text m.issuer_domain_policy) (labelled (codes " -> ") (identifier_text m.subject_domain_policy)) (identifier_indented m.issuer_domain_policy)
    (labelled_indented (codes " -> ") (identifier_text m.subject_domain_policy) refl (identifier_indented m.subject_domain_policy))

pub access_indented : (a : AccessDescription) → indented (access_text a)
unfolding access_text
access_indented a =
    both (identifier_text a.access_method ++ codes " ") (general_name_text a.access_location)
    (both (identifier_text a.access_method) (codes " ") (identifier_indented a.access_method) refl) (general_name_indented a.access_location)

-- ---- elements

feature_indented : (n : List ℕ) → indented (feature_text n)
unfolding feature_text
feature_indented n =
    either (pointwise nat_eq n (5 ∷ [])) (codes "status request (must-staple)")
    (cond (pointwise nat_eq n (17 ∷ [])) (codes "status request, version 2") (integer_text n)) refl
    (either (pointwise nat_eq n (17 ∷ [])) (codes "status request, version 2") (integer_text n) refl (integer_indented n))

some_feature_indented : (o : Option (List ℕ)) (p : Place) → indented (feature_or_unreadable o p)
unfolding feature_or_unreadable
some_feature_indented None p = unreadable_indented p
some_feature_indented (Some n) p = feature_indented n

pub feature_at_indented : (p : Place) → indented (feature_at p)
unfolding feature_at
feature_at_indented p = some_feature_indented (value_of integer p.octets) p

number_indented : (o : Option (List ℕ)) (octets : List ℕ) → indented (number_or_value o octets)
unfolding number_or_value
number_indented (Some n) octets = integer_indented n
number_indented None octets = value_indented octets

other_element_indented : (o : Option (List ℕ)) (octets : List ℕ) → indented (identifier_or_other o octets)
unfolding identifier_or_other
other_element_indented (Some arcs) octets = identifier_indented arcs
other_element_indented None octets = number_indented (value_of integer octets) octets

pub element_at_indented : (p : Place) → indented (element_at p)
unfolding element_at
element_at_indented p = other_element_indented (value_of object_identifier p.octets) p.octets
